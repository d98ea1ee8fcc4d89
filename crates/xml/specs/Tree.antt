-- A document as a tree, with all white space that it has.
--     Attribute    a name and its value; white space before the name, and on both sides of =
--     Tag          what stands in a start tag or a self-closing one: a name, attributes, and white space behind them
--     Element      a self-closing tag; or a start tag, what it holds, and the white space behind the name in the end tag
--     Content      what an element holds: text up to the end tag; or text, an element, and what follows
--     Prolog       nothing; or a declaration, its attributes and the white space behind them
--     Document     a prolog and the root, with white space around the root
-- Assumes nothing.
use Rattle.std.specs.Prelude.{ℕ, List}

pub record Attribute : Type 0 where
  pub space : List ℕ
  pub name : List ℕ
  pub before : List ℕ
  pub after : List ℕ
  pub value : List ℕ

pub record Tag : Type 0 where
  pub name : List ℕ
  pub attributes : List Attribute
  pub space : List ℕ

mutual
  pub data Element : Type 0 where
    self_closing : Tag → Element
    nesting : Tag → Content → List ℕ → Element

  pub data Content : Type 0 where
    last_text : List ℕ → Content
    text_then : List ℕ → Element → Content → Content

pub data Prolog : Type 0 where
  undeclared : Prolog
  declared : List Attribute → List ℕ → Prolog

pub record Document : Type 0 where
  pub prolog : Prolog
  pub space : List ℕ
  pub root : Element
  pub end : List ℕ
