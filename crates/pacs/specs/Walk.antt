-- The way through a text that the reader takes: a tag at a time, with the elements that are open. `read-written` and `written_read` in
-- proofs/ say that what it finds is the one document that the text is, so nobody has to believe it.
--     Piece       an element that was read, with the text before it
--     Frame       an open element: the text before it, its tag and row, and what it holds so far, each element with the text before it
--     Walked      nothing; or the root, the named elements met, and what stands behind the root
--     content_of, holding    what was read so far, and an element more
--     ended, ending, started, stepped    a turn: what becomes of an element that ends, of an end tag, of a start tag, of any tag
--     from_space, is_end, end_follows    an end tag of a name, and whether one stands behind a text
--     walk        on through open elements, the innermost first
--     root_walked  from the root on
--     Found       nothing; or the document and the named elements met
--     closed, behind_prolog, declared_by, prolog_read    of the parts of a text
--     found       of a whole text
-- Assumes nothing.
use Rattle.std.specs.Prelude.{ℕ, zero, suc, Bool, true, ◌&&◌, cond, List, [], ◌∷◌, ◌++◌, eqb, leb, ltb, length, take, drop}
use Rattle.fields.specs.Text.{text, same}
use Rattle.xml.specs.Bytes.{is_space, is_text, all_of, run, past}
use Rattle.xml.specs.Tree.{Tag, Element, self_closing, nesting, Content, last_text, text_then, Prolog, undeclared, declared, Document}
use Rattle.xml.specs.WellFormed.{declares, deepest, longest}
use Rattle.xml.specs.Scanning.{first_byte, Attributed, misread, attributed, attributes_of, TagRead, no_tag, opens, closes, tag_of}
use Rattle.pacs.specs.Named.{Named, named, row_of, outside}

pub record Piece : Type 0 where
  pub text : List ℕ
  pub element : Element

pub record Frame : Type 0 where
  pub before : List ℕ
  pub tag : Tag
  pub row : ℕ
  pub pieces : List Piece

abbrev pub content_of : List Piece → List ℕ → Content
content_of [] s = last_text s
content_of (p ∷ more) s = text_then p.text p.element (content_of more s)

-- an element more in an open element
abbrev pub holding : Frame → List ℕ → Element → Frame
holding f s e =
    record {
      before = f.before;
      tag = f.tag;
      row = f.row;
      pieces = f.pieces ++ (record { text = s; element = e } ∷ []);
    }

pub data Walked : Type 0 where
  astray : Walked
  arrived : Element → List Named → List ℕ → Walked

abbrev pub Onward : Type 0
Onward = List Frame → List Named → List ℕ → Walked

-- an element has ended: it is the root, or the one around it goes on
abbrev pub ended : Onward → List Frame → List ℕ → Element → List Named → List ℕ → Walked
ended onward [] s e seen z = arrived e seen z
ended onward (f ∷ fs) s e seen z = onward (holding f s e ∷ fs) seen z

-- an end tag, behind its </
abbrev pub from_space : List ℕ → List ℕ → List ℕ
from_space name z = drop (length name) z

abbrev pub is_end : List ℕ → List ℕ → Bool
is_end name z = same (take (length name) z) name && eqb (first_byte (past is_space (from_space name z))) 0x3e

abbrev pub ending : Onward → Frame → List Frame → List ℕ → List Named → List ℕ → Walked
ending onward f fs s seen z =
    let rest = from_space f.tag.name z in
    cond (is_end f.tag.name z)
    (ended onward fs f.before (nesting f.tag (content_of f.pieces s) (run is_space rest)) seen (drop 1 (past is_space rest)))
    astray

-- whether an end tag stands behind the text
abbrev pub end_follows : List ℕ → Bool
end_follows z = eqb (first_byte (drop 1 (past is_text z))) 0x2f

-- a tag that was read, in an element of a row, behind a text
abbrev pub started : Onward → List Frame → ℕ → List ℕ → List Named → TagRead → Walked
started onward fs parent s seen no_tag = astray
started onward fs parent s seen (opens t z) =
    let r = row_of parent t.name in
    cond (ltb (length fs) deepest)
    (onward (record { before = s; tag = t; row = r; pieces = [] } ∷ fs) (seen ++ named r t (run is_text z) (end_follows z)) z)
    astray
started onward fs parent s seen (closes t z) =
    cond (ltb (length fs) deepest)
    (ended onward fs s (self_closing t) (seen ++ named (row_of parent t.name) t [] true) z)
    astray

-- one tag, behind the text before it
abbrev pub stepped : Onward → Frame → List Frame → List Named → List ℕ → List ℕ → Walked
stepped onward f fs seen s z =
    cond (eqb (first_byte z) 0x3c)
    (cond (eqb (first_byte (drop 1 z)) 0x2f)
    (ending onward f fs s seen (drop 2 z))
    (started onward (f ∷ fs) f.row s seen (tag_of (drop 1 z))))
    astray

abbrev pub walk : ℕ → List Frame → List Named → List ℕ → Walked
walk zero fs seen z = astray
walk (suc n) [] seen z = astray
walk (suc n) (f ∷ fs) seen z = stepped (walk n) f fs seen (run is_text z) (past is_text z)

-- the root and what it holds
abbrev pub root_walked : List ℕ → Walked
root_walked z =
    cond (eqb (first_byte z) 0x3c) (started (walk (length z)) [] outside [] [] (tag_of (drop 1 z))) astray

pub data Found : Type 0 where
  unread : Found
  read_as : Document → List Named → Found

abbrev pub closed : Prolog → List ℕ → Walked → Found
closed p s astray = unread
closed p s (arrived e seen z) = cond (all_of is_space z) (read_as (record { prolog = p; space = s; root = e; end = z }) seen) unread

abbrev pub behind_prolog : Prolog → List ℕ → Found
behind_prolog p z = closed p (run is_space z) (root_walked (past is_space z))

abbrev pub declared_by : Attributed → Found
declared_by misread = unread
declared_by (attributed more s z) =
    cond (declares more && eqb (first_byte z) 0x3f && eqb (first_byte (drop 1 z)) 0x3e) (behind_prolog (declared more s) (drop 2 z)) unread

abbrev pub prolog_read : List ℕ → Found
prolog_read t = cond (same (take 5 t) (text "<?xml")) (declared_by (attributes_of (drop 5 t))) (behind_prolog undeclared t)

unfoldable pub found : List ℕ → Found
found t = cond (leb (length t) longest) (prolog_read t) unread
