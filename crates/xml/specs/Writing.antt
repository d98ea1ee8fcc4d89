-- What a tree writes, before what stands behind it. Numbers are ASCII: < 3c, / 2f, > 3e, = 3d, " 22, ? 3f.
-- Assumes nothing.
use Rattle.std.specs.Prelude.{ℕ, List, [], ◌∷◌, ◌++◌}
use Rattle.fields.specs.Text.{text}
use Rattle.xml.specs.Tree.{
  Attribute,
  Tag,
  Element,
  self_closing,
  nesting,
  Content,
  last_text,
  text_then,
  Prolog,
  undeclared,
  declared,
  Document,
}

abbrev pub written_attribute : Attribute → List ℕ → List ℕ
written_attribute a z = a.space ++ (a.name ++ (a.before ++ (0x3d ∷ (a.after ++ (0x22 ∷ (a.value ++ (0x22 ∷ z)))))))

abbrev pub written_attributes : List Attribute → List ℕ → List ℕ
written_attributes [] z = z
written_attributes (a ∷ more) z = written_attribute a (written_attributes more z)

-- a tag behind its <, without its > or />
abbrev pub written_tag : Tag → List ℕ → List ℕ
written_tag t z = t.name ++ written_attributes t.attributes (t.space ++ z)

-- the end tag of a name
abbrev pub written_end : List ℕ → List ℕ → List ℕ → List ℕ
written_end name space z = 0x3c ∷ 0x2f ∷ (name ++ (space ++ (0x3e ∷ z)))

abbrev mutual
  pub written_element : Element → List ℕ → List ℕ
  written_element (self_closing t) z = 0x3c ∷ written_tag t (0x2f ∷ 0x3e ∷ z)
  written_element (nesting t c s) z = 0x3c ∷ written_tag t (0x3e ∷ written_content c (written_end t.name s z))

  pub written_content : Content → List ℕ → List ℕ
  written_content (last_text s) z = s ++ z
  written_content (text_then s e c) z = s ++ written_element e (written_content c z)

abbrev pub written_prolog : Prolog → List ℕ → List ℕ
written_prolog undeclared z = z
written_prolog (declared more s) z = text "<?xml" ++ written_attributes more (s ++ (0x3f ∷ 0x3e ∷ z))

abbrev pub written : Document → List ℕ
written d = written_prolog d.prolog (d.space ++ written_element d.root d.end)
