-- Which documents are well formed, and what a reading of a text is.
--     spaced          white space, and some
--     right_attribute, right_attributes, right_tag, right_element, right_content, right_prolog
--                     names, white space, texts and values of such a part are such
--     has_name         an attribute of a name is among others
--     distinct        no two attributes have the same name
--     is_encoding      the name of an encoding
--     is_version, is_encoding_of, is_standalone    what a declaration may have
--     declares        they stand in their order
--     depth, depth_in  how deep elements nest: an element without others is 1
--     deepest, longest    16, and 65,520
--     well_formed      names, white space, texts and values are such, no attribute's name stands twice in its tag, and elements nest to
--                     depth 16 at most
--     Reading         a document that is well formed and written so, of at most 65,520 bytes
-- Assumes nothing.
use Rattle.std.specs.Prelude.{ℕ, suc, max, ◌≡◌, Bool, true, false, ◌&&◌, ◌||◌, not, List, [], ◌∷◌, leb, length}
use Rattle.fields.specs.Text.{text, same}
use Rattle.xml.specs.Bytes.{is_space, is_letter, is_encoding_byte, is_text, is_value, all_of, is_named}
use Rattle.xml.specs.Tree.{
  Attribute,
  Tag,
  Element,
  self_closing,
  nesting,
  Content,
  last_text,
  text_then,
  Prolog,
  undeclared,
  declared,
  Document,
}
use Rattle.xml.specs.Writing.{written}

-- XML 1.0: white space stands before every attribute
abbrev pub spaced : List ℕ → Bool
spaced [] = false
spaced (b ∷ s) = all_of is_space (b ∷ s)

abbrev pub right_attribute : Attribute → Bool
right_attribute a =
    spaced a.space && is_named a.name && all_of is_space a.before && all_of is_space a.after && all_of is_value a.value

abbrev pub right_attributes : List Attribute → Bool
right_attributes [] = true
right_attributes (a ∷ more) = right_attribute a && right_attributes more

abbrev pub has_name : List ℕ → List Attribute → Bool
has_name name [] = false
has_name name (a ∷ more) = same name a.name || has_name name more

-- XML 1.0: an attribute's name stands in a tag once
abbrev pub distinct : List Attribute → Bool
distinct [] = true
distinct (a ∷ more) = not (has_name a.name more) && distinct more

abbrev pub right_tag : Tag → Bool
right_tag t = is_named t.name && right_attributes t.attributes && distinct t.attributes && all_of is_space t.space

abbrev mutual
  pub right_element : Element → Bool
  right_element (self_closing t) = right_tag t
  right_element (nesting t c s) = right_tag t && right_content c && all_of is_space s

  pub right_content : Content → Bool
  right_content (last_text s) = all_of is_text s
  right_content (text_then s e c) = all_of is_text s && right_element e && right_content c

abbrev mutual
  pub depth : Element → ℕ
  depth (self_closing t) = 1
  depth (nesting t c s) = suc (depth_in c)

  pub depth_in : Content → ℕ
  depth_in (last_text s) = 0
  depth_in (text_then s e c) = max (depth e) (depth_in c)

-- XML 1.0: an encoding's name begins with a letter; letters, digits and . _ - follow
abbrev pub is_encoding : List ℕ → Bool
is_encoding [] = false
is_encoding (b ∷ s) = is_letter b && all_of is_encoding_byte s

abbrev pub is_version : Attribute → Bool
is_version a = same a.name (text "version") && same a.value (text "1.0")

abbrev pub is_encoding_of : Attribute → Bool
is_encoding_of a = same a.name (text "encoding") && is_encoding a.value

abbrev pub is_standalone : Attribute → Bool
is_standalone a = same a.name (text "standalone") && (same a.value (text "yes") || same a.value (text "no"))

-- XML 1.0: version, then encoding and standalone, each of the two or none
abbrev pub declares : List Attribute → Bool
declares [] = false
declares (v ∷ []) = is_version v
declares (v ∷ a ∷ []) = is_version v && (is_encoding_of a || is_standalone a)
declares (v ∷ a ∷ b ∷ []) = is_version v && is_encoding_of a && is_standalone b
declares (v ∷ a ∷ b ∷ c ∷ more) = false

abbrev pub right_prolog : Prolog → Bool
right_prolog undeclared = true
right_prolog (declared more s) = declares more && right_attributes more && all_of is_space s

abbrev pub deepest : ℕ
deepest = 16

abbrev pub longest : ℕ
longest = 65_520

-- 02, slip 3: elements nest to depth 16 at most (the root is 1)
abbrev pub well_formed : Document → Bool
well_formed d =
    right_prolog d.prolog
    && all_of is_space d.space
    && right_element d.root
    && all_of is_space d.end
    && leb (depth d.root) deepest

-- 02, slip 3: in at most 65,520 bytes
pub record Reading (t : List ℕ) : Type 0 where
  pub document : Document
  pub formed : well_formed document ≡ true
  pub writes : written document ≡ t
  pub fits : leb (length t) longest ≡ true
