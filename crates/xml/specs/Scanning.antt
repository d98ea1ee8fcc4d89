-- Reading attributes and a tag from the left. `tag-opens`, `tag-closes` and the laws beside them in proofs/ say that what is read is the
-- one tag that is written there, so nobody has to believe these definitions.
--     first_byte      the first byte, 0 where there is none
--     Attributed     what is read of attributes: nothing; or the attributes, the white space behind them, and what stands there
--     from_equals, from_quote, from_close    what stands where an attribute's =, its opening and its closing quote are due
--     attribute_of, is_attribute    the attribute that a text begins with, and whether it is one
--     begins         an attribute may begin
--     with_attribute  an attribute before those that are read
--     attributes_in, attributes_of   the attributes that a text begins with, with some fuel and with enough
--     TagRead        what is read of a tag: nothing; or a start tag or a self-closing one, and what stands behind it
--     tag_ending, tag_behind    its end, and what stands behind its name
--     tag_of          the tag that a text begins with, behind its <
-- Assumes nothing.
use Rattle.std.specs.Prelude.{ℕ, zero, suc, Bool, ◌&&◌, cond, List, [], ◌∷◌, eqb, length, get_or, drop}
use Rattle.xml.specs.Bytes.{is_space, is_first, is_name, is_value, run, past}
use Rattle.xml.specs.Tree.{Attribute, Tag}
use Rattle.xml.specs.WellFormed.{distinct}

abbrev pub first_byte : List ℕ → ℕ
first_byte s = get_or s 0 0

pub data Attributed : Type 0 where
  misread : Attributed
  attributed : List Attribute → List ℕ → List ℕ → Attributed

-- what stands where an attribute's = is due, its opening quote, and its closing quote
abbrev pub from_equals : List ℕ → List ℕ
from_equals s = past is_space (past is_name s)

abbrev pub from_quote : List ℕ → List ℕ
from_quote s = past is_space (drop 1 (from_equals s))

abbrev pub from_close : List ℕ → List ℕ
from_close s = past is_value (drop 1 (from_quote s))

-- the attribute that a text begins with, behind white space
abbrev pub attribute_of : List ℕ → List ℕ → Attribute
attribute_of space s =
    record {
      space = space;
      name = run is_name s;
      before = run is_space (past is_name s);
      after = run is_space (drop 1 (from_equals s));
      value = run is_value (drop 1 (from_quote s));
    }

abbrev pub is_attribute : List ℕ → Bool
is_attribute s = eqb (first_byte (from_equals s)) 0x3d && eqb (first_byte (from_quote s)) 0x22 && eqb (first_byte (from_close s)) 0x22

-- an attribute may begin here: a name behind white space
abbrev pub begins : List ℕ → Bool
begins s = is_space (first_byte s) && is_first (first_byte (past is_space s))

abbrev pub with_attribute : Attribute → Attributed → Attributed
with_attribute a misread = misread
with_attribute a (attributed more space z) = attributed (a ∷ more) space z

abbrev pub attributes_in : ℕ → List ℕ → Attributed
attributes_in zero s = misread
attributes_in (suc n) s =
    let r = past is_space s in
    let later = with_attribute (attribute_of (run is_space s) r) (attributes_in n (drop 1 (from_close r))) in
    cond (begins s) (cond (is_attribute r) later misread) (attributed [] (run is_space s) r)

unfoldable pub attributes_of : List ℕ → Attributed
attributes_of s = attributes_in (suc (length s)) s

pub data TagRead : Type 0 where
  no_tag : TagRead
  opens : Tag → List ℕ → TagRead
  closes : Tag → List ℕ → TagRead

abbrev pub tag_ending : Tag → List ℕ → TagRead
tag_ending t z =
    cond (eqb (first_byte z) 0x3e) (opens t (drop 1 z))
    (cond (eqb (first_byte z) 0x2f && eqb (first_byte (drop 1 z)) 0x3e) (closes t (drop 2 z)) no_tag)

abbrev pub tag_behind : List ℕ → Attributed → TagRead
tag_behind name misread = no_tag
tag_behind name (attributed more space z) =
    cond (distinct more) (tag_ending (record { name = name; attributes = more; space = space }) z) no_tag

unfoldable pub tag_of : List ℕ → TagRead
tag_of s = cond (is_first (first_byte s)) (tag_behind (run is_name s) (attributes_of (past is_name s))) no_tag
