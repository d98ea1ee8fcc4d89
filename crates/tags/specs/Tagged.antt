-- What the end of an attribute and of a tag is, in a text from a place on.
--     AttributeEnded    where the attribute ends whose name begins at a place
--     RepeatsTold       whether a name stands twice among attributes
--     Tagged            the end of a tag, beside what is read of it behind its name
-- Assumes nothing.
use Rattle.std.specs.Prelude.{ℕ, ◌≤◌, ◌<◌, ◌≡◌, Bool, true, false, not, List, length, drop, Result, Ok, Err}
use Rattle.xml.specs.Tree.{Attribute}
use Rattle.xml.specs.WellFormed.{distinct}
use Rattle.xml.specs.Scanning.{
  from_close,
  is_attribute,
  attributed,
  attributes_in,
  TagRead,
  no_tag,
  opens,
  closes,
}
use Rattle.tags.specs.declared.TagEnd.{TagEnd}
use Rattle.tags.specs.declared.TagEnd.TheVariants.{Opens, Closes}
use Rattle.tags.specs.declared.TagFault.{TagFault}

abbrev pub AttributeEnded : List ℕ → ℕ → Result ℕ ℕ → Type 0
AttributeEnded text at (Ok p) =
    (is_attribute (drop at text) ≡ true) × (drop 1 (from_close (drop at text)) ≡ drop p text) × (at < p) × (p ≤ length text)
AttributeEnded text at (Err p) = is_attribute (drop at text) ≡ false

-- for attributes that are read from a place on, count of them
abbrev pub RepeatsTold : List ℕ → ℕ → ℕ → Bool → Type 0
RepeatsTold text at count r =
    (fuel : ℕ) (more : List Attribute) (space z : List ℕ) → attributes_in fuel (drop at text) ≡ attributed more space z → count ≡ length more
    → r ≡ not (distinct more)

-- what stands from place p on, behind place at, and p is one of the text's or its end
abbrev Behind : List ℕ → ℕ → List ℕ → ℕ → Type 0
Behind text at z p = (z ≡ drop p text) × (at < p) × (p ≤ length text)

abbrev pub Tagged : List ℕ → ℕ → TagRead → Result TagEnd TagFault → Type 0
Tagged text at (opens t z) (Ok (Opens p)) = Behind text at z p
Tagged text at (opens t z) (Ok (Closes p)) = ⊥
Tagged text at (opens t z) (Err f) = ⊥
Tagged text at (closes t z) (Ok (Opens p)) = ⊥
Tagged text at (closes t z) (Ok (Closes p)) = Behind text at z p
Tagged text at (closes t z) (Err f) = ⊥
Tagged text at no_tag (Ok e) = ⊥
Tagged text at no_tag (Err f) = Unit
