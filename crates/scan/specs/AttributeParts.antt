-- The attribute that stands in a text from a place on, by the places of its parts.
--     has_quote          = stands behind a name, and a quote behind it
--     ValueBegun        where the value begins of the attribute whose name begins at a place
--     attribute_from     the attribute whose name begins at a place, behind the white space from another
--     FirstFails        where attributes are read from a place on, the first doesn't pass a test
--     AttributeThere    the attribute from a place on, behind white space, by the places of its parts
--     AttributeRead     such an attribute, or none
-- Assumes nothing.
use Rattle.std.specs.Prelude.{ℕ, ◌+◌, ◌-◌, ◌≤◌, ◌<◌, ◌≡◌, Bool, true, false, ◌&&◌, List, ◌∷◌, eqb, length, take, drop, Option, Some, None, Result, Ok, Err}
use Rattle.xml.specs.Bytes.{is_space, run}
use Rattle.xml.specs.Tree.{Attribute}
use Rattle.xml.specs.Scanning.{first_byte, from_equals, from_quote, attributed, attribute_of, with_attribute, attributes_of}
use Rattle.scan.specs.declared.attributes.AttributePlaces.{AttributePlaces}

abbrev pub has_quote : List ℕ → Bool
has_quote s = eqb (first_byte (from_equals s)) 0x3d && eqb (first_byte (from_quote s)) 0x22

abbrev pub ValueBegun : List ℕ → ℕ → Result ℕ ℕ → Type 0
ValueBegun t at (Ok p) =
    (has_quote (drop at t) ≡ true) × (drop 1 (from_quote (drop at t)) ≡ drop p t) × (at < p) × (p ≤ length t)
ValueBegun t at (Err p) = has_quote (drop at t) ≡ false

abbrev pub attribute_from : List ℕ → ℕ → ℕ → Attribute
attribute_from t at name = attribute_of (run is_space (drop at t)) (drop name t)

abbrev pub FirstFails : (Attribute → Bool) → List ℕ → ℕ → Type 0
FirstFails test t at =
    (a : Attribute) (more : List Attribute) (space z : List ℕ) → attributes_of (drop at t) ≡ attributed (a ∷ more) space z
    → test a ≡ false

pub record AttributeThere (t : List ℕ) (at : ℕ) (a : AttributePlaces) : Type 0 where
  pub read : attributes_of (drop at t) ≡ with_attribute (attribute_from t at a.name) (attributes_of (drop (a.close + 1) t))
  pub name-is : take (a.end - a.name) (drop a.name t) ≡ (attribute_from t at a.name).name
  pub value-is : take (a.close - a.value) (drop a.value t) ≡ (attribute_from t at a.name).value
  pub behind : at ≤ a.name
  pub name-first : a.name < a.value
  pub name-ends : a.name ≤ a.end
  pub name-within : a.end ≤ length t
  pub value-ends : a.value ≤ a.close
  pub within : a.close < length t

abbrev pub AttributeRead : List ℕ → ℕ → Option AttributePlaces → Type 0
AttributeRead t at (Some a) = AttributeThere t at a
AttributeRead t at None = (test : Attribute → Bool) → FirstFails test t at
