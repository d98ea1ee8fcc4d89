-- Attributes that are read from the left are those that are written there.
--     attributes-read          right attributes are read as they are, before a byte that is neither white space nor a name's first
--     attributes-written       what is read is right, and written so
--     attributes_of-read        both for attributes_of, which reads as often as a text has bytes
--     attributes_of-written
--     attributes-fit           there are no more attributes than bytes
--     taken                    a test that passed gives the first of two answers
--     first-of-attributes      what stands behind a name is no byte of a name, where attributes and white space do
-- Assumes nothing.
use Prim.Native.Nat.{ℕ, zero, suc, ◌≤◌, ◌<◌, suc-le-suc}
use native.Mathlib.Nat.{not-suc-le-zero, le_of_suc-le-suc}
use native.Mathlib.Omega.{arith}
use mathlib.Core.Path.{◌≡◌, refl, sym, ◌∙◌, ap, ap₂, subst}
use mathlib.Core.Bool.{Bool, true, false, ◌&&◌, cond, and-false}
use mathlib.Core.List.{List, [], ◌∷◌, ◌++◌}
use lib.Dec.{eqb}
use lib.ListN.{length, drop, length-append}
use Rattle.fields.proofs.Tests.{and_left, and_right, never}
use Rattle.xml.specs.Bytes.{is_space, is_first, is_name, is_value, all_of, is_named, run, past}
use Rattle.xml.specs.Tree.{Attribute}
use Rattle.xml.specs.Writing.{written_attribute, written_attributes}
use Rattle.xml.specs.WellFormed.{spaced, right_attribute, right_attributes}
use Rattle.xml.specs.Scanning.{
  first_byte,
  Attributed,
  misread,
  attributed,
  from_equals,
  from_quote,
  from_close,
  attribute_of,
  is_attribute,
  begins,
  with_attribute,
  attributes_in,
  attributes_of,
}
use Rattle.xml.proofs.Runs.{
  run-up-to,
  past_to,
  run_of,
  past_of,
  run_past,
  all-run,
  at_byte,
  first-behind,
  space-no-name,
  first-no-space,
  zero-no-space,
  quote-no-space,
  quote-no-value,
  equals-no-space,
  equals-no-name,
  name-all,
  first-of-name,
  named-run,
}

-- what is written behind an attribute's white space, its name, its =, and its opening quote
abbrev from_value : Attribute → List ℕ → List ℕ
from_value a z = a.value ++ (0x22 ∷ z)

abbrev from_after : Attribute → List ℕ → List ℕ
from_after a z = a.after ++ (0x22 ∷ from_value a z)

abbrev from_before : Attribute → List ℕ → List ℕ
from_before a z = a.before ++ (0x3d ∷ from_after a z)

abbrev from_name : Attribute → List ℕ → List ℕ
from_name a z = a.name ++ from_before a z

made : (space : List ℕ) {name name' before before' after after' value value' : List ℕ} → name ≡ name' → before ≡ before'
    → after ≡ after' → value ≡ value'
    → ◌≡◌ {A = Attribute} (record { space = space; name = name; before = before; after = after; value = value })
    (record { space = space; name = name'; before = before'; after = after'; value = value' })
made space n b f v = cc

pub taken : {A : Type 0} (b : Bool) (x y : A) → b ≡ true → cond b x y ≡ x
taken true x y e = refl
taken false x y e = never (sym e)

left : {A : Type 0} (b : Bool) (x y : A) → b ≡ false → cond b x y ≡ y
left true x y e = never e
left false x y e = refl

-- one attribute's parts
record Parts (a : Attribute) : Type 0 where
  space : spaced a.space ≡ true
  name : is_named a.name ≡ true
  before : all_of is_space a.before ≡ true
  after : all_of is_space a.after ≡ true
  value : all_of is_value a.value ≡ true

parts : (a : Attribute) → right_attribute a ≡ true → Parts a
parts a e =
    let s = spaced a.space in
    let n = is_named a.name in
    let b = all_of is_space a.before in
    let f = all_of is_space a.after in
    let e₃ = and_left (s && n && b && f) (all_of is_value a.value) e in
    let e₂ = and_left (s && n && b) f e₃ in
    let e₁ = and_left (s && n) b e₂ in
    record {
      space = and_left s n e₁;
      name = and_right s n e₁;
      before = and_right (s && n) b e₂;
      after = and_right (s && n && b) f e₃;
      value = and_right (s && n && b && f) (all_of is_value a.value) e;
    }

spaced-all : (s : List ℕ) → spaced s ≡ true → all_of is_space s ≡ true
spaced-all [] e = never (sym e)
spaced-all (b ∷ s) e = e

first-of-spaced : (s t : List ℕ) → spaced s ≡ true → is_space (first_byte (s ++ t)) ≡ true
first-of-spaced [] t e = never (sym e)
first-of-spaced (b ∷ s) t e = and_left (is_space b) (all_of is_space s) e

-- one attribute that is written is read
module _ (a : Attribute) (z : List ℕ) (right : Parts a) where
  name-ends : is_name (first_byte (from_before a z)) ≡ false
  name-ends = first-behind is_name is_space a.before 0x3d (from_after a z) space-no-name right.before equals-no-name

  name-read : run is_name (from_name a z) ≡ a.name
  name-read = run-up-to is_name a.name (from_before a z) (name-all a.name right.name) name-ends

  name-passed : past is_name (from_name a z) ≡ from_before a z
  name-passed = past_to is_name a.name (from_before a z) (name-all a.name right.name) name-ends

  before-read : run is_space (past is_name (from_name a z)) ≡ a.before
  before-read = ap (run is_space) name-passed ∙ run_of is_space a.before 0x3d (from_after a z) right.before equals-no-space

  at-equals : from_equals (from_name a z) ≡ 0x3d ∷ from_after a z
  at-equals = ap (past is_space) name-passed ∙ past_of is_space a.before 0x3d (from_after a z) right.before equals-no-space

  after_read : run is_space (drop 1 (from_equals (from_name a z))) ≡ a.after
  after_read =
      ap (λ (s : List ℕ). run is_space (drop 1 s)) at-equals
      ∙ run_of is_space a.after 0x22 (from_value a z) right.after quote-no-space

  at-quote : from_quote (from_name a z) ≡ 0x22 ∷ from_value a z
  at-quote =
      ap (λ (s : List ℕ). past is_space (drop 1 s)) at-equals
      ∙ past_of is_space a.after 0x22 (from_value a z) right.after quote-no-space

  value_read : run is_value (drop 1 (from_quote (from_name a z))) ≡ a.value
  value_read = ap (λ (s : List ℕ). run is_value (drop 1 s)) at-quote ∙ run_of is_value a.value 0x22 z right.value quote-no-value

  at-close : from_close (from_name a z) ≡ 0x22 ∷ z
  at-close = ap (λ (s : List ℕ). past is_value (drop 1 s)) at-quote ∙ past_of is_value a.value 0x22 z right.value quote-no-value

  is_read : is_attribute (from_name a z) ≡ true
  is_read =
      ap₂ ◌&&◌
      (ap₂ ◌&&◌ (ap (λ (s : List ℕ). eqb (first_byte s) 0x3d) at-equals) (ap (λ (s : List ℕ). eqb (first_byte s) 0x22) at-quote))
      (ap (λ (s : List ℕ). eqb (first_byte s) 0x22) at-close)

  attribute-read : attribute_of a.space (from_name a z) ≡ a
  attribute-read = made a.space name-read before-read after_read value_read

  space-ends : is_space (first_byte (from_name a z)) ≡ false
  space-ends = first-no-space (first_byte (from_name a z)) (first-of-name a.name (from_before a z) right.name)

  space-read : run is_space (written_attribute a z) ≡ a.space
  space-read = run-up-to is_space a.space (from_name a z) (spaced-all a.space right.space) space-ends

  space-passed : past is_space (written_attribute a z) ≡ from_name a z
  space-passed = past_to is_space a.space (from_name a z) (spaced-all a.space right.space) space-ends

  begins-so : begins (written_attribute a z) ≡ true
  begins-so =
      ap₂ ◌&&◌
      (first-of-spaced a.space (from_name a z) right.space)
      (ap (λ (s : List ℕ). is_first (first_byte s)) space-passed ∙ first-of-name a.name (from_before a z) right.name)

  one-read : (n : ℕ) → attributes_in (suc n) (written_attribute a z) ≡ with_attribute a (attributes_in n z)
  one-read n =
      taken (begins (written_attribute a z)) _ _ begins-so
      ∙ taken (is_attribute (past is_space (written_attribute a z))) _ _ (ap is_attribute space-passed ∙ is_read)
      ∙ ap₂ (λ (h r : List ℕ). with_attribute (attribute_of h r) (attributes_in n (drop 1 (from_close r)))) space-read space-passed
      ∙ ap₂ (λ (b : Attribute) (s : List ℕ). with_attribute b (attributes_in n (drop 1 s))) attribute-read at-close

-- attributes that are written are read
attributes-read : (more : List Attribute) (space : List ℕ) (c : ℕ) (z : List ℕ) (n : ℕ) → right_attributes more ≡ true
    → all_of is_space space ≡ true → is_space c ≡ false → is_first c ≡ false → length more < n
    → attributes_in n (written_attributes more (space ++ (c ∷ z))) ≡ attributed more space (c ∷ z)
attributes-read more space c z zero right white h k fits = absurd (not-suc-le-zero fits)
attributes-read [] space c z (suc n) right white h k fits =
    let passed = past_of is_space space c z white h in
    let white-first = is_space (first_byte (space ++ (c ∷ z))) in
    let ends : begins (space ++ (c ∷ z)) ≡ false =
    ap (λ (s : List ℕ). white-first && is_first (first_byte s)) passed ∙ ap (◌&&◌ white-first) k ∙ and-false white-first in
    left (begins (space ++ (c ∷ z))) _ _ ends
    ∙ ap₂ (attributed []) (run_of is_space space c z white h) passed
attributes-read (a ∷ more) space c z (suc n) right white h k fits =
    one-read a (written_attributes more (space ++ (c ∷ z))) (parts a (and_left (right_attribute a) (right_attributes more) right)) n
    ∙ ap (with_attribute a)
    (attributes-read more space c z n (and_right (right_attribute a) (right_attributes more) right) white h k (le_of_suc-le-suc fits))

-- what is read is written so
spaced-run : (s : List ℕ) → is_space (first_byte s) ≡ true → spaced (run is_space s) ≡ true
spaced-run [] e = never (sym e ∙ zero-no-space)
spaced-run (b ∷ s) e = rw (e, e) (all-run is_space s)

module _ (s : List ℕ) (begun : begins s ≡ true) (ends : is_attribute (past is_space s) ≡ true) where
  abbrev r : List ℕ
  r = past is_space s

  abbrev found : Attribute
  found = attribute_of (run is_space s) r

  abbrev equals : Bool
  equals = eqb (first_byte (from_equals r)) 0x3d

  abbrev quote : Bool
  quote = eqb (first_byte (from_quote r)) 0x22

  equals-there : 0x3d ∷ drop 1 (from_equals r) ≡ from_equals r
  equals-there = at_byte (from_equals r) 0x3d refl (and_left equals quote (and_left (equals && quote) _ ends))

  quote-there : 0x22 ∷ drop 1 (from_quote r) ≡ from_quote r
  quote-there = at_byte (from_quote r) 0x22 refl (and_right equals quote (and_left (equals && quote) _ ends))

  close-there : 0x22 ∷ drop 1 (from_close r) ≡ from_close r
  close-there = at_byte (from_close r) 0x22 refl (and_right (equals && quote) _ ends)

  one_written : written_attribute found (drop 1 (from_close r)) ≡ s
  one_written =
      ap (λ (t : List ℕ). run is_space s ++ t)
      (ap (λ (t : List ℕ). run is_name r ++ t)
      (ap (λ (t : List ℕ). run is_space (past is_name r) ++ t)
      (ap (λ (t : List ℕ). 0x3d ∷ t)
      (ap (λ (t : List ℕ). run is_space (drop 1 (from_equals r)) ++ t)
      (ap (λ (t : List ℕ). 0x22 ∷ t)
      (ap (λ (t : List ℕ). run is_value (drop 1 (from_quote r)) ++ t) close-there ∙ run_past is_value (drop 1 (from_quote r)))
      ∙ quote-there)
      ∙ run_past is_space (drop 1 (from_equals r)))
      ∙ equals-there)
      ∙ run_past is_space (past is_name r))
      ∙ run_past is_name r)
      ∙ run_past is_space s

  one_right : right_attribute found ≡ true
  one_right =
      ap₂ ◌&&◌
      (ap₂ ◌&&◌
      (ap₂ ◌&&◌
      (ap₂ ◌&&◌ (spaced-run s (and_left (is_space (first_byte s)) _ begun)) (named-run r (and_right (is_space (first_byte s)) _ begun)))
      (all-run is_space (past is_name r)))
      (all-run is_space (drop 1 (from_equals r))))
      (all-run is_value (drop 1 (from_quote r)))

-- what holds of a reading: it is written so, and right
abbrev Holds : List ℕ → Attributed → Type 0
Holds s misread = Unit
Holds s (attributed more space z) =
    (written_attributes more (space ++ z) ≡ s) × (right_attributes more ≡ true) × (all_of is_space space ≡ true)

holds : (n : ℕ) (s : List ℕ) → Holds s (attributes_in n s)
holds zero s = tt
holds (suc n) s =
    let r = past is_space s in
    go (begins s) (is_attribute r) (attributes_in n (drop 1 (from_close r))) refl refl (holds n (drop 1 (from_close r)))
  where
    go : (x y : Bool) (later : Attributed) → begins s ≡ x → is_attribute (past is_space s) ≡ y
        → Holds (drop 1 (from_close (past is_space s))) later
        → Holds s
        (cond x (cond y (with_attribute (attribute_of (run is_space s) (past is_space s)) later) misread)
        (attributed [] (run is_space s) (past is_space s)))
    go false y later e h k = (run_past is_space s, refl, all-run is_space s)
    go true false later e h k = tt
    go true true misread e h k = tt
    go true true (attributed more space z) e h k = (
      ap (written_attribute (attribute_of (run is_space s) (past is_space s))) k.0 ∙ one_written s e h,
      ap₂ ◌&&◌ (one_right s e h) k.1,
      k.2,
    )

attributes-written : (n : ℕ) (s : List ℕ) (more : List Attribute) (space z : List ℕ) → attributes_in n s ≡ attributed more space z
    → (written_attributes more (space ++ z) ≡ s) × (right_attributes more ≡ true) × (all_of is_space space ≡ true)
attributes-written n s more space z e = subst (Holds s) e (holds n s)

-- an attribute takes a byte and more
attributes-fit : (more : List Attribute) (z : List ℕ) → length more ≤ length (written_attributes more z)
attributes-fit [] z = omega arith
attributes-fit (a ∷ more) z = simp length-append (omega (arith, attributes-fit more z))

pub attributes_of-read : (more : List Attribute) (space : List ℕ) (c : ℕ) (z : List ℕ) → right_attributes more ≡ true
    → all_of is_space space ≡ true → is_space c ≡ false → is_first c ≡ false
    → attributes_of (written_attributes more (space ++ (c ∷ z))) ≡ attributed more space (c ∷ z)
unfolding attributes_of
attributes_of-read more space c z right white h k =
    attributes-read more space c z _ right white h k (suc-le-suc (attributes-fit more (space ++ (c ∷ z))))

pub attributes_of-written : (s : List ℕ) (more : List Attribute) (space z : List ℕ) → attributes_of s ≡ attributed more space z
    → (written_attributes more (space ++ z) ≡ s) × (right_attributes more ≡ true) × (all_of is_space space ≡ true)
unfolding attributes_of
attributes_of-written s more space z e = attributes-written (suc (length s)) s more space z e

-- what stands behind a name before attributes and white space
pub first-of-attributes : (more : List Attribute) (space : List ℕ) (c : ℕ) (z : List ℕ) → right_attributes more ≡ true
    → all_of is_space space ≡ true → is_name c ≡ false → is_name (first_byte (written_attributes more (space ++ (c ∷ z)))) ≡ false
first-of-attributes [] space c z right white h = first-behind is_name is_space space c z space-no-name white h
first-of-attributes (a ∷ more) space c z right white h =
    let p = parts a (and_left (right_attribute a) (right_attributes more) right) in
    space-no-name _ (first-of-spaced a.space (from_name a (written_attributes more (space ++ (c ∷ z)))) p.space)
