-- With how many digits characters are written, and an IBAN: 7 to 66, in 1 to 10 groups. Assumes nothing.
use mathlib.Core.Path.{◌≡◌, refl, ◌∙◌, ap}
use mathlib.Core.Bool.{Bool, true, false, not, cond}
use mathlib.Core.List.{List, [], ◌∷◌}
use Prim.Native.Nat.{ℕ, ◌*◌, ◌/◌, ◌%◌, ◌≤◌}
use native.Mathlib.Nat.{mul-suc}
use native.Mathlib.Omega.{arith}
use borrow.Author.Tests.{ne_eqb}
use lib.Dec.{ltb, eqb}
use lib.ListN.{length, take, drop, length-append, length-drop}
use lib.Seq.{take-add, length-take-le}
use Rattle.fields.proofs.Tests.{and_left, and_right}
use Rattle.classes.specs.Class.{is_in, all_in}
use Rattle.classes.specs.declared.Class.{Class}
use Rattle.classes.specs.declared.Class.TheVariants.{Capital, Digit}
use Rattle.iban.specs.Iban.{value, digits_of, digits, rearranged, iban_shape}
use Rattle.iban.specs.Groups.{iban_groups}
use Rattle.iban.proofs.SpeltNumber.{digits_append}
use Rattle.iban.proofs.Characters.{digit-digits, capital-digits}
use Rattle.iban.proofs.ShapeParts.{shape-least, shape-most, shape-country, shape-check}

-- any byte is written with one digit or two
one-or-two : (c : ℕ) → (1 ≤ length (digits_of c)) × (length (digits_of c) ≤ 2)
one-or-two c = go (ltb (value c) 10)
  where
    go : (b : Bool) → let ds = cond b (value c ∷ []) (value c / 10 ∷ value c % 10 ∷ []) in (1 ≤ length ds) × (length ds ≤ 2)
    go true = (omega arith, omega arith)
    go false = (omega arith, omega arith)

pub digits-range : (s : List ℕ) → (length s ≤ length (digits s)) × (length (digits s) ≤ 2 * length s)
digits-range [] = (omega arith, omega arith)
digits-range (c ∷ s) =
    let here = one-or-two c in
    let rest = digits-range s in
    let total = length-append (digits_of c) (digits s) in
    (omega arith, omega arith)

-- characters of a class that are written with w digits each
pub digits-each : (class : Class) (w : ℕ) → ((c : ℕ) → is_in class c ≡ true → length (digits_of c) ≡ w)
    → (s : List ℕ) → all_in class s ≡ true → length (digits s) ≡ w * length s
digits-each class w each [] e = omega arith
digits-each class w each (c ∷ s) e =
    let here = each c (and_left (is_in class c) (all_in class s) e) in
    let rest = digits-each class w each s (and_right (is_in class c) (all_in class s) e) in
    length-append (digits_of c) (digits s) ∙ omega (arith, mul-suc w (length s))

pub front-digits : (s : List ℕ) → 4 ≤ length s → all_in Capital (take 2 s) ≡ true → all_in Digit (take 2 (drop 2 s)) ≡ true
    → length (digits (take 4 s)) ≡ 6
front-digits s l country check =
    let cs = digits-each Capital 2 (λ c e. ap length (capital-digits c e)) (take 2 s) country in
    let ds = digits-each Digit 1 (λ c e. ap length (digit-digits c e)) (take 2 (drop 2 s)) check in
    let two = length-take-le 2 s (omega arith) in
    let more = length-take-le 2 (drop 2 s) (rw length-drop (omega arith)) in
    ap (λ (t : List ℕ). length (digits t)) (take-add 2 2 s)
    ∙ ap length (digits_append (take 2 s) (take 2 (drop 2 s)))
    ∙ length-append (digits (take 2 s)) (digits (take 2 (drop 2 s)))
    ∙ omega arith

-- of an IBAN
module _ (s : List ℕ) (e : iban_shape s ≡ true) where
  pub iban-digits : (7 ≤ length (digits (rearranged s))) × (length (digits (rearranged s)) ≤ 66)
  iban-digits =
      let least = shape-least s e in
      let most = shape-most s e in
      let six = front-digits s (omega arith) (shape-country s e) (shape-check s e) in
      let others = digits-range (drop 4 s) in
      let behind = length-drop 4 s in
      let total = ap length (digits_append (drop 4 s) (take 4 s)) ∙ length-append (digits (drop 4 s)) (digits (take 4 s)) in
      (omega arith, omega arith)

  pub iban-groups-range : (1 ≤ iban_groups s) × (iban_groups s ≤ 10)
  iban-groups-range = let d = iban-digits in rw e (omega arith, omega arith)

-- 0 where the shape is none, and only there
pub no-groups : (s : List ℕ) → eqb (iban_groups s) 0 ≡ not (iban_shape s)
no-groups s = go (iban_shape s) refl
  where
    go : (b : Bool) → iban_shape s ≡ b → eqb (iban_groups s) 0 ≡ not b
    go true e = ne_eqb (iban_groups s) 0 (λ z. let r = iban-groups-range s e in omega arith)
    go false e = rw e refl

-- 02, slip 4: at most ten
pub ten-groups : (s : List ℕ) → iban_groups s ≤ 10
ten-groups s = go (iban_shape s) refl
  where
    go : (b : Bool) → iban_shape s ≡ b → iban_groups s ≤ 10
    go true e = (iban-groups-range s e).1
    go false e = rw e (omega arith)
