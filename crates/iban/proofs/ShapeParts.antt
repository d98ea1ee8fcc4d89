-- What the shape of an IBAN tells of its parts, and that it has no padding. Assumes nothing.
use mathlib.Core.Path.{◌≡◌}
use mathlib.Core.Bool.{Bool, true, ◌&&◌}
use mathlib.Core.List.{List, [], ◌∷◌}
use Prim.Native.Nat.{ℕ, ◌-◌, ◌≤◌}
use native.Mathlib.Omega.{arith}
use borrow.Author.Tests.{leb-true}
use lib.Dec.{leb}
use lib.ListN.{length, take, drop}
use Rattle.fields.specs.Text.{unpadded}
use Rattle.fields.proofs.Tests.{and_left, and_right}
use Rattle.fields.proofs.Padding.{unpadded-whole}
use Rattle.classes.specs.Class.{is_in, all_in}
use Rattle.classes.specs.declared.Class.TheVariants.{Capital, Digit, CapitalOrDigit}
use Rattle.classes.proofs.All.{none-zero}
use Rattle.iban.specs.Iban.{iban_shape}
use Rattle.iban.proofs.IbanShape.{capital-spelt, digit-spelt}

module _ (s : List ℕ) (e : iban_shape s ≡ true) where
  abbrev lengths : Bool
  lengths = leb 5 (length s) && leb (length s) 34

  abbrev country : Bool
  country = all_in Capital (take 2 s)

  abbrev check : Bool
  check = all_in Digit (take 2 (drop 2 s))

  fronted : (lengths && country && check) ≡ true
  fronted = and_left (lengths && country && check) (all_in CapitalOrDigit (drop 4 s)) e

  bounds : lengths ≡ true
  bounds = and_left lengths country (and_left (lengths && country) check fronted)

  pub shape-least : 5 ≤ length s
  shape-least = leb-true 5 (length s) (and_left (leb 5 (length s)) (leb (length s) 34) bounds)

  pub shape-most : length s ≤ 34
  shape-most = leb-true (length s) 34 (and_right (leb 5 (length s)) (leb (length s) 34) bounds)

  pub shape-country : all_in Capital (take 2 s) ≡ true
  shape-country = and_right lengths country (and_left (lengths && country) check fronted)

  pub shape-check : all_in Digit (take 2 (drop 2 s)) ≡ true
  shape-check = and_right (lengths && country) check fronted

  shape-rest : all_in CapitalOrDigit (drop 4 s) ≡ true
  shape-rest = and_right (lengths && country && check) (all_in CapitalOrDigit (drop 4 s)) e

-- all are capitals and digits
all_of : {a b c d r : Bool} → a ≡ true → b ≡ true → c ≡ true → d ≡ true → r ≡ true → (a && (b && (c && (d && r)))) ≡ true
all_of p q r s t = rw (p, q, r, s, t)

pub shape-spelt : (s : List ℕ) → iban_shape s ≡ true → all_in CapitalOrDigit s ≡ true
shape-spelt [] e = absurd (omega (arith, shape-least [] e))
shape-spelt (a ∷ []) e = absurd (omega (arith, shape-least (a ∷ []) e))
shape-spelt (a ∷ b ∷ []) e = absurd (omega (arith, shape-least (a ∷ b ∷ []) e))
shape-spelt (a ∷ b ∷ c ∷ []) e = absurd (omega (arith, shape-least (a ∷ b ∷ c ∷ []) e))
shape-spelt (a ∷ b ∷ c ∷ d ∷ t) e =
    let s = a ∷ b ∷ c ∷ d ∷ t in
    let letters = shape-country s e in
    let digits = shape-check s e in
    all_of
    (capital-spelt a (and_left (is_in Capital a) (is_in Capital b && true) letters))
    (capital-spelt b (and_left (is_in Capital b) true (and_right (is_in Capital a) (is_in Capital b && true) letters)))
    (digit-spelt c (and_left (is_in Digit c) (is_in Digit d && true) digits))
    (digit-spelt d (and_left (is_in Digit d) true (and_right (is_in Digit c) (is_in Digit d && true) digits)))
    (shape-rest s e)

-- so none is a zero byte, and there is no padding
pub spelt-whole : (s : List ℕ) → 1 ≤ length s → all_in CapitalOrDigit s ≡ true → unpadded s ≡ s
spelt-whole s h e = unpadded-whole s (length s - 1) (omega arith) (none-zero CapitalOrDigit s (length s - 1) e (omega arith))

pub shape-whole : (s : List ℕ) → iban_shape s ≡ true → unpadded s ≡ s
shape-whole s e = let least = shape-least s e in spelt-whole s (omega arith) (shape-spelt s e)
