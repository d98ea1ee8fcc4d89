-- Whether the value of a field, padded or not, has the shape of an IBAN, by the bytes of the field. Assumes nothing.
use mathlib.Core.Path.{◌≡◌, refl, sym, ◌∙◌, ap}
use mathlib.Core.Bool.{Bool, true, false, ◌&&◌, not, and-false, or-true}
use mathlib.Core.List.{List, [], ◌∷◌}
use Prim.Native.Nat.{ℕ, suc, ◌≤◌}
use native.Mathlib.Omega.{arith}
use borrow.Author.Tests.{le-leb, lt-leb}
use lib.Dec.{eqb}
use lib.ListN.{length, get_or}
use Rattle.fields.specs.Text.{blank, unpadded}
use Rattle.iban.specs.Iban.{iban_shape}
use Rattle.iban.specs.Strides.{iban_front}
use Rattle.classes.specs.Class.{is_in, all_in}
use Rattle.classes.specs.declared.Class.TheVariants.{Capital, Digit, CapitalOrDigit}
use Rattle.classes.proofs.Unpadding.{value-within, value-short, blank-first, zero-inside, used-first}

-- four bytes before a field that is not blank
four-before : (a b c d : ℕ) (t : List ℕ) → blank t ≡ false → unpadded (a ∷ b ∷ c ∷ d ∷ t) ≡ a ∷ b ∷ c ∷ d ∷ unpadded t
four-before a b c d t e = simp (e, and-false)

-- two capitals, two digits, a byte that is used, and all before the padding are of the class
wider : (ca cb dc dd la lb lc ld r : Bool) → (ca ≡ true → la ≡ true) → (cb ≡ true → lb ≡ true) → (dc ≡ true → lc ≡ true)
    → (dd ≡ true → ld ≡ true)
    → (ca && cb && (dc && dd) && true && (la && (lb && (lc && (ld && r))))) ≡ (ca && (cb && true) && (dc && (dd && true)) && r)
wider false cb dc dd la lb lc ld r p q s t = refl
wider true false dc dd la lb lc ld r p q s t = refl
wider true true false dd la lb lc ld r p q s t = refl
wider true true true false la lb lc ld r p q s t = refl
wider true true true true la lb lc ld r p q s t = simp (p refl, q refl, s refl, t refl)

pub capital-spelt : (c : ℕ) → is_in Capital c ≡ true → is_in CapitalOrDigit c ≡ true
capital-spelt c h = simp h

pub digit-spelt : (c : ℕ) → is_in Digit c ≡ true → is_in CapitalOrDigit c ≡ true
digit-spelt c h = simp (h, or-true)

abbrev pub shape_tests : List ℕ → Bool
shape_tests s = iban_front s && all_in CapitalOrDigit (unpadded s)

module _ (a b c d : ℕ) (t : List ℕ) (h : length t ≤ 30) where
  shape-long : blank t ≡ true → iban_shape (unpadded (a ∷ b ∷ c ∷ d ∷ t)) ≡ false
  shape-long e = simp (lt-leb 5 (length (unpadded (a ∷ b ∷ c ∷ d ∷ t))) (omega (arith, value-short 4 (a ∷ b ∷ c ∷ d ∷ t) e)))

  shape-used : blank t ≡ false → shape_tests (a ∷ b ∷ c ∷ d ∷ t) ≡ iban_shape (unpadded (a ∷ b ∷ c ∷ d ∷ t))
  shape-used e =
      let front = is_in Capital a && is_in Capital b && (is_in Digit c && is_in Digit d) in
      ap (λ (u : List ℕ). front && not (eqb (get_or t 0 0) 0) && all_in CapitalOrDigit u) (four-before a b c d t e)
      ∙ go (eqb (get_or t 0 0) 0) refl
      ∙ sym (ap iban_shape (four-before a b c d t e))
    where
      go : (z : Bool) → eqb (get_or t 0 0) 0 ≡ z
          → (is_in Capital a && is_in Capital b && (is_in Digit c && is_in Digit d) && not z
          && all_in CapitalOrDigit (a ∷ b ∷ c ∷ d ∷ unpadded t))
          ≡ iban_shape (a ∷ b ∷ c ∷ d ∷ unpadded t)
      go true z = simp (zero-inside CapitalOrDigit t e z, and-false)
      go false z =
          let n = length (unpadded t) in
          let least = used-first t z in
          let most = value-within t in
          wider (is_in Capital a) (is_in Capital b) (is_in Digit c) (is_in Digit d)
          (is_in CapitalOrDigit a) (is_in CapitalOrDigit b) (is_in CapitalOrDigit c) (is_in CapitalOrDigit d)
          (all_in CapitalOrDigit (unpadded t))
          (capital-spelt a) (capital-spelt b) (digit-spelt c) (digit-spelt d)
          ∙ sym (simp (le-leb 5 (suc (suc (suc (suc n)))) (omega arith), le-leb (suc (suc (suc (suc n)))) 34 (omega arith)))

  shape-tested : shape_tests (a ∷ b ∷ c ∷ d ∷ t) ≡ iban_shape (unpadded (a ∷ b ∷ c ∷ d ∷ t))
  shape-tested = go (blank t) refl
    where
      go : (b' : Bool) → blank t ≡ b' → shape_tests (a ∷ b ∷ c ∷ d ∷ t) ≡ iban_shape (unpadded (a ∷ b ∷ c ∷ d ∷ t))
      go false h = shape-used h
      go true h = simp (blank-first t h, and-false) (sym (shape-long h))

pub shape-padded : (s : List ℕ) → 4 ≤ length s → length s ≤ 34 → shape_tests s ≡ iban_shape (unpadded s)
shape-padded [] least most = absurd (omega arith)
shape-padded (a ∷ []) least most = absurd (omega arith)
shape-padded (a ∷ b ∷ []) least most = absurd (omega arith)
shape-padded (a ∷ b ∷ c ∷ []) least most = absurd (omega arith)
shape-padded (a ∷ b ∷ c ∷ d ∷ t) least most = shape-tested a b c d t (omega arith)
