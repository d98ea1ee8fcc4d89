-- Ranges that are blank, by their words. Assumes nothing.
use mathlib.Core.Path.{◌≡◌, refl, sym, ◌∙◌, ap, ap₂}
use mathlib.Core.Bool.{Bool, true, false, ◌&&◌, and-true, and-false, and_assoc, and_comm, and_self_left}
use mathlib.Core.List.{List, [], ◌∷◌}
use Prim.Native.Nat.{ℕ, zero, suc, ◌+◌, ◌*◌, ◌<◌}
use native.Mathlib.Omega.{arith}
use borrow.Author.Tests.{eqb-true}
use lib.Dec.{eqb}
use lib.ListN.{length, get_or}
use Rattle.fields.specs.Number.{part}
use Rattle.fields.specs.Text.{blank}
use Rattle.fields.proofs.Zeros.{blank_join, blank-one, not-zero}
use Rattle.index.specs.Words.{word}
use Rattle.shapes.specs.Blank.{four_are}

-- a word is 0 where all its bytes are
pub blank-word : (s : List ℕ) → eqb (word s) 0 ≡ blank s
blank-word [] = refl
blank-word (zero ∷ s) = go (word s) ∙ blank-word s
  where
    go : (n : ℕ) → eqb (0 + 256 * n) 0 ≡ eqb n 0
    go zero = refl
    go (suc n) = not-zero (0 + 256 * suc n) (omega arith) ∙ sym (not-zero (suc n) (omega arith))
blank-word (suc b ∷ s) =
    not-zero (suc b + 256 * word s) (omega arith) ∙ sym (ap (λ (z : Bool). z && blank s) (not-zero (suc b) (omega arith)))

blank-four : (at : ℕ) (t : List ℕ) → four_are 0 at t ≡ blank (part 32 at t)
blank-four at t =
    simp (
      blank-word (part 8 at t),
      blank-word (part 8 (at + 8) t),
      blank-word (part 8 (at + 16) t),
      blank-word (part 8 (at + 24) t),
      blank_join 24 8 at t,
      blank_join 16 8 at t,
      blank_join 8 8 at t,
    )

-- words that are all the first, which is zero
pub as_first : (f : ℕ → Bool) (w : ℕ) → (f w && eqb w 0) ≡ (f 0 && eqb w 0)
as_first f w = go (eqb w 0) refl
  where
    go : (b : Bool) → eqb w 0 ≡ b → (f w && eqb w 0) ≡ (f 0 && eqb w 0)
    go true e = ap (λ (n : ℕ). f n && eqb w 0) (eqb-true w 0 e)
    go false e = ap (◌&&◌ (f w)) e ∙ and-false (f w) ∙ sym (ap (◌&&◌ (f 0)) e ∙ and-false (f 0))

-- two ranges of which m bytes are the same
pub blank-overlap : (d m w at : ℕ) (t : List ℕ)
    → (blank (part (d + m) at t) && blank (part (m + w) (at + d) t)) ≡ blank (part (d + (m + w)) at t)
blank-overlap d m w at t =
    ap₂ ◌&&◌ (blank_join d m at t) (blank_join m w (at + d) t)
    ∙ once (blank (part d at t)) (blank (part m (at + d) t)) (blank (part w (at + d + m) t))
    ∙ sym (blank_join d (m + w) at t ∙ ap (◌&&◌ (blank (part d at t))) (blank_join m w (at + d) t))
  where
    once : (a b c : Bool) → ((a && b) && (b && c)) ≡ (a && (b && c))
    once a b c = and_assoc a b (b && c) ∙ ap (◌&&◌ a) (and_self_left b c)

-- the test of the first word, which comes last
first-of-four : (a b c d : Bool) → (a && b && c && d) ≡ (d && a && b && c)
first-of-four a b c true = and-true (a && b && c)
first-of-four a b c false = and-false (a && b && c)

first-of-five : (a b c d e : Bool) → (a && b && c && d && e) ≡ (e && a && b && c && d)
first-of-five a b c d true = and-true (a && b && c && d)
first-of-five a b c d false = and-false (a && b && c && d)

-- the ranges
module _ (t : List ℕ) where
  zero_word : (w at : ℕ) → w ≡ word (part 8 at t) → eqb w 0 ≡ blank (part 8 at t)
  zero_word w at e = ap (λ (n : ℕ). eqb n 0) e ∙ blank-word (part 8 at t)

  -- bytes 8 to 79, and 76 to 107
  pub from-amount : (w : ℕ) → w ≡ word (part 8 8 t) → (four_are w 16 t && four_are w 48 t && four_are w 76 t && eqb w 0) ≡ blank (part 100 8 t)
  from-amount w e =
      as_first (λ (n : ℕ). four_are n 16 t && four_are n 48 t && four_are n 76 t) w
      ∙ first-of-four (four_are 0 16 t) (four_are 0 48 t) (four_are 0 76 t) (eqb w 0)
      ∙ ap₂ ◌&&◌ (ap₂ ◌&&◌ (ap₂ ◌&&◌ (zero_word w 8 e) (blank-four 16 t) ∙ sym (blank_join 8 32 8 t)) (blank-four 48 t)
      ∙ sym (blank_join 40 32 8 t))
      (blank-four 76 t)
      ∙ blank-overlap 68 4 28 8 t

  -- bytes 27 to 106, and 107
  pub from-payee : (w x : ℕ) → w ≡ word (part 8 27 t) → x ≡ word (part 8 99 t) → 107 < length t
      → (four_are w 35 t && four_are w 67 t && eqb x w && eqb (get_or t 107 0) 0 && eqb w 0) ≡ blank (part 81 27 t)
  from-payee w x e ex h =
      as_first (λ (n : ℕ). four_are n 35 t && four_are n 67 t && eqb x n && eqb (get_or t 107 0) 0) w
      ∙ first-of-five (four_are 0 35 t) (four_are 0 67 t) (eqb x 0) (eqb (get_or t 107 0) 0) (eqb w 0)
      ∙ ap₂ ◌&&◌ (ap₂ ◌&&◌ (ap₂ ◌&&◌ (ap₂ ◌&&◌ (zero_word w 27 e) (blank-four 35 t) ∙ sym (blank_join 8 32 27 t)) (blank-four 67 t)
      ∙ sym (blank_join 40 32 27 t)) (zero_word x 99 ex) ∙ sym (blank_join 72 8 27 t)) (sym (blank-one 107 t h))
      ∙ sym (blank_join 80 1 27 t)

  -- bytes 73 to 80, and 76 to 107
  pub from-iban : (w : ℕ) → w ≡ word (part 8 73 t) → (four_are w 76 t && eqb w 0) ≡ blank (part 35 73 t)
  from-iban w e =
      as_first (λ (n : ℕ). four_are n 76 t) w
      ∙ and_comm (four_are 0 76 t) (eqb w 0)
      ∙ ap₂ ◌&&◌ (zero_word w 73 e) (blank-four 76 t)
      ∙ blank-overlap 3 5 27 73 t
