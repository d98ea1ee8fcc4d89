-- Bytes that are all zero: by the number that they are, and part by part. Assumes nothing.
use mathlib.Core.Path.{◌≡◌, refl, sym, ◌∙◌, ap, ap₂}
use mathlib.Core.Bool.{Bool, false, ◌&&◌, and-true, and_assoc}
use mathlib.Core.List.{List, [], ◌∷◌, ◌++◌}
use Prim.Native.Nat.{ℕ, zero, suc, ◌+◌, ◌*◌, ◌^◌, ◌<◌}
use native.Mathlib.Nat.{zero-add, zero-mul, mul-pos}
use native.Mathlib.Omega.{arith}
use borrow.Author.Tests.{ne_eqb}
use lib.Dec.{eqb}
use lib.ListN.{length, get_or}
use Rattle.fields.specs.Number.{part, number, number_at}
use Rattle.fields.specs.Text.{blank}
use Rattle.fields.proofs.Stores.{part_join, part-one}
use Rattle.fields.proofs.BigEndian.{pos}

pub not-zero : (n : ℕ) → 0 < n → eqb n 0 ≡ false
not-zero n h = ne_eqb n 0 (λ e. omega arith)

sum-is-zero : (a b : ℕ) → eqb (a + b) 0 ≡ (eqb a 0 && eqb b 0)
sum-is-zero zero b = rw zero-add
sum-is-zero (suc a) b = not-zero (suc a + b) (omega arith) ∙ sym (ap (λ (z : Bool). z && eqb b 0) (not-zero (suc a) (omega arith)))

product-is-zero : (a p : ℕ) → 0 < p → eqb (a * p) 0 ≡ eqb a 0
product-is-zero zero p h = rw zero-mul
product-is-zero (suc a) p h = not-zero (suc a * p) (mul-pos (omega arith) h) ∙ sym (not-zero (suc a) (omega arith))

-- a number is 0 where all its bytes are
number-is-zero : (s : List ℕ) → eqb (number s) 0 ≡ blank s
number-is-zero [] = refl
number-is-zero (b ∷ s) =
    sum-is-zero (b * 256 ^ length s) (number s)
    ∙ ap₂ ◌&&◌ (product-is-zero b (256 ^ length s) (pos (length s))) (number-is-zero s)

pub blank-number : (w at : ℕ) (s : List ℕ) → eqb (number_at w at s) 0 ≡ blank (part w at s)
blank-number w at s = number-is-zero (part w at s)

pub blank-append : (a b : List ℕ) → blank (a ++ b) ≡ (blank a && blank b)
blank-append [] b = refl
blank-append (x ∷ a) b = ap (◌&&◌ (eqb x 0)) (blank-append a b) ∙ sym (and_assoc (eqb x 0) (blank a) (blank b))

-- v bytes and w behind them
pub blank_join : (v w at : ℕ) (s : List ℕ) → blank (part (v + w) at s) ≡ (blank (part v at s) && blank (part w (at + v) s))
blank_join v w at s = ap blank (part_join v w at s) ∙ blank-append (part v at s) (part w (at + v) s)

-- one byte
pub blank-one : (at : ℕ) (s : List ℕ) → at < length s → blank (part 1 at s) ≡ eqb (get_or s at 0) 0
blank-one at s h = ap blank (part-one at s h) ∙ and-true (eqb (get_or s at 0) 0)
