-- Two numbers are the same or not, and one is below the other or not; a limit on a sum, looked at as what is left below it.
-- Assumes nothing.
use mathlib.Core.Path.{◌≡◌, refl}
use mathlib.Core.Bool.{Bool, true, false}
use mathlib.Core.Logic.{◌⊎◌, inl, inr}
use Prim.Native.Nat.{ℕ, ◌+◌, ◌-◌, ◌≤◌, ◌<◌}
use native.Mathlib.Omega.{arith}
use borrow.Author.Tests.{eqb-true, eqb-false, lt-ltb, le-ltb, ltb-true, ltb-false}
use lib.Dec.{eqb, ltb}

pub same_or_not : (m n : ℕ) → (m ≡ n) ⊎ (m ≡ n → ⊥)
same_or_not m n = go (eqb m n) refl
  where
    go : (b : Bool) → eqb m n ≡ b → (m ≡ n) ⊎ (m ≡ n → ⊥)
    go true e = inl (eqb-true m n e)
    go false e = inr (eqb-false m n e)

pub below_or_not : (m n : ℕ) → (m < n) ⊎ (n ≤ m)
below_or_not m n = go (ltb m n) refl
  where
    go : (b : Bool) → ltb m n ≡ b → (m < n) ⊎ (n ≤ m)
    go true e = inl (ltb-true m n e)
    go false e = inr (ltb-false m n e)

pub above-limit : (most total n : ℕ) → total ≤ most → ltb most (total + n) ≡ ltb (most - total) n
above-limit most total n h = goes (ltb (most - total) n) refl
  where
    goes : (t : Bool) → ltb (most - total) n ≡ t → ltb most (total + n) ≡ t
    goes true e = lt-ltb most (total + n) (omega (arith, ltb-true (most - total) n e))
    goes false e = le-ltb most (total + n) (omega (arith, ltb-false (most - total) n e))
