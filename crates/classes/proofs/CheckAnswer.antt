-- Whether the answer of a check is 1. Assumes nothing.
use mathlib.Core.Path.{◌≡◌, refl, sym, ◌∙◌}
use mathlib.Core.Bool.{Bool, true, false}
use Prim.Native.Nat.{ℕ}
use native.Mathlib.Omega.{arith}
use lib.Dec.{eqb}
use Rattle.classes.specs.CheckAnswer.{answer}

pub answer-is-1 : (b : Bool) → eqb (answer b) 1 ≡ b
answer-is-1 true = refl
answer-is-1 false = refl

pub answered-yes : (b : Bool) {r : ℕ} → r ≡ answer b → r ≡ 1 → b ≡ true
answered-yes true e one = refl
answered-yes false e one = let absurdity : ◌≡◌ {A = ℕ} 0 1 = sym e ∙ one in absurd (omega arith)

pub answered-no : (b : Bool) {r : ℕ} → r ≡ answer b → (r ≡ 1 → ⊥) → b ≡ false
answered-no true e other = absurd (other e)
answered-no false e other = refl
