-- What the test of the same bytes tells. Assumes nothing.
use mathlib.Core.Path.{◌≡◌, refl, ap, ap₂}
use mathlib.Core.Bool.{Bool, true, false, ◌&&◌}
use mathlib.Core.List.{List, [], ◌∷◌}
use Prim.Native.Nat.{ℕ, ◌+◌, ◌<◌}
use borrow.Author.Tests.{eqb-true, eq-eqb}
use lib.Dec.{eqb}
use lib.ListN.{length, get_or, drop}
use Rattle.fields.specs.Text.{same}
use Rattle.fields.proofs.FromFront.{left-from}
use Rattle.fields.proofs.Tests.{and_left, and_right}

pub same_true : (s t : List ℕ) → same s t ≡ true → s ≡ t
same_true [] [] e = refl
same_true [] (b ∷ t) e = cc
same_true (a ∷ s) [] e = cc
same_true (a ∷ s) (b ∷ t) e =
    ap₂ ◌∷◌ (eqb-true a b (and_left (eqb a b) (same s t) e)) (same_true s t (and_right (eqb a b) (same s t) e))

pub same_refl : (s : List ℕ) → same s s ≡ true
same_refl [] = refl
same_refl (a ∷ s) = simp (eq-eqb a a refl, same_refl s)

pub same-lengths : (s t : List ℕ) → (length s ≡ length t → ⊥) → same s t ≡ false
same-lengths s t h = go (same s t) refl
  where
    go : (b : Bool) → same s t ≡ b → b ≡ false
    go true e = absurd (h (ap length (same_true s t e)))
    go false e = refl

-- what is left of both from i on, by the bytes at i
pub same_from : (s t : List ℕ) (i : ℕ) → i < length s → i < length t
    → same (drop i s) (drop i t) ≡ (eqb (get_or s i 0) (get_or t i 0) && same (drop (i + 1) s) (drop (i + 1) t))
same_from s t i h k = ap₂ same (left-from s i h) (left-from t i k)
