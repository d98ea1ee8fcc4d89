-- Bytes are all of a class where those up to one place and those from another are, and none stands between the two. Assumes nothing.
use mathlib.Core.Path.{◌≡◌, refl, ◌∙◌, ap}
use mathlib.Core.Bool.{Bool, true, false, ◌&&◌, and_assoc}
use mathlib.Core.List.{List, [], ◌∷◌}
use Prim.Native.Nat.{ℕ, zero, suc, ◌≤◌}
use native.Mathlib.Omega.{arith}
use lib.ListN.{take, drop}
use Rattle.classes.specs.Class.{is_in, all_in}
use Rattle.classes.specs.declared.Class.{Class}

module _ (class : Class) where
  -- the first of all
  with_first : (s : List ℕ) (k : ℕ) → (all_in class (take k s) && all_in class s) ≡ all_in class s
  with_first s zero = refl
  with_first [] (suc k) = refl
  with_first (c ∷ s) (suc k) = go (is_in class c) (with_first s k)
    where
      go : (b : Bool) → (all_in class (take k s) && all_in class s) ≡ all_in class s
          → (b && all_in class (take k s) && (b && all_in class s)) ≡ (b && all_in class s)
      go true e = e
      go false e = refl

  pub both_ends : (s : List ℕ) (j k : ℕ) → j ≤ k → (all_in class (take k s) && all_in class (drop j s)) ≡ all_in class s
  both_ends s zero k h = with_first s k
  both_ends s (suc j) zero h = absurd (omega arith)
  both_ends [] (suc j) (suc k) h = refl
  both_ends (c ∷ s) (suc j) (suc k) h =
      and_assoc (is_in class c) (all_in class (take k s)) (all_in class (drop j s)) ∙ ap (◌&&◌ (is_in class c)) (both_ends s j k (omega arith))
