-- Reading a list from its front, as a loop with an index does. Assumes nothing.
use mathlib.Core.Path.{◌≡◌}
use mathlib.Core.List.{List, ◌∷◌}
use Prim.Native.Nat.{ℕ, ◌+◌, ◌-◌, ◌<◌}
use native.Mathlib.Nat.{le_of_eq}
use native.Mathlib.Omega.{arith}
use native.Mathlib.Numerals.{add-one}
use lib.ListN.{length, get_or, take, drop, length-drop}
use lib.Seq.{drop-cons, take_all}

-- what is left from i on is the element at i, and what is left from i + 1 on
pub left-from : (s : List ℕ) (i : ℕ) → i < length s → drop i s ≡ get_or s i 0 ∷ drop (i + 1) s
left-from s i h = rw (add-one, drop-cons s i 0)

-- a part that goes to the end
pub to_end : (s : List ℕ) (k : ℕ) → take (length s - k) (drop k s) ≡ drop k s
to_end s k = take_all (length s - k) (drop k s) (le_of_eq (length-drop k s))

-- the width of a part between two offsets
pub span : (at b a : ℕ) → at + b - (at + a) ≡ b - a
span at b a = omega arith
