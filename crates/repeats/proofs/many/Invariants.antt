-- `repeats::many` meets its contract. Assumes nothing.
use mathlib.Core.Path.{◌≡◌}
use mathlib.Core.Bool.{true}
use mathlib.Core.List.{List}
use Prim.Native.Nat.{ℕ, ◌+◌, ◌-◌, ◌≤◌}
use Rattle.repeats.specs.Repeats.{repeats_in}
use Rattle.repeats.specs.Tree.{leaf_of, numbered}
use Rattle.repeats.proofs.many.Given as goal

-- so far each attribute led to its own leaf; a name that stands twice among those left does so among all
pub record Told (s : List ℕ) (count : ℕ) (way : List ℕ → ℕ) (rest : List ℕ) (i : ℕ) : Type 0 where
  pub own : numbered way 13_104 count s ≡ numbered way (13_104 + i) (count - i) rest
  pub again : repeats_in (count - i) rest ≡ true → repeats_in count s ≡ true
  pub counted : i ≤ count
  pub fits : count ≤ 13_104

abbrev pub invariant-loop-i : goal.invariant-loop-i
invariant-loop-i l = Told l.s l.count (leaf_of l.tree.nodes l.count) l.rest l.i
