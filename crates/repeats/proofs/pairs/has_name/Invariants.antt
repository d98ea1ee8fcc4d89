-- `repeats::pairs::has_name` meets its contract. The loop's invariant: one of all has the name where one of those that are left has, and
-- one is left. Assumes nothing.
use mathlib.Core.Path.{◌≡◌}
use Prim.Native.Nat.{◌+◌, ◌-◌, ◌≤◌}
use Rattle.repeats.specs.Repeats.{has_name_in}
use Rattle.repeats.proofs.pairs.has_name.Given as goal

abbrev pub invariant-loop : goal.invariant-loop
invariant-loop l = (has_name_in l.name l.count l.s ≡ has_name_in l.name (l.count + 1 - l.counter) l.rest) × (1 ≤ l.counter) × (l.counter ≤ l.count)
