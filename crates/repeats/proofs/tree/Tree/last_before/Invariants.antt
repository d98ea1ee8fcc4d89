-- `repeats::tree::Tree::last_before` meets its contract. The loop's invariant: from the node that was reached, with the steps that are
-- left, the way ends where it does from the start, if nothing stops it. Assumes nothing.
use mathlib.Core.Path.{◌≡◌}
use mathlib.Core.Bool.{Bool, false}
use Prim.Native.Nat.{◌-◌, ◌≤◌, ◌<◌}
use Rattle.repeats.specs.Tree.{next_of, last_of}
use Rattle.repeats.specs.declared.tree.Node.{Node}
use Rattle.repeats.proofs.tree.Tree.last_before.Given as goal

abbrev pub invariant-loop : goal.invariant-loop
invariant-loop g l =
    (l.node < 13_104)
    × (l.counter ≤ l.steps)
    × (((n : Node) (r : Bool) → goal.F-post g l.stops n r → r ≡ false)
    → last_of (next_of l.self.nodes l.name) l.steps 0 ≡ last_of (next_of l.self.nodes l.name) (l.steps - l.counter) l.node)
