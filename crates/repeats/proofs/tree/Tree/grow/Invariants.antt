-- `repeats::tree::Tree::grow` ends and stays within its arrays. Assumes nothing.
use Prim.Native.Nat.{◌≤◌}
use lib.ListN.{length}
use Rattle.repeats.proofs.tree.Tree.grow.Given as goal

abbrev pub invariant-loop-i : goal.invariant-loop-i
invariant-loop-i l = (l.count ≤ 13_104) × (length l.rest ≤ length l.text)
