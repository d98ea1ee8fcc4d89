-- `same_name` tells whether two names are the same. The invariant of both loops: they are where what is left of them is. Assumes nothing.
use Prim.Native.Nat.{◌-◌, ◌≤◌}
use mathlib.Core.Path.{◌≡◌}
use lib.ListN.{length}
use Rattle.fields.specs.Text.{same}
use Rattle.reader.proofs.Alike.{left}
use Rattle.reader.proofs.names.same_name.Given as goal

abbrev pub invariant-loop-i : goal.invariant-loop-i
invariant-loop-i l = (same l.a l.b ≡ left l.a l.b l.i) × (l.i ≤ length l.a)

abbrev pub decreases-loop-i : goal.decreases-loop-i
decreases-loop-i l = length l.a - l.i

abbrev pub invariant-loop-i-2 : goal.invariant-loop-i-2
invariant-loop-i-2 l = (same l.a l.b ≡ left l.a l.b l.i) × (l.i ≤ length l.a)

abbrev pub decreases-loop-i-2 : goal.decreases-loop-i-2
decreases-loop-i-2 l = length l.a - l.i
