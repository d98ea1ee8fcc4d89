-- `tags::long_tag_end` meets its contract. The loop's invariant (`Going`) holds the attributes read so far. Assumes nothing.
use Prim.Native.Nat.{◌-◌}
use lib.ListN.{length}
use Rattle.tags.proofs.Attributes.{Going}
use Rattle.tags.proofs.long_tag_end.Given as goal

abbrev pub invariant-loop-from : goal.invariant-loop-from
invariant-loop-from l = Going l.text l.at l.from l.next l.count

abbrev pub decreases-loop-from : goal.decreases-loop-from
decreases-loop-from l = length l.text - l.from
