-- `reader::walking::within` meets its contract: each turn of the loop is a law of pacs' Going.antt. Assumes nothing.
use Prim.Native.Nat.{◌≤◌, ◌-◌}
use lib.ListN.{length}
use Rattle.xml.specs.WellFormed.{deepest}
use Rattle.pacs.specs.Going.{GoingPlaced}
use Rattle.reader.proofs.walking.within.Given as goal

abbrev pub invariant-loop-depth : goal.invariant-loop-depth
invariant-loop-depth l = record {
  going : GoingPlaced l.text l.fn.root.start l.at l.depth l.open l.notes;
  within : l.at ≤ length l.text;
  rows : deepest ≤ length l.open;
}

abbrev pub decreases-loop-depth : goal.decreases-loop-depth
decreases-loop-depth l = length l.text - l.at
