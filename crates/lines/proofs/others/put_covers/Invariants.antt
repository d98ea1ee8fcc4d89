-- `lines::others::put_covers` meets its contract. The loop's invariant: the lines of the first p participants are written. Assumes nothing.
use Prim.Native.Nat.{◌*◌, ◌≤◌}
use lib.ListN.{length}
use Rattle.lines.specs.Lines.{covers_to, longest_cover_line}
use Rattle.lines.proofs.WritingParts.{Filled}
use Rattle.lines.proofs.others.put_covers.Given as goal

abbrev pub invariant-loop-p : goal.invariant-loop-p
invariant-loop-p l = (l.p ≤ length l.covers) × Filled l.initial.text l.text 0 (covers_to l.covers l.p) l.at × (l.at ≤ longest_cover_line * l.p)
