-- The loop of `output::stdout::print_day`: the day is one of the file, and the text keeps its length. The measure is the number of pieces
-- that are left at most. Assumes nothing.
use Rattle.std.specs.Prelude.{◌≡◌, length}
use Rattle.output.specs.Pieces.{Under, turns_left}
use Rattle.output.proofs.stdout.print_day.Given as goal

abbrev pub invariant-loop-length : goal.invariant-loop-length
invariant-loop-length g l = Under l.file l.day × (length l.text ≡ 56832)

abbrev pub decreases-loop-length : goal.decreases-loop-length
decreases-loop-length g l = turns_left l.day
