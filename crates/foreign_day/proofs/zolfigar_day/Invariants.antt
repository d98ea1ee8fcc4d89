-- The loop of `foreign_day::zolfigar_day`, piece by piece (`BetweenPieces`). The measure is the number of pieces that are left at most.
-- Assumes nothing.
use Rattle.std.specs.Prelude.{◌≡◌, length}
use Rattle.output.specs.Pieces.{turns_left}
use Rattle.foreign_day.proofs.BetweenPieces.{BetweenPieces}
use Rattle.foreign_day.proofs.zolfigar_day.Given as goal

abbrev pub invariant-loop-length : goal.invariant-loop-length
invariant-loop-length l = BetweenPieces l.file l.initial.text l.text l.day l.at × (length l.piece ≡ 56832)

abbrev pub decreases-loop-length : goal.decreases-loop-length
decreases-loop-length l = turns_left l.day
