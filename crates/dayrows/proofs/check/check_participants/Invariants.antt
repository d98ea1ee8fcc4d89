-- `dayrows::check::check_participants` meets its contract. The loop's invariant: whether the first i rows are right by themselves.
-- Assumes nothing.
use Rattle.std.proofs.Common.{◌≡◌, ◌+◌, ◌*◌}
use Rattle.fields.specs.UpTo.{all_to}
use Rattle.dayfile.specs.FileLimits.{participant_length}
use Rattle.dayfile.specs.FileRows.{participant_ok}
use Rattle.dayrows.proofs.check.check_participants.Given as goal

abbrev pub invariant-loop-i : goal.invariant-loop-i
invariant-loop-i l = l.ok ≡ all_to (λ i. participant_ok (l.start + participant_length * i) l.f) l.i
