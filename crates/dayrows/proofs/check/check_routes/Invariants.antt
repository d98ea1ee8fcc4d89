-- `dayrows::check::check_routes` meets its contract. The loop's invariant: whether the first i rows are right by themselves.
-- Assumes nothing.
use Rattle.std.proofs.Common.{◌≡◌, ◌+◌, ◌*◌}
use Rattle.fields.specs.UpTo.{all_to}
use Rattle.dayfile.specs.FileLimits.{route_length}
use Rattle.dayfile.specs.FileRows.{route_ok}
use Rattle.dayrows.proofs.check.check_routes.Given as goal

abbrev pub invariant-loop-i : goal.invariant-loop-i
invariant-loop-i l = l.ok ≡ all_to (λ i. route_ok l.size i (l.start + route_length * i) l.f) l.i
