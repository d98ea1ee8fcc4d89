-- The loop of `cases::words::number`: the number has at most five digits. Assumes nothing.
use Rattle.std.specs.Prelude.{◌≤◌}
use Rattle.cases.proofs.words.number.Given as goal

abbrev pub invariant-loop-c : goal.invariant-loop-c
invariant-loop-c l = l.n ≤ 99999
