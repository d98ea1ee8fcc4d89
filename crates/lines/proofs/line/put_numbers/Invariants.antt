-- `lines::line::put_numbers` meets its contract. The loop's invariant: the first i numbers are written. Assumes nothing.
use Rattle.lines.proofs.Numbers.{Begun}
use Rattle.lines.proofs.line.put_numbers.Given as goal

abbrev pub invariant-loop-n : goal.invariant-loop-n
invariant-loop-n l = Begun l.initial.text l.text l.at l.end l.ns l.n-index
