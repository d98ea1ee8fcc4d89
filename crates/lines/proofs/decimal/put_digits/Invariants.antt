-- `lines::decimal::put_digits` meets its contract. The loop's invariant: the digits from i on are written, and those of left are to come.
-- Assumes nothing.
use Rattle.lines.proofs.DigitsFilling.{Ending}
use Rattle.lines.proofs.decimal.put_digits.Given as goal

abbrev pub invariant-loop-left : goal.invariant-loop-left
invariant-loop-left l = Ending l.initial.text l.text l.at l.i l.n l.left

abbrev pub decreases-loop-left : goal.decreases-loop-left
decreases-loop-left l = l.left
