-- `draft::amount::digits_behind` meets its contract. The loop's invariant: the digits so far are read. Assumes nothing.
use Rattle.draft.proofs.DigitLoop.{ReadTo}
use Rattle.draft.proofs.amount.digits_behind.Given as goal

abbrev pub invariant-loop-b : goal.invariant-loop-b
invariant-loop-b l = ReadTo l.n l.s l.value l.b-index
