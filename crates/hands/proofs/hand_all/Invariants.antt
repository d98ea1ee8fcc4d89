-- The loop of `hands::hand_all`: the book is sound. Assumes nothing.
use Rattle.rules.specs.Sound.{Sound}
use Rattle.hands.proofs.hand_all.Given as goal

abbrev pub invariant-loop-number : goal.invariant-loop-number
invariant-loop-number g l = Sound l.b
