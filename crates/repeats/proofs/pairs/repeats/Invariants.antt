-- `repeats::pairs::repeats` meets its contract. The loop's invariant: two of all have the same name where two of those left have.
-- Assumes nothing.
use mathlib.Core.Path.{◌≡◌}
use Rattle.repeats.specs.Repeats.{repeats_in}
use Rattle.repeats.proofs.pairs.repeats.Given as goal

abbrev pub invariant-loop-left : goal.invariant-loop-left
invariant-loop-left l = repeats_in l.count l.s ≡ repeats_in l.left l.rest
