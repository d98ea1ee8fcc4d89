-- `moves::sums::total_of` meets its contract. The loop's invariant: the total of the covers so far. Assumes nothing.
use mathlib.Core.Path.{◌≡◌}
use Rattle.rules.specs.Cover.{total_of}
use Rattle.moves.proofs.sums.total_of.Given as goal

abbrev pub invariant-loop-c : goal.invariant-loop-c
invariant-loop-c l = l.total ≡ total_of l.c-index l.covers
