-- `moves::sums::any_open` meets its contract. The loop's invariant: whether one of the covers so far is open. Assumes nothing.
use mathlib.Core.Path.{◌≡◌}
use Rattle.fields.specs.UpTo.{any_to}
use Rattle.rules.specs.Book.{cover_of}
use Rattle.rules.specs.Find.{is_open}
use Rattle.moves.proofs.sums.any_open.Given as goal

abbrev pub invariant-loop-c : goal.invariant-loop-c
invariant-loop-c l = l.open ≡ any_to (λ q. is_open (cover_of l.covers q)) l.c-index
