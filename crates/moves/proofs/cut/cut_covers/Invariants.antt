-- `moves::cut::cut_covers` meets its contract. The loop's invariant: the first p participants are cut. Assumes nothing.
use mathlib.Core.Path.{◌≡◌}
use lib.ListN.{length}
use Rattle.rules.specs.Cut.{cut_to}
use Rattle.moves.proofs.cut.cut_covers.Given as goal

abbrev pub invariant-loop-p : goal.invariant-loop-p
invariant-loop-p l = (length l.after ≡ 32) × (l.after ≡ cut_to l.roster l.covers l.p)
