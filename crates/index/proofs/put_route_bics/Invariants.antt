-- The rows of the routes before i are made. Assumes nothing.
use Rattle.std.proofs.Common.{◌≡◌, ◌≤◌}
use Rattle.dayfile.specs.Roster.{row_of}
use Rattle.index.specs.RowChains.{rows_of}
use Rattle.index.specs.Words.{bic_words}
use Rattle.index.proofs.put_route_bics.Given as goal

abbrev pub invariant-loop-i : goal.invariant-loop-i
invariant-loop-i l = (l.i ≤ l.count) × (l.bics ≡ rows_of (λ i. bic_words (row_of l.routes i).bic) l.i)
