-- The rows of the participants before p are made. Assumes nothing.
use Rattle.std.proofs.Common.{◌≡◌, ◌≤◌}
use Rattle.dayfile.specs.Roster.{participant_in}
use Rattle.index.specs.RowChains.{rows_of}
use Rattle.index.specs.Words.{bic_words}
use Rattle.index.proofs.put_bics.Given as goal

abbrev pub invariant-loop-p : goal.invariant-loop-p
invariant-loop-p l = (l.p ≤ l.size) × (l.bics ≡ rows_of (λ p. bic_words (participant_in l.participants p).bic) l.p)
