-- What is searched of a roster, as it is lent to each turn.
--     Directs    rows are those of the BICs of participants and of routes
-- Assumes nothing.
use Rattle.std.specs.Prelude.{◌≡◌}
use Rattle.dayfile.specs.Roster.{participant_in, row_of}
use Rattle.dayfile.specs.declared.roster.Roster.{Roster}
use Rattle.index.specs.RowChains.{rows_of}
use Rattle.index.specs.Words.{bic_words}
use Rattle.index.specs.LentRows.{BicRows}
use Rattle.engine.specs.declared.directory.Directory.{Directory}

pub record Directs (r : Roster) (d : Directory) : Type 0 where
  pub sender : d.bics ≡ rows_of (λ p. bic_words (participant_in r.participants p).bic) r.size
  pub senders : BicRows d.bics
  pub payee : d.routes ≡ rows_of (λ i. bic_words (row_of r.routes i).bic) r.rows
  pub payees : BicRows d.routes
