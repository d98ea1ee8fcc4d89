-- Handing in one ticket.
--     handed_in   what is handed back, as an outcome of the rules: the answer, the book and the buffer
--     Hands       the promise: that it is the outcome, refused tickets included, and that the book stays sound
-- Assumes nothing.
use Rattle.std.specs.Prelude.{◌≡◌, ℕ, List}
use Rattle.rules.specs.Step.{Outcome, outcome}
use Rattle.rules.specs.Sound.{Sound}
use Rattle.rules.specs.declared.Book.{Book}
use Rattle.book.specs.declared.handing.Handed.{Handed}

abbrev pub handed_in : Handed → List ℕ → Outcome
handed_in r after = record { refusal = r.refusal; reports = r.reports; rows = r.rows; book = r.book; buffer = after }

abbrev pub untouched_by : ℕ → Book → Handed
untouched_by n b = record { refusal = n; reports = 0; rows = 0; book = b }

pub record Hands (b : Book) (ticket buffer : List ℕ) (r : Handed) (after : List ℕ) : Type 0 where
  pub outcome : handed_in r after ≡ outcome b ticket buffer
  pub sound : Sound r.book
