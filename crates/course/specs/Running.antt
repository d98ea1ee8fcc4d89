-- Tickets of 108 bytes one after the other, as far as there is room.
--     room_left    a whole ticket is left, and room for its answer and for as many reports as a ticket may have
--     ran         the steps of the tickets that are taken
--     Ran         what is left behind by them: the book, how many, and every byte of both buffers
-- Assumes nothing.
use Rattle.std.specs.Prelude.{ℕ, zero, suc, ◌-◌, ◌*◌, ◌≡◌, Bool, ◌&&◌, cond, List, [], ◌∷◌, leb, length, take, drop}
use Rattle.ticket.specs.TicketLayout.{ticket_length}
use Rattle.report.specs.ReportLayout.{report_length, laid}
use Rattle.report.specs.Answer.{answer_length, answers_laid}
use Rattle.rules.specs.Tick.{Step}
use Rattle.rules.specs.Refusal.{least_buffer}
use Rattle.rules.specs.Step.{step_of, book_after}
use Rattle.rules.specs.Taken.{answers_of, reports_in}
use Rattle.rules.specs.Sound.{Sound}
use Rattle.rules.specs.declared.Book.{Book}

-- of what is left of tickets, answers and reports, in bytes
abbrev pub room_left : ℕ → ℕ → ℕ → Bool
room_left tickets answers reports = leb ticket_length tickets && leb answer_length answers && leb least_buffer reports

-- at most n tickets
abbrev pub ran_to : ℕ → Book → List ℕ → ℕ → ℕ → List Step
ran_to zero b tickets answers reports = []
ran_to (suc n) b tickets answers reports =
    cond (room_left (length tickets) answers reports)
    (let s = step_of b (take ticket_length tickets) in
    s ∷ ran_to n s.book (drop ticket_length tickets) (answers - answer_length) (reports - report_length * length s.reports))
    []

-- there are no more tickets than bytes of them
unfoldable pub ran : Book → List ℕ → ℕ → ℕ → List Step
ran b tickets answers reports = ran_to (length tickets) b tickets answers reports

-- c is the book afterwards, k how many were taken, bytes the answers and text the reports afterwards
pub record Ran (b : Book) (tickets answers₀ reports₀ : List ℕ) (c : Book) (k : ℕ) (bytes text : List ℕ) : Type 0 where
  pub book : c ≡ book_after b (ran b tickets (length answers₀) (length reports₀))
  pub taken : k ≡ length (ran b tickets (length answers₀) (length reports₀))
  pub answers : bytes ≡ answers_laid (answers_of (ran b tickets (length answers₀) (length reports₀))) answers₀
  pub reports : text ≡ laid (reports_in (ran b tickets (length answers₀) (length reports₀))) reports₀
  pub sound : Sound c
