-- A day's tickets through the core.
--     ticket_section    the tickets of a day file; none of a refused one
--     steps_taken       the steps of those that are taken
--     steps_answer      what the caller is answered: how many, or why none
--     taken_by          how many were taken, by that answer
--     Stepped          what is left behind by them: the answer, and every byte of both buffers
-- Assumes nothing.
use Rattle.std.specs.Prelude.{◌≡◌, ℕ, ◌+◌, Bool, cond, not, ◌&&◌, List, [], length, drop, ◌==◌, nat_lt}
use Rattle.ticket.specs.TicketLayout.{ticket_length}
use Rattle.report.specs.ReportLayout.{laid}
use Rattle.report.specs.Answer.{answers_laid}
use Rattle.dayfile.specs.DayFile.{day_file}
use Rattle.rules.specs.Book.{book_of}
use Rattle.rules.specs.Tick.{Step}
use Rattle.rules.specs.Taken.{answers_of, reports_in}
use Rattle.course.specs.Running.{room_left, ran}

abbrev pub ticket_section : List ℕ → List ℕ
ticket_section file = cond ((day_file file).refusal == 0) (drop (day_file file).first file) []

abbrev pub steps_taken : List ℕ → ℕ → ℕ → List Step
steps_taken file answers reports = ran (book_of file) (ticket_section file) answers reports

-- a refused file is answered by this and its refusal
abbrev pub file_refused : ℕ
file_refused = 1_024

-- a buffer has no room for the first ticket
abbrev pub no_room : ℕ
no_room = 2_048

-- there are tickets, and no room for the answer or the reports of the first
abbrev pub lacks_room : ℕ → ℕ → ℕ → Bool
lacks_room tickets answers reports = not (tickets == 0) && not (room_left ticket_length answers reports)

abbrev pub steps_answer : List ℕ → ℕ → ℕ → ℕ
steps_answer file answers reports =
    cond ((day_file file).refusal == 0)
    (cond (lacks_room (day_file file).tickets answers reports) no_room (length (steps_taken file answers reports)))
    (file_refused + (day_file file).refusal)

abbrev pub taken_by : ℕ → ℕ
taken_by answer = cond (nat_lt answer file_refused) answer 0

pub record Stepped (file answers₀ reports₀ : List ℕ) (answer : ℕ) (answers reports : List ℕ) : Type 0 where
  pub answer-is : answer ≡ steps_answer file (length answers₀) (length reports₀)
  pub answers-are : answers ≡ answers_laid (answers_of (steps_taken file (length answers₀) (length reports₀))) answers₀
  pub reports-are : reports ≡ laid (reports_in (steps_taken file (length answers₀) (length reports₀))) reports₀
