-- The program's text, read off the buffers that answers and reports are laid down in.
--     answer_line            the line of a ticket with its number
--     report_line            the line of a report
--     reports_to             the lines of the first n reports from a number on
--     start_of               how many reports the first i answers count: the number of the report that ticket i's begin with
--     ticket_text            the line of ticket i, and those of its reports
--     lines_to               the lines of the first i tickets, numbered from k on
--     cover_line             the line of a participant with its number
--     covers_to              the lines of the first n participants
--     longest_line           the longest line of a ticket or a report
--     longest_cover_line     of a participant
--     longest_refusal_line   of a refused day file
--     Lined                  the lines of tickets can be written: their answers and reports stand in the buffers, and the text has room
-- Assumes nothing.
use Rattle.std.specs.Prelude.{ℕ, zero, suc, ◌+◌, ◌*◌, ◌^◌, ◌≤◌, ◌<◌, List, [], ◌∷◌, ◌++◌, length}
use Rattle.fields.specs.Text.{text}
use Rattle.report.specs.ReportLayout.{report_length, report_at}
use Rattle.report.specs.Answer.{answer_length, answer_at}
use Rattle.report.specs.declared.Report.{Report}
use Rattle.report.specs.declared.answer.Answer.{Answer}
use Rattle.rules.specs.Book.{cover_of}
use Rattle.rules.specs.Program.{numbers}
use Rattle.rules.specs.declared.Cover.{Cover}

abbrev pub answer_line : ℕ → Answer → List ℕ
answer_line n a = text "T" ++ numbers (n ∷ a.refusal ∷ a.reports ∷ a.rows ∷ [])

abbrev pub report_line : Report → List ℕ
report_line r = text "R" ++ numbers (r.to ∷ r.code ∷ r.order ∷ r.amount ∷ [])

abbrev pub reports_to : List ℕ → ℕ → ℕ → List ℕ
reports_to reports from zero = []
reports_to reports from (suc n) = reports_to reports from n ++ report_line (report_at reports (from + n))

abbrev pub start_of : List ℕ → ℕ → ℕ
start_of answers zero = 0
start_of answers (suc i) = start_of answers i + (answer_at answers i).reports

-- of the ticket with number n, whose reports begin with number from
abbrev pub ticket_text : ℕ → Answer → List ℕ → ℕ → List ℕ
ticket_text n a reports from = answer_line n a ++ reports_to reports from a.reports

abbrev pub lines_to : ℕ → ℕ → List ℕ → List ℕ → List ℕ
lines_to k zero answers reports = []
lines_to k (suc i) answers reports = lines_to k i answers reports ++ ticket_text (k + i) (answer_at answers i) reports (start_of answers i)

abbrev pub cover_line : ℕ → Cover → List ℕ
cover_line p c = text "C" ++ numbers (p ∷ c.available ∷ c.reserved ∷ c.held ∷ [])

abbrev pub covers_to : List Cover → ℕ → List ℕ
covers_to cs zero = []
covers_to cs (suc p) = covers_to cs p ++ cover_line p (cover_of cs p)

-- a letter, the end of the line, and a space before each number: 20 digits for a number of 64 bits, 5 for 16, 3 for 8
abbrev pub longest_line : ℕ
longest_line = 37

abbrev pub longest_cover_line : ℕ
longest_cover_line = 86

abbrev pub longest_refusal_line : ℕ
longest_refusal_line = 6

pub record Lined (k taken : ℕ) (answers reports text : List ℕ) : Type 0 where
  pub answered : answer_length * taken ≤ length answers
  pub reported : report_length * start_of answers taken ≤ length reports
  pub numbered : k + taken < 256 ^ 8
  pub room : longest_line * (taken + start_of answers taken) ≤ length text
