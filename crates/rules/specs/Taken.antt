-- What steps leave behind that the tickets' senders and the participants are told: an answer for each, and all reports.
--     answer_of    a step's answer: its refusal, how many reports, rows followed
--     answers_of   the answers of steps, in order
--     reports_in   their reports, one step's behind the other's
-- Assumes nothing.
use Rattle.std.specs.Prelude.{List, [], ◌∷◌, ◌++◌, map, length}
use Rattle.report.specs.declared.Report.{Report}
use Rattle.report.specs.declared.answer.Answer.{Answer}
use Rattle.rules.specs.Tick.{Step}

abbrev pub answer_of : Step → Answer
answer_of s = record { refusal = s.refusal; reports = length s.reports; rows = s.rows }

abbrev pub answers_of : List Step → List Answer
answers_of ss = map answer_of ss

abbrev pub reports_in : List Step → List Report
reports_in [] = []
reports_in (s ∷ ss) = s.reports ++ reports_in ss
