-- What the clearing program prints for a day file of any bytes: 01 'Day file and program'.
--     decimal        a number in decimal, as text; it stays shut, for what it unfolds to is long
--     numbers        numbers, each behind a space, and the end of the line; shut likewise
--     refusal_line    the line of a refused day file
--     output         the program's whole output
-- Assumes nothing.
use Rattle.std.specs.Prelude.{ℕ, zero, suc, ◌+◌, ◌/◌, ◌%◌, cond, List, [], ◌∷◌, ◌++◌, ltb, eqb, length}
use Rattle.fields.specs.Text.{text}
use Rattle.report.specs.declared.Report.{Report}
use Rattle.dayfile.specs.DayFile.{day_file, ticket_at}
use Rattle.dayfile.specs.declared.DayFile.{DayFile}
use Rattle.rules.specs.Book.{cover_of, book_of}
use Rattle.rules.specs.Tick.{Step}
use Rattle.rules.specs.Step.{steps_of, book_after}
use Rattle.rules.specs.declared.Book.{Book}

-- the last digits of n, at most as many as given, as long as there are any but leading zeros
abbrev pub digits_to : ℕ → ℕ → List ℕ
digits_to zero n = []
digits_to (suc k) n = cond (ltb n 10) [] (digits_to k (n / 10)) ++ ((48 + n % 10) ∷ [])

-- 20 digits hold every number of 64 bits
unfoldable pub decimal : ℕ → List ℕ
decimal n = digits_to 20 n

unfoldable pub numbers : List ℕ → List ℕ
numbers [] = text "\n"
numbers (n ∷ ns) = text " " ++ decimal n ++ numbers ns

abbrev pub report_lines : List Report → List ℕ
report_lines [] = []
report_lines (r ∷ rs) = text "R" ++ numbers (r.to ∷ r.code ∷ r.order ∷ r.amount ∷ []) ++ report_lines rs

-- "T number refusal reports rows", and its reports as "R to code order amount"
abbrev pub ticket_lines : ℕ → Step → List ℕ
ticket_lines k s = text "T" ++ numbers (k ∷ s.refusal ∷ length s.reports ∷ s.rows ∷ []) ++ report_lines s.reports

-- of tickets from number k on
abbrev pub lines_from : ℕ → List Step → List ℕ
lines_from k [] = []
lines_from k (s ∷ ss) = ticket_lines k s ++ lines_from (suc k) ss

-- "C number available reserved held", per participant
abbrev pub cover_lines : Book → ℕ → List ℕ
cover_lines b zero = []
cover_lines b (suc p) =
    let c = cover_of b.covers p in
    cover_lines b p ++ (text "C" ++ numbers (p ∷ c.available ∷ c.reserved ∷ c.held ∷ []))

-- the file's tickets from number k on, n of them
abbrev pub tickets_from : List ℕ → ℕ → ℕ → List (List ℕ)
tickets_from file k zero = []
tickets_from file k (suc n) = ticket_at file k ∷ tickets_from file (suc k) n

abbrev pub day_lines : Book → List Step → List ℕ
day_lines b ss = let c = book_after b ss in lines_from 0 ss ++ cover_lines c c.roster.size

-- "F refusal"
abbrev pub refusal_line : ℕ → List ℕ
refusal_line n = text "F" ++ numbers (n ∷ [])

-- a refused file prints that alone
abbrev pub output_of : List ℕ → DayFile → List ℕ
output_of file d =
    cond (eqb d.refusal 0)
    (day_lines (book_of file) (steps_of (book_of file) (tickets_from file 0 d.tickets)))
    (refusal_line d.refusal)

unfoldable pub output : List ℕ → List ℕ
output file = output_of file (day_file file)
