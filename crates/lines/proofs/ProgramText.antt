-- The text that is read off the buffers is the program's: of steps whose answers and reports are laid down, and of covers.
-- Assumes nothing.
use mathlib.Core.Path.{◌≡◌, refl, sym, ◌∙◌, ap, ap₂}
use mathlib.Core.List.{List, [], ◌∷◌, ◌++◌, append-nil, append_assoc}
use Prim.Native.Nat.{ℕ, zero, suc, ◌+◌, ◌≤◌, ◌<◌}
use native.Mathlib.Nat.{add-zero, zero-add, add-suc, add_assoc}
use native.Mathlib.Omega.{arith}
use lib.ListN.{length, get_or, take, length-append, length-map, get_or-append}
use Rattle.std.proofs.lemmas.List.{get_or-take}
use lib.Seq.{get_or-append-add}
use Rattle.fields.specs.Text.{text}
use Rattle.report.specs.ReportLayout.{report_at, laid, AllFitting}
use Rattle.report.specs.Answer.{answer_at, answers_laid, AllFittingAnswers}
use Rattle.report.proofs.ReportLaws.{report-laid}
use Rattle.report.proofs.AnswerLaws.{answer-reads-back}
use Rattle.report.specs.declared.Report.{Report}
use Rattle.report.specs.declared.answer.Answer.{Answer}
use Rattle.rules.specs.Book.{cover_of}
use Rattle.rules.specs.Tick.{Step}
use Rattle.rules.specs.Taken.{answer_of, answers_of, reports_in}
use Rattle.rules.specs.Program.{numbers, report_lines, ticket_lines, lines_from, cover_lines}
use Rattle.rules.specs.declared.Book.{Book}
use Rattle.rules.specs.declared.Cover.{Cover}
use Rattle.lines.specs.Lines.{answer_line, report_line, reports_to, start_of, ticket_text, lines_to, covers_to}

-- covers
pub covers-are : (b : Book) (n : ℕ) → covers_to b.covers n ≡ cover_lines b n
covers-are b zero = refl
covers-are b (suc p) =
    let c = cover_of b.covers p in
    ap (λ (s : List ℕ). s ++ (text "C" ++ numbers (p ∷ c.available ∷ c.reserved ∷ c.held ∷ []))) (covers-are b p)

-- the first covers alone give their lines
pub covers-first : (cs : List Cover) (m n : ℕ) → n ≤ m → covers_to (take m cs) n ≡ covers_to cs n
covers-first cs m zero h = refl
covers-first cs m (suc p) h =
    ap₂ (λ (s : List ℕ) (c : Cover). s ++ (text "C" ++ numbers (p ∷ c.available ∷ c.reserved ∷ c.held ∷ [])))
    (covers-first cs m p (omega arith))
    (get_or-take m cs p (cover_of [] 0) h)

-- a line, and those behind it
report-first : (r : Report) (rs : List Report) → report_line r ++ report_lines rs ≡ report_lines (r ∷ rs)
report-first r rs = refl

ticket-first : (n : ℕ) (s : Step) → answer_line n (answer_of s) ++ report_lines s.reports ≡ ticket_lines n s
ticket-first n s = refl

abbrev no_report : Report
no_report = record { to = 0; code = 0; order = 0; amount = 0 }

abbrev no_answer : Answer
no_answer = record { refusal = 0; reports = 0; rows = 0 }

later : (i n : ℕ) → i + suc n ≡ suc i + n
later i n = omega arith

module _ (answers reports : List ℕ) where
  -- reports stand in the buffer from a place on
  reports-from : (rs : List Report) (from i : ℕ) → ((j : ℕ) → j < length rs → report_at reports (from + (i + j)) ≡ get_or rs j no_report)
      → reports_to reports from (i + length rs) ≡ reports_to reports from i ++ report_lines rs
  reports-from [] from i h = ap (reports_to reports from) (add-zero i) ∙ sym (append-nil (reports_to reports from i))
  reports-from (r ∷ rs) from i h =
      ap (reports_to reports from) (later i (length rs))
      ∙ reports-from rs from (suc i) (λ j l. ap (λ (k : ℕ). report_at reports (from + k)) (sym (later i j)) ∙ h (suc j) (omega arith))
      ∙ ap (λ (x : Report). (reports_to reports from i ++ report_line x) ++ report_lines rs) first
      ∙ append_assoc (reports_to reports from i) (report_line r) (report_lines rs)
      ∙ ap (λ (t : List ℕ). reports_to reports from i ++ t) (report-first r rs)
    where
      first : report_at reports (from + i) ≡ r
      first = ap (λ (k : ℕ). report_at reports (from + k)) (sym (add-zero i)) ∙ h 0 (omega arith)

  -- so do the answers of steps, and their reports
  record Stand (ss : List Step) (i from : ℕ) : Type 0 where
    start : start_of answers i ≡ from
    answered : (j : ℕ) → j < length ss → answer_at answers (i + j) ≡ get_or (answers_of ss) j no_answer
    reported : (j : ℕ) → j < length (reports_in ss) → report_at reports (from + j) ≡ get_or (reports_in ss) j no_report

  module _ (s : Step) (ss : List Step) (i from : ℕ) (h : Stand (s ∷ ss) i from) where
    first-answer : answer_at answers i ≡ answer_of s
    first-answer = ap (answer_at answers) (sym (add-zero i)) ∙ h.answered 0 (omega arith)

    -- those of the others stand behind the first's
    stand-rest : Stand ss (suc i) (from + length s.reports)
    stand-rest =
        record {
          start = ap₂ ◌+◌ h.start (ap (λ (a : Answer). a.reports) first-answer);
          answered = λ j l. ap (answer_at answers) (sym (later i j)) ∙ h.answered (suc j) (omega arith);
          reported =
              λ j l.
              ap (report_at reports) (add_assoc from (length s.reports) j)
              ∙ h.reported (length s.reports + j) (rw (length-append s.reports (reports_in ss)) (omega arith))
              ∙ get_or-append-add s.reports (reports_in ss) j no_report;
        }

    first-lines : (n : ℕ) → ticket_text n (answer_at answers i) reports (start_of answers i) ≡ ticket_lines n s
    first-lines n =
        ap₂ (λ (a : Answer) (k : ℕ). ticket_text n a reports k) first-answer h.start
        ∙ ap (λ (t : List ℕ). answer_line n (answer_of s) ++ t)
        (ap (reports_to reports from) (sym (zero-add (length s.reports))) ∙ reports-from s.reports from 0 told)
        ∙ ticket-first n s
      where
        told : (j : ℕ) → j < length s.reports → report_at reports (from + (0 + j)) ≡ get_or s.reports j no_report
        told j l =
            ap (λ (k : ℕ). report_at reports (from + k)) (zero-add j)
            ∙ h.reported j (rw (length-append s.reports (reports_in ss)) (omega arith))
            ∙ get_or-append s.reports (reports_in ss) no_report j l

  starts_from : (ss : List Step) (i from : ℕ) → Stand ss i from → start_of answers (i + length ss) ≡ from + length (reports_in ss)
  starts_from [] i from h = ap (start_of answers) (add-zero i) ∙ h.start ∙ sym (add-zero from)
  starts_from (s ∷ ss) i from h =
      ap (start_of answers) (later i (length ss))
      ∙ starts_from ss (suc i) (from + length s.reports) (stand-rest s ss i from h)
      ∙ add_assoc from (length s.reports) (length (reports_in ss))
      ∙ ap (λ (k : ℕ). from + k) (sym (length-append s.reports (reports_in ss)))

  lines-on : (k : ℕ) (ss : List Step) (i from : ℕ) → Stand ss i from
      → lines_to k (i + length ss) answers reports ≡ lines_to k i answers reports ++ lines_from (k + i) ss
  lines-on k [] i from h = ap (λ (n : ℕ). lines_to k n answers reports) (add-zero i) ∙ sym (append-nil (lines_to k i answers reports))
  lines-on k (s ∷ ss) i from h =
      let before = lines_to k i answers reports in
      ap (λ (n : ℕ). lines_to k n answers reports) (later i (length ss))
      ∙ lines-on k ss (suc i) (from + length s.reports) (stand-rest s ss i from h)
      ∙ ap₂ (λ (t : List ℕ) (n : ℕ). (before ++ t) ++ lines_from n ss) (first-lines s ss i from h (k + i)) (add-suc k i)
      ∙ append_assoc before (ticket_lines (k + i) s) (lines_from (suc (k + i)) ss)

-- what the book's core leaves of steps: their answers laid down in A, their reports in R
module _ (ss : List Step) (A R answers reports : List ℕ)
    (laid-answers : answers ≡ answers_laid (answers_of ss) A) (answers-fit : AllFittingAnswers (answers_of ss))
    (laid-reports : reports ≡ laid (reports_in ss) R) (reports-fit : AllFitting (reports_in ss)) where
  stand : Stand answers reports ss 0 0
  stand =
      record {
        start = refl;
        answered =
            λ j l.
            ap₂ answer_at laid-answers (zero-add j)
            ∙ answer-reads-back (answers_of ss) A j no_answer answers-fit (rw (length-map ss answer_of) l);
        reported = λ j l. ap₂ report_at laid-reports (zero-add j) ∙ report-laid (reports_in ss) R j no_report reports-fit l;
      }

  pub lines_are : (k : ℕ) → lines_to k (length ss) answers reports ≡ lines_from k ss
  lines_are k =
      ap (λ (n : ℕ). lines_to k n answers reports) (sym (zero-add (length ss)))
      ∙ lines-on answers reports k ss 0 0 stand
      ∙ ap (λ (n : ℕ). lines_from n ss) (add-zero k)

  pub starts-are : start_of answers (length ss) ≡ length (reports_in ss)
  starts-are = ap (start_of answers) (sym (zero-add (length ss))) ∙ starts_from answers reports ss 0 0 stand
      ∙ zero-add (length (reports_in ss))
