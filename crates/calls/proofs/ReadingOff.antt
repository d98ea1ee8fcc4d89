-- Answers and reports one after the other are read off one by one. Assumes nothing.
use mathlib.Core.Path.{◌≡◌, refl, sym, ◌∙◌, ap}
use mathlib.Core.List.{List, [], ◌∷◌, ◌++◌}
use Prim.Native.Nat.{ℕ, ◌+◌, ◌*◌}
use native.Mathlib.Omega.{arith}
use lib.ListN.{length, drop}
use lib.Seq.{drop-drop}
use Rattle.report.specs.ReportLayout.{report_bytes, reports_bytes, reports_of, AllFitting}
use Rattle.report.specs.Answer.{answer_bytes, answer_at, FittingAnswer}
use Rattle.report.specs.declared.Report.{Report}
use Rattle.report.specs.declared.answer.Answer.{Answer}
use Rattle.report.proofs.ReportLaws.{reports-read-back}
use Rattle.report.proofs.AnswerLaws.{answer-reads-back}

-- the first answer
pub first-answer : (a : Answer) → FittingAnswer a → (rest : List ℕ) → answer_at (answer_bytes a ++ rest) 0 ≡ a
first-answer a f rest = answer-reads-back (a ∷ []) (0 ∷ 0 ∷ 0 ∷ 0 ∷ rest) 0 a (f, tt) (omega arith)

reports-behind : (rs more : List Report) (rest : List ℕ)
    → reports_bytes (rs ++ more) ++ rest ≡ reports_bytes rs ++ (reports_bytes more ++ rest)
reports-behind [] more rest = refl
reports-behind (r ∷ rs) more rest = ap (λ (s : List ℕ). report_bytes r ++ s) (reports-behind rs more rest)

-- the first reports, as many as an answer says
pub first-reports : (rs more : List Report) (rest : List ℕ) → AllFitting rs → reports_of (length rs) (reports_bytes (rs ++ more) ++ rest) ≡ rs
first-reports rs more rest f = ap (reports_of (length rs)) (reports-behind rs more rest) ∙ reports-read-back rs (reports_bytes more ++ rest) f

-- and those behind them
pub later-reports : (rs more : List Report) (rest : List ℕ)
    → drop (12 * length rs) (reports_bytes (rs ++ more) ++ rest) ≡ reports_bytes more ++ rest
later-reports [] more rest = refl
later-reports (r ∷ rs) more rest =
    let s = reports_bytes (r ∷ rs ++ more) ++ rest in
    let e : 12 * length (r ∷ rs) ≡ 12 + 12 * length rs = omega arith in
    ap (λ (n : ℕ). drop n s) e ∙ sym (drop-drop (12 * length rs) 12 s) ∙ later-reports rs more rest
