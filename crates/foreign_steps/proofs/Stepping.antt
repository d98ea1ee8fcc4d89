-- What the steps of a day's tickets leave behind: of a refused file nothing, nor where the first ticket has no room; else what the core
-- leaves. Assumes nothing.
use Rattle.std.specs.Prelude.{◌≡◌, ℕ, ◌+◌, ◌≤◌, true, false, List, [], length, drop}
use mathlib.Core.Path.{refl, sym, ◌∙◌, ap, subst}
use native.Mathlib.Omega.{arith}
use borrow.Author.Tests.{eq-eqb, ne_eqb}
use Rattle.report.specs.ReportLayout.{laid}
use Rattle.report.specs.Answer.{answers_laid}
use Rattle.dayfile.specs.DayFile.{day_file}
use Rattle.dayfile.proofs.Accepted.{file-guaranteed}
use Rattle.rules.specs.Book.{book_of}
use Rattle.rules.specs.Tick.{Step}
use Rattle.rules.specs.Taken.{answers_of, reports_in}
use Rattle.rules.specs.declared.Book.{Book}
use Rattle.course.specs.Running.{ran, Ran}
use Rattle.book.specs.Opening.{opened_day}
use Rattle.book.specs.declared.opening.Opened.{Opened}
use Rattle.foreign_steps.specs.Stepped.{steps_taken, lacks_room, steps_answer, Stepped}
use Rattle.foreign_steps.proofs.Answering.{refused_none, roomless-none}

module _ (file answers₀ reports₀ : List ℕ) where
  -- the answer and the steps known, the rest follows
  by : {n : ℕ} {answers reports : List ℕ} (ss : List Step) → steps_taken file (length answers₀) (length reports₀) ≡ ss
      → n ≡ steps_answer file (length answers₀) (length reports₀)
      → answers ≡ answers_laid (answers_of ss) answers₀ → reports ≡ laid (reports_in ss) reports₀
      → Stepped file answers₀ reports₀ n answers reports
  by ss e n a r = record { answer-is = n; answers-are = rw e a; reports-are = rw e r }

  -- of what was opened
  module _ (o : Opened) (e : o ≡ opened_day file) where
    refusal_is : o.refusal ≡ (day_file file).refusal
    refusal_is = ap (λ (x : Opened). x.refusal) e

    tickets-are : o.tickets ≡ (day_file file).tickets
    tickets-are = ap (λ (x : Opened). x.tickets) e

    pub refused-stepped : (o.refusal ≡ 0 → ⊥) → Stepped file answers₀ reports₀ (1024 + o.refusal) answers₀ reports₀
    refused-stepped h =
        let refused : (day_file file).refusal ≡ 0 → ⊥ = λ z. h (refusal_is ∙ z) in
        by [] (refused_none file (length answers₀) (length reports₀) refused)
        (rw (ne_eqb (day_file file).refusal 0 refused) (ap (λ (n : ℕ). 1024 + n) refusal_is)) refl refl

    pub roomless-stepped : o.refusal ≡ 0 → lacks_room o.tickets (length answers₀) (length reports₀) ≡ true
        → Stepped file answers₀ reports₀ 2048 answers₀ reports₀
    roomless-stepped h l =
        let lacks = subst (λ (n : ℕ). lacks_room n (length answers₀) (length reports₀) ≡ true) tickets-are l in
        by [] (roomless-none file (length answers₀) (length reports₀) lacks)
        (rw (eq-eqb (day_file file).refusal 0 (sym refusal_is ∙ h), lacks)) refl refl

    pub accepted-stepped : {c : Book} {k : ℕ} {answers reports : List ℕ} → o.refusal ≡ 0
        → lacks_room o.tickets (length answers₀) (length reports₀) ≡ false
        → Ran o.book (drop o.first file) answers₀ reports₀ c k answers reports
        → Stepped file answers₀ reports₀ k answers reports
    accepted-stepped {c} {k} {answers} {reports} h l left =
        let accepted = eq-eqb (day_file file).refusal 0 (sym refusal_is ∙ h) in
        let has = subst (λ (n : ℕ). lacks_room n (length answers₀) (length reports₀) ≡ false) tickets-are l in
        let w = subst (λ (x : Opened). Ran x.book (drop x.first file) answers₀ reports₀ c k answers reports) e left in
        by (ran (book_of file) (drop (day_file file).first file) (length answers₀) (length reports₀))
        (rw accepted refl) (rw (accepted, has) w.taken) w.answers w.reports

    pub first-within : o.refusal ≡ 0 → o.first ≤ length file
    first-within h =
        let g = (file-guaranteed file (sym refusal_is ∙ h)).end in
        let f = ap (λ (x : Opened). x.first) e in
        omega arith
