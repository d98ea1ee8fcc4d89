-- Demand 3 of the bytes that `zolfigar_steps` leaves: the events of as many tickets as its answer tells, read off them, and the book that
-- the core has after them. Assumes nothing.
use mathlib.Core.Path.{sym, ◌∙◌, ap, subst}
use mathlib.Core.List.{List}
use Prim.Native.Nat.{ℕ}
use lib.ListN.{length}
use Rattle.rules.specs.Book.{book_of}
use Rattle.rules.specs.Step.{book_after}
use Rattle.rules.proofs.StepSound.{file-sound}
use Rattle.audit.specs.History.{History, from}
use Rattle.audit.specs.Claim.{Claim}
use Rattle.audit.proofs.AlongInputs.{carried-start, carried-claim}
use Rattle.foreign_steps.specs.Stepped.{ticket_section, steps_taken, taken_by, Stepped}
use Rattle.foreign_steps.proofs.Answering.{taken-told}
use Rattle.calls.specs.Kept.{read_on}
use Rattle.calls.proofs.KeptBook.{carried-bytes}

pub stepped-demand3 : (file answers₀ reports₀ : List ℕ) (answer : ℕ) (answers reports : List ℕ)
    → Stepped file answers₀ reports₀ answer answers reports
    → Claim (read_on (taken_by answer) (ticket_section file) answers reports (from (book_of file)))
    (book_after (book_of file) (steps_taken file (length answers₀) (length reports₀)))
stepped-demand3 file answers₀ reports₀ answer answers reports s =
    let taken = ap taken_by s.answer-is ∙ taken-told file (length answers₀) (length reports₀) in
    subst (λ (h : History). Claim h (book_after (book_of file) (steps_taken file (length answers₀) (length reports₀))))
    (sym (λ i. read_on (taken i) (ticket_section file) (s.answers-are i) (s.reports-are i) (from (book_of file))))
    (carried-claim (carried-bytes (carried-start (book_of file) (file-sound file)) (ticket_section file) answers₀ reports₀))
