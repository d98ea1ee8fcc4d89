-- Demand 3 of steps one after the other, and of what the clearing program prints.
--     steps-demand3       demand 3, of the events of any tickets' steps from any sound book, and the book after them
--     printed-demand3     the lines that are printed of a day file are those of such steps, and of the book after them
-- Assumes nothing.
use mathlib.Core.Path.{◌≡◌}
use mathlib.Core.List.{List, [], ◌∷◌}
use Prim.Native.Nat.{ℕ}
use borrow.Author.Tests.{eq-eqb}
use Rattle.dayfile.specs.DayFile.{day_file}
use Rattle.rules.specs.Book.{book_of}
use Rattle.rules.specs.Step.{step_of, steps_of, book_after}
use Rattle.rules.specs.Program.{output}
use Rattle.rules.specs.Sound.{Sound}
use Rattle.rules.specs.declared.Book.{Book}
use Rattle.rules.proofs.StepSound.{file-sound}
use Rattle.audit.specs.History.{History, from, ◌▹◌}
use Rattle.audit.specs.Claim.{Claim}
use Rattle.audit.proofs.AlongInputs.{Carried, carried-start, carried-claim}
use Rattle.calls.specs.Steps.{step_event, step_events, day_tickets, Prints}
use Rattle.calls.proofs.Reaching.{carried-one}

steps-carried : {h : History} {b : Book} → Carried h b → (ts : List (List ℕ))
    → Carried (step_events ts (steps_of b ts) h) (book_after b (steps_of b ts))
steps-carried c [] = c
steps-carried {h = h} {b = b} c (t ∷ ts) = steps-carried {h = step_event t (step_of b t) ▹ h} (carried-one c t) ts

pub steps-demand3 : (b : Book) → Sound b → (ts : List (List ℕ)) → let ss = steps_of b ts in
    Claim (step_events ts ss (from b)) (book_after b ss)
steps-demand3 b s ts = carried-claim (steps-carried (carried-start b s) ts)

pub printed-demand3 : (file : List ℕ) → (day_file file).refusal ≡ 0 → Prints file
unfolding output
printed-demand3 file accepted = record {
  lines = rw (eq-eqb (day_file file).refusal 0 accepted);
  claim = steps-demand3 (book_of file) (file-sound file) (day_tickets file);
}
