-- Steps as events, and the lines that the clearing program prints of a day file that is not refused.
--     step_event, step_events     the event that a ticket's step is; those of tickets and their steps, in front of those before
--     day_tickets, day_steps      the tickets of a day file, and their steps
--     Prints                    what is printed are these steps' lines and those of the book after them, and demand 3 holds of both
-- Assumes nothing.
use Rattle.std.specs.Prelude.{ℕ, ◌≡◌, List, [], ◌∷◌}
use Rattle.dayfile.specs.DayFile.{day_file}
use Rattle.rules.specs.Tick.{Step}
use Rattle.rules.specs.Book.{book_of}
use Rattle.rules.specs.Step.{steps_of, book_after}
use Rattle.rules.specs.Program.{tickets_from, day_lines, output}
use Rattle.audit.specs.History.{Event, History, from, ◌▹◌}
use Rattle.audit.specs.Claim.{Claim}

abbrev pub step_event : List ℕ → Step → Event
step_event t s = record { ticket = t; refusal = s.refusal; reports = s.reports }

abbrev pub step_events : List (List ℕ) → List Step → History → History
step_events [] ss h = h
step_events (t ∷ ts) [] h = h
step_events (t ∷ ts) (s ∷ ss) h = step_events ts ss (step_event t s ▹ h)

abbrev pub day_tickets : List ℕ → List (List ℕ)
day_tickets file = tickets_from file 0 (day_file file).tickets

abbrev pub day_steps : List ℕ → List Step
day_steps file = steps_of (book_of file) (day_tickets file)

-- "T number refusal reports rows" has a step's refusal and report count, and its "R" lines are its reports; "C" has the cover
pub record Prints (file : List ℕ) : Type 0 where
  pub lines : output file ≡ day_lines (book_of file) (day_steps file)
  pub claim : Claim (step_events (day_tickets file) (day_steps file) (from (book_of file))) (book_after (book_of file) (day_steps file))
