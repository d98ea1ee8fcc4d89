-- The step: what a ticket of any bytes and length does to a book and to the report buffer that is lent for it, of any bytes and
-- length.
--     step_of     past refusal 6. `Step` itself is in `Tick.antt`, since a tick is one
--     handed     with refusal 6
--     Outcome    refusal, report count, rows followed, book and buffer afterwards
--     outcome    the whole step
--     steps_of    the steps of tickets one after the other
-- Assumes nothing.
use Rattle.std.specs.Prelude.{ℕ, cond, List, [], ◌∷◌, ◌++◌, eqb, length, Err, Ok, Result}
use Rattle.ticket.specs.TicketReading.{reading}
use Rattle.ticket.specs.declared.Fields.{Fields}
use Rattle.report.specs.ReportLayout.{laid}
use Rattle.rules.specs.Tick.{Step, tick}
use Rattle.rules.specs.Find.{finding}
use Rattle.rules.specs.Refusal.{buffer_of, buffer_refusal, timing_of, timing_refusal, first_refusal}
use Rattle.rules.specs.Decision.{decision_of, applied, told_by}
use Rattle.rules.specs.declared.refusal.Buffer.{Buffer}
use Rattle.rules.specs.declared.refusal.Buffer.TheVariants.{Enough, Short}
use Rattle.rules.specs.declared.refusal.Timing.{Timing}
use Rattle.rules.specs.declared.refusal.Timing.TheVariants.{InTime, Early}
use Rattle.rules.specs.declared.finding.Finding.{Finding}
use Rattle.rules.specs.declared.decision.Decision.{Decision}
use Rattle.rules.specs.declared.Book.{Book}

-- 6 to 11 leave book and buffer untouched
abbrev pub untouched : Book → ℕ → Step
untouched b n = record { refusal = n; reports = []; rows = 0; book = b }

-- 12 to 22, and 26, which leaves what 18 leaves: what a tick of that time leaves, with its reports
abbrev pub ticked : Step → ℕ → Step
ticked w n = record { refusal = n; reports = w.reports; rows = 0; book = w.book }

-- the ticket's own step follows the expiries
abbrev pub accepted : Step → Decision → Step
accepted w d = record { refusal = 0; reports = w.reports ++ told_by w.book d; rows = d.rows; book = applied w.book d }

-- refused by n, or accepted
abbrev pub refused_or : ℕ → Step → Finding → Step
refused_or n w x = cond (eqb n 0) (accepted w (decision_of x)) (ticked w n)

abbrev pub decided : Step → Finding → Step
decided w x = refused_or (first_refusal x) w x

abbrev pub after_tick : Step → Fields → List ℕ → Step
after_tick w f t = decided w (finding w.book f t)

abbrev pub step_timed : Book → List ℕ → Fields → Timing → Step
step_timed b t f InTime = after_tick (tick b f.time) f t
step_timed b t f Early = untouched b (timing_refusal Early)

abbrev pub step_read : Book → List ℕ → Result Fields ℕ → Step
step_read b t (Ok f) = step_timed b t f (timing_of b.clock f.time)
step_read b t (Err n) = untouched b n

unfoldable pub step_of : Book → List ℕ → Step
step_of b t = step_read b t (reading t)

abbrev pub step_lent : Book → List ℕ → Buffer → Step
step_lent b t Enough = step_of b t
step_lent b t Short = untouched b (buffer_refusal Short)

unfoldable pub handed : Book → List ℕ → List ℕ → Step
handed b t buffer = step_lent b t (buffer_of buffer)

pub record Outcome : Type 0 where
  pub refusal : ℕ
  pub reports : ℕ
  pub rows : ℕ
  pub book : Book
  pub buffer : List ℕ

-- 01: reports fill the buffer from its start; bytes after the last report keep their value
abbrev pub handed_back : Step → List ℕ → Outcome
handed_back s buffer =
    record { refusal = s.refusal; reports = length s.reports; rows = s.rows; book = s.book; buffer = laid s.reports buffer }

abbrev pub outcome : Book → List ℕ → List ℕ → Outcome
outcome b t buffer = handed_back (handed b t buffer) buffer

abbrev pub steps_of : Book → List (List ℕ) → List Step
steps_of b [] = []
steps_of b (t ∷ ts) = let s = step_of b t in s ∷ steps_of s.book ts

-- the book after them
abbrev pub book_after : Book → List Step → Book
book_after b [] = b
book_after b (s ∷ ss) = book_after s.book ss
