-- A book that is kept by any calls of `open`, `hand_in` and the core's `run`, in any mixture, and nobody else writes it in between. It is
-- put together from what the three promise, and from nothing else. It may also come from elsewhere, if it is sound.
--     read_on     the events of tickets that the core took, read off the bytes that it wrote, in front of those before
--     Kept       what it started from with all events since, newest first, and the book at the end
-- Assumes nothing.
use Rattle.std.specs.Prelude.{ℕ, zero, suc, ◌*◌, List, take, drop}
use Rattle.ticket.specs.TicketLayout.{ticket_length}
use Rattle.report.specs.ReportLayout.{report_length, reports_of}
use Rattle.report.specs.Answer.{answer_length, answer_at}
use Rattle.report.specs.declared.answer.Answer.{Answer}
use Rattle.rules.specs.Book.{book_of}
use Rattle.rules.specs.Inputs.{Input}
use Rattle.rules.specs.Sound.{Sound}
use Rattle.rules.specs.declared.Book.{Book}
use Rattle.course.specs.Running.{Ran}
use Rattle.book.specs.Opening.{Opens}
use Rattle.book.specs.Handing.{Hands}
use Rattle.book.specs.declared.opening.Opened.{Opened}
use Rattle.book.specs.declared.handing.Handed.{Handed}
use Rattle.audit.specs.History.{Event, History, from, ◌▹◌}
use Rattle.audit.specs.Run.{event_of}
use Rattle.calls.specs.Calls.{seen_of}

-- the event of a ticket with an answer: as many reports as it says, from the start of those that are left
abbrev pub answered_event : List ℕ → Answer → List ℕ → Event
answered_event ticket a reports = record { ticket = ticket; refusal = a.refusal; reports = reports_of a.reports reports }

-- k tickets, answers and reports, each behind the one before
abbrev pub read_on : ℕ → List ℕ → List ℕ → List ℕ → History → History
read_on zero tickets answers reports h = h
read_on (suc k) tickets answers reports h =
    let a = answer_at answers 0 in
    read_on k (drop ticket_length tickets) (drop answer_length answers) (drop (report_length * a.reports) reports)
    (answered_event (take ticket_length tickets) a reports ▹ h)

pub data Kept : History → Book → Type 0 where
  -- a day file is opened
  opened : {file : List ℕ} {r : Opened} → Opens file r → Kept (from (book_of file)) r.book
  -- a sound book is there
  given : {b : Book} → Sound b → Kept (from b) b
  -- one ticket is handed in
  handed : {h : History} {b : Book} {x : Input} {r : Handed} {after : List ℕ}
      → Kept h b → Hands b x.ticket x.buffer r after
      → Kept (event_of (seen_of x r after) ▹ h) r.book
  -- the core is run over many: it took k, and left these answers and reports
  ran : {h : History} {b c : Book} {tickets answers₀ reports₀ answers reports : List ℕ} {k : ℕ}
      → Kept h b → Ran b tickets answers₀ reports₀ c k answers reports
      → Kept (read_on k tickets answers reports h) c
