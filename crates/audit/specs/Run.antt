-- The history that the rules give for a list of inputs, from any book.
--     event_of      the event that is seen of an input: as many reports as the report count, read from the buffer's start
--     events_on     the events of what is seen, oldest first, in front of those before
--     history_of    the history of inputs that are handed to a book
-- Assumes nothing.
use Rattle.std.specs.Prelude.{List, [], ◌∷◌}
use Rattle.report.specs.ReportLayout.{reports_of}
use Rattle.rules.specs.Inputs.{Input, Seen, seen_from}
use Rattle.rules.specs.declared.Book.{Book}
use Rattle.audit.specs.History.{Event, History, from, ◌▹◌}

abbrev pub event_of : Seen → Event
event_of s = record { ticket = s.ticket; refusal = s.refusal; reports = reports_of s.reports s.buffer }

abbrev pub events_on : History → List Seen → History
events_on h [] = h
events_on h (s ∷ later) = events_on (event_of s ▹ h) later

abbrev pub history_of : Book → List Input → History
history_of b inputs = events_on (from b) (seen_from b inputs)
