-- What is promised of a text and a time.
--     refusal_of    a verdict's number: 0 where a ticket is accepted
--     left_in       what a verdict leaves in a buffer: the ticket in its first 108 bytes, or what was there
--     verdict_of    of what is found in a text
--     Answered     for every reading of the text the verdict is judged of its named elements; one other than 23 comes with a reading
--     Ordered      what the function for C answers, and what it leaves in the ticket that it is lent
-- Assumes nothing.
use Rattle.std.specs.Prelude.{ℕ, ◌≡◌, cond, List, ◌++◌, ltb, length, drop}
use Rattle.ticket.specs.TicketLayout.{ticket_length}
use Rattle.xml.specs.WellFormed.{Reading}
use Rattle.pacs.specs.Named.{met, outside}
use Rattle.pacs.specs.Judged.{Verdict, refused, accepted, judged}
use Rattle.pacs.specs.Walk.{Found, unread, read_as}

abbrev pub refusal_of : Verdict → ℕ
refusal_of (refused n) = n
refusal_of (accepted ticket) = 0

abbrev pub left_in : List ℕ → Verdict → List ℕ
left_in buffer (refused n) = buffer
left_in buffer (accepted ticket) = ticket ++ drop ticket_length buffer

-- 02, slip 3 (23): text too long, elements not balanced or too deep, or a form not allowed
abbrev pub form_refusal : ℕ
form_refusal = 23

abbrev pub verdict_of : ℕ → Found → Verdict
verdict_of time unread = refused form_refusal
verdict_of time (read_as d seen) = judged time seen

pub record Answered (t : List ℕ) (time : ℕ) (v : Verdict) : Type 0 where
  pub read : (r : Reading t) → v ≡ judged time (met r.document.root outside)
  pub formed : (v ≡ refused form_refusal → ⊥) → Reading t

-- a ticket of less than 108 bytes is told by 255
abbrev pub short_ticket : ℕ
short_ticket = 255

pub record Ordered (t : List ℕ) (time : ℕ) (before after : List ℕ) (answer : ℕ) : Type 0 where
  pub verdict : Verdict
  pub answered : Answered t time verdict
  pub number : answer ≡ cond (ltb (length before) ticket_length) short_ticket (refusal_of verdict)
  pub ticket : after ≡ cond (ltb (length before) ticket_length) before (left_in before verdict)
