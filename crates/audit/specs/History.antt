-- What is seen from outside: 01 'Demand 3, word by word', first paragraph.
--     Event           a ticket of any bytes and length, its refusal and its reports
--     History         a book that it starts from, and the events since, newest first: what stands behind an event was before it
--     participants    the start's
--     Each            a fact of each event and what was before it
--     sum_over         a sum over the start and the events
--     is_accepted      its refusal is 0
--     is_kind          an accepted ticket of a kind
--     is_sent_by        its sender is participant p
--     is_bank_of        participant p is a bank
-- Everything is read off the start and the events. Assumes nothing.
use Rattle.std.specs.Prelude.{ℕ, ◌+◌, Bool, ◌&&◌, List, ltb, eqb}
use Rattle.fields.specs.Text.{same}
use Rattle.ticket.specs.TicketLayout.{kind_byte, flag_byte, sender_of}
use Rattle.report.specs.declared.Report.{Report}
use Rattle.dayfile.specs.Roster.{participant_of}
use Rattle.dayfile.specs.declared.roster.Roster.{Roster}
use Rattle.rules.specs.Book.{is_bank}
use Rattle.rules.specs.declared.Book.{Book}

pub record Event : Type 0 where
  pub ticket : List ℕ
  pub refusal : ℕ
  pub reports : List Report

infixr 67 ◌▹◌
pub data History : Type 0 where
  -- nothing was seen yet: what a book tells of what was before it
  from : Book → History
  -- an event, and what was before it
  ◌▹◌ : Event → History → History

abbrev pub participants : History → Roster
participants (from b) = b.roster
participants (e ▹ before) = participants before

abbrev pub Each : (Event → History → Type 0) → History → Type 0
Each P (from b) = Unit {0}
Each P (e ▹ before) = P e before × Each P before

-- what the start counts for, and each event with what was before it
abbrev pub sum_over : (Book → ℕ) → (Event → History → ℕ) → History → ℕ
sum_over first f (from b) = first b
sum_over first f (e ▹ before) = f e before + sum_over first f before

abbrev pub is_accepted : Event → Bool
is_accepted e = eqb e.refusal 0

abbrev pub is_kind : ℕ → Event → Bool
is_kind k e = is_accepted e && eqb (kind_byte e.ticket) k

-- an accepted yes: kind 4, flag 1
abbrev pub is_yes : Event → Bool
is_yes e = is_kind 4 e && eqb (flag_byte e.ticket) 1

abbrev pub is_sent_by : Roster → ℕ → Event → Bool
is_sent_by ps p e = same (participant_of ps p).bic (sender_of e.ticket)

abbrev pub is_bank_of : Roster → ℕ → Bool
is_bank_of ps p = ltb p ps.size && is_bank ps p
