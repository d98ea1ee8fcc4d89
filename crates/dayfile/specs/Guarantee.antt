-- What an accepted file guarantees.
--     OpeningWithin            an opening is none or at most 10^15
--     LeadsWithin              a target is a participant, or a row below the row's own number
--     ParticipantNumbers       the numbers of a participant's enums are those of the row at a place
--     RouteNumbers             and so are those of a route
--     RosterNumbers            and so are those of each row of a roster
--     Guaranteed               the roster: counts, BICs, openings, where each row points; what is not in use is as in the empty roster
--     GuaranteedFile           the roster, at least one participant, and where the tickets lie
-- Assumes nothing.
use Rattle.std.specs.Prelude.{ℕ, ◌+◌, ◌*◌, ◌≤◌, ◌<◌, ◌≡◌, true, false, List, length, get_or, None, Option, Some}
use Rattle.codes.specs.Bic.{is_bic}
use Rattle.fields.specs.Number.{number_at}
use Rattle.fields.specs.Text.{same}
use Rattle.ticket.specs.TicketLayout.{ticket_length}
use Rattle.dayfile.specs.FileLimits.{
  most_participants,
  most_routes,
  most_tickets,
  most_opening,
  header_length,
  participant_length,
  route_length,
}
use Rattle.dayfile.specs.Roster.{
  party_number,
  wish_number,
  opening_number,
  target_kind,
  target_number,
  no_participant,
  no_route,
  participant_of,
  route_of,
}
use Rattle.dayfile.specs.DayFile.{day_file}
use Rattle.dayfile.specs.declared.roster.Target.{Target}
use Rattle.dayfile.specs.declared.roster.Target.TheVariants.{To, Row}
use Rattle.dayfile.specs.declared.roster.Participant.{Participant}
use Rattle.dayfile.specs.declared.roster.Route.{Route}
use Rattle.dayfile.specs.declared.roster.Roster.{Roster}

abbrev pub OpeningWithin : Option ℕ → Type 0
OpeningWithin None = Unit {0}
OpeningWithin (Some n) = n ≤ most_opening

abbrev pub LeadsWithin : ℕ → ℕ → Target → Type 0
LeadsWithin size own (To p) = p < size
LeadsWithin size own (Row k) = k < own

-- 01: a kind (0 bank, 1 linked system), opening (8), wish 0 or 1
pub record ParticipantNumbers (at : ℕ) (f : List ℕ) (q : Participant) : Type 0 where
  pub kind : party_number q.kind ≡ get_or f (at + 11) 0
  pub wish : wish_number q.opening ≡ get_or f (at + 20) 0
  pub opening : opening_number q.opening ≡ number_at 8 (at + 12) f

-- 01: kind (0 participant, 1 row), k (2)
pub record RouteNumbers (at : ℕ) (f : List ℕ) (route : Route) : Type 0 where
  pub kind : target_kind route.target ≡ get_or f (at + 11) 0
  pub number : target_number route.target ≡ number_at 2 (at + 12) f

pub record RosterNumbers (f : List ℕ) (r : Roster) : Type 0 where
  pub participant : (p : ℕ) → p < r.size → ParticipantNumbers (header_length + participant_length * p) f (participant_of r p)
  pub route : (i : ℕ) → i < r.rows → RouteNumbers (header_length + participant_length * r.size + route_length * i) f (route_of r i)

pub record Guaranteed (r : Roster) : Type 0 where
  pub size : r.size ≤ most_participants
  pub rows : r.rows ≤ most_routes
  pub participants : length r.participants ≡ most_participants
  pub routes : length r.routes ≡ most_routes
  pub bic : (p : ℕ) → p < r.size → is_bic (participant_of r p).bic ≡ true
  pub distinct : (p q : ℕ) → p < q → q < r.size → same (participant_of r p).bic (participant_of r q).bic ≡ false
  pub opening : (p : ℕ) → p < r.size → OpeningWithin (participant_of r p).opening
  pub route_bic : (i : ℕ) → i < r.rows → is_bic (route_of r i).bic ≡ true
  pub route_distinct : (i j : ℕ) → i < j → j < r.rows → same (route_of r i).bic (route_of r j).bic ≡ false
  pub leads : (i : ℕ) → i < r.rows → LeadsWithin r.size i (route_of r i).target
  pub unused : (p : ℕ) → r.size ≤ p → p < most_participants → participant_of r p ≡ no_participant
  pub route_unused : (i : ℕ) → r.rows ≤ i → i < most_routes → route_of r i ≡ no_route

pub record GuaranteedFile (f : List ℕ) : Type 0 where
  pub roster : Guaranteed (day_file f).roster
  pub least : 1 ≤ (day_file f).roster.size
  pub tickets : (day_file f).tickets ≤ most_tickets
  pub first : (day_file f).first ≡ header_length + participant_length * (day_file f).roster.size + route_length * (day_file f).roster.rows
  pub end : length f ≡ (day_file f).first + ticket_length * (day_file f).tickets
