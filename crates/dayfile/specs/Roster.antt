-- The roster that a file's rows give. Rows that are not in use are the zero of their type.
--     party_number                   a kind's byte
--     wish_number, opening_number     whether an opening is wished, and its cents
--     target_kind, target_number      the kind of a route row, and its k
--     kind_of, opening_of, target_of   the case with these numbers
--     participant_at, route_at        the row at a place
--     participants_to, routes_to      the first n rows of a section that starts at a place
--     bank_kind                      whether a kind is that of a bank
--     RowsWithin                    the counts are in range and the rows lie within the file
--     roster_of                      participants and routes, by the counts and offsets of a header
--     participant_of, route_of        the rows of a roster, by number
--     participant_in, row_of          the same of the participants and the routes alone
--     empty_roster                   none of either
-- Assumes nothing.
use Rattle.std.specs.Prelude.{ℕ, ◌+◌, ◌*◌, ◌≤◌, Bool, true, false, cond, List, [], eqb, get_or, replicate, None, Option, Some}
use Rattle.fields.specs.Number.{part, number_at}
use Rattle.fields.specs.UpTo.{rows_to}
use Rattle.dayfile.specs.FileLimits.{most_participants, most_routes, participant_length, route_length}
use Rattle.dayfile.specs.declared.header.Header.{Header}
use Rattle.dayfile.specs.declared.roster.PartyKind.{PartyKind}
use Rattle.dayfile.specs.declared.roster.PartyKind.TheVariants.{Bank, Linked}
use Rattle.dayfile.specs.declared.roster.Target.{Target}
use Rattle.dayfile.specs.declared.roster.Target.TheVariants.{To, Row}
use Rattle.dayfile.specs.declared.roster.Participant.{Participant}
use Rattle.dayfile.specs.declared.roster.Route.{Route}
use Rattle.dayfile.specs.declared.roster.Roster.{Roster}

-- 01: a kind (0 bank, 1 linked system such as RT1)
abbrev pub party_number : PartyKind → ℕ
party_number Bank = 0
party_number Linked = 1

-- 01: if it wishes, an opening cover (0 included); wish 0 or 1
abbrev pub wish_number : Option ℕ → ℕ
wish_number None = 0
wish_number (Some n) = 1

abbrev pub opening_number : Option ℕ → ℕ
opening_number None = 0
opening_number (Some n) = n

-- 01: kind (0 participant, 1 row), k
abbrev pub target_kind : Target → ℕ
target_kind (To p) = 0
target_kind (Row k) = 1

abbrev pub target_number : Target → ℕ
target_number (To p) = p
target_number (Row k) = k

abbrev pub kind_of : ℕ → PartyKind
kind_of b = cond (eqb b (party_number Linked)) Linked Bank

abbrev pub bank_kind : PartyKind → Bool
bank_kind Bank = true
bank_kind Linked = false

abbrev pub opening_of : ℕ → ℕ → Option ℕ
opening_of wish n = cond (eqb wish (wish_number (Some n))) (Some n) None

-- 01: leads either to participant k, or goes on from row k
abbrev pub target_of : ℕ → ℕ → Target
target_of kind k = cond (eqb kind (target_kind (Row k))) (Row k) (To k)

abbrev pub participant_at : ℕ → List ℕ → Participant
participant_at at f =
    record {
      bic = part 11 at f;
      kind = kind_of (get_or f (at + 11) 0);
      opening = opening_of (get_or f (at + 20) 0) (number_at 8 (at + 12) f);
    }

abbrev pub route_at : ℕ → List ℕ → Route
route_at at f = record { bic = part 11 at f; target = target_of (get_or f (at + 11) 0) (number_at 2 (at + 12) f) }

abbrev pub no_participant : Participant
no_participant = record { bic = replicate 11 0; kind = Bank; opening = None }

abbrev pub no_route : Route
no_route = record { bic = replicate 11 0; target = To 0 }

abbrev pub participants_to : ℕ → ℕ → List ℕ → List Participant
participants_to start n f = rows_to most_participants no_participant (λ i. participant_at (start + participant_length * i) f) n

abbrev pub routes_to : ℕ → ℕ → List ℕ → List Route
routes_to start n f = rows_to most_routes no_route (λ i. route_at (start + route_length * i) f) n

pub record RowsWithin (h : Header) (bytes : ℕ) : Type 0 where
  pub few : h.counts.participants ≤ most_participants
  pub participants : h.offsets.participants + participant_length * h.counts.participants ≤ bytes
  pub short : h.counts.routes ≤ most_routes
  pub routes : h.offsets.routes + route_length * h.counts.routes ≤ bytes

abbrev pub roster_of : Header → List ℕ → Roster
roster_of h f =
    record {
      participants = participants_to h.offsets.participants h.counts.participants f;
      size = h.counts.participants;
      routes = routes_to h.offsets.routes h.counts.routes f;
      rows = h.counts.routes;
    }

abbrev pub empty_roster : Roster
empty_roster = record { participants = replicate most_participants no_participant; size = 0; routes = replicate most_routes no_route; rows = 0 }

abbrev pub participant_in : List Participant → ℕ → Participant
participant_in participants p = get_or participants p (record { bic = []; kind = Bank; opening = None })

abbrev pub participant_of : Roster → ℕ → Participant
participant_of r p = participant_in r.participants p

abbrev pub row_of : List Route → ℕ → Route
row_of routes i = get_or routes i (record { bic = []; target = To 0 })

abbrev pub route_of : Roster → ℕ → Route
route_of r i = row_of r.routes i
