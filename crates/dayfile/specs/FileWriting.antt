-- A day file's bytes from its fields, and what a file has to have for its bytes to be accepted: 01 'Day file and program'.
--     participant_bytes, route_bytes  a row of 24 bytes and one of 16
--     header_for                     the counts, and the offsets that the layout gives
--     header_bytes                   a header's 12 bytes
--     file_bytes                     header, participants, routes, tickets
--     WellFormedDay                 counts, BICs, openings, routes and tickets within what refusals 2 to 5 ask
--     bank, bank_opening, linked     participants as on paper
--     direct, onward                route rows as on paper
-- Assumes nothing.
use Rattle.std.specs.Prelude.{ℕ, ◌≤◌, ◌<◌, ◌≡◌, true, false, List, [], ◌∷◌, ◌++◌, map, length, get_or, None, Some}
use Rattle.codes.specs.Bic.{is_bic}
use Rattle.fields.specs.Number.{bytes_of}
use Rattle.fields.specs.Text.{same, joined}
use Rattle.ticket.specs.TicketLayout.{ticket_length}
use Rattle.dayfile.specs.FileLimits.{most_participants, most_routes, most_tickets, header_length}
use Rattle.dayfile.specs.Check.{routes_place, tickets_place}
use Rattle.dayfile.specs.Roster.{party_number, wish_number, opening_number, target_kind, target_number, participant_in, row_of}
use Rattle.dayfile.specs.Guarantee.{OpeningWithin, LeadsWithin}
use Rattle.dayfile.specs.declared.header.Sections.{Sections}
use Rattle.dayfile.specs.declared.header.Header.{Header}
use Rattle.dayfile.specs.declared.roster.PartyKind.TheVariants.{Bank, Linked}
use Rattle.dayfile.specs.declared.roster.Target.TheVariants.{To, Row}
use Rattle.dayfile.specs.declared.roster.Participant.{Participant}
use Rattle.dayfile.specs.declared.roster.Route.{Route}

-- 01: BIC, kind, opening (8), wish 0 or 1, three zero
abbrev pub participant_bytes : Participant → List ℕ
participant_bytes q =
    q.bic ++ ((party_number q.kind ∷ [])
    ++ (bytes_of 8 (opening_number q.opening) ++ ((wish_number q.opening ∷ []) ++ (0 ∷ 0 ∷ 0 ∷ []))))

-- 01: BIC, kind, k (2), two zero
abbrev pub route_bytes : Route → List ℕ
route_bytes r = r.bic ++ ((target_kind r.target ∷ []) ++ (bytes_of 2 (target_number r.target) ++ (0 ∷ 0 ∷ [])))

-- 01: sections follow with no gap
abbrev pub header_for : Sections → Header
header_for n = record { counts = n; offsets = record { participants = header_length; routes = routes_place n; tickets = tickets_place n } }

-- 01: counts of participants, routes, tickets, then their offsets, two bytes each
abbrev pub sections_bytes : Sections → List ℕ
sections_bytes n = bytes_of 2 n.participants ++ (bytes_of 2 n.routes ++ bytes_of 2 n.tickets)

abbrev pub header_bytes : Header → List ℕ
header_bytes h = sections_bytes h.counts ++ sections_bytes h.offsets

abbrev pub counts_of : List Participant → List Route → List (List ℕ) → Sections
counts_of ps rs ts = record { participants = length ps; routes = length rs; tickets = length ts }

abbrev pub participants_bytes : List Participant → List ℕ
participants_bytes ps = joined (map participant_bytes ps)

abbrev pub routes_bytes : List Route → List ℕ
routes_bytes rs = joined (map route_bytes rs)

abbrev pub file_bytes : List Participant → List Route → List (List ℕ) → List ℕ
file_bytes ps rs ts =
    header_bytes (header_for (counts_of ps rs ts)) ++ (participants_bytes ps ++ (routes_bytes rs ++ joined ts))

pub record WellFormedDay (ps : List Participant) (rs : List Route) (ts : List (List ℕ)) : Type 0 where
  pub least : 1 ≤ length ps
  pub participants : length ps ≤ most_participants
  pub routes : length rs ≤ most_routes
  pub tickets : length ts ≤ most_tickets
  pub bic : (p : ℕ) → p < length ps → is_bic (participant_in ps p).bic ≡ true
  pub distinct : (p q : ℕ) → p < q → q < length ps → same (participant_in ps p).bic (participant_in ps q).bic ≡ false
  pub opening : (p : ℕ) → p < length ps → OpeningWithin (participant_in ps p).opening
  pub route_bic : (i : ℕ) → i < length rs → is_bic (row_of rs i).bic ≡ true
  pub route_distinct : (i j : ℕ) → i < j → j < length rs → same (row_of rs i).bic (row_of rs j).bic ≡ false
  pub leads : (i : ℕ) → i < length rs → LeadsWithin (length ps) i (row_of rs i).target
  pub ticket : (k : ℕ) → k < length ts → length (get_or ts k []) ≡ ticket_length

abbrev pub bank : List ℕ → Participant
bank bic = record { bic = bic; kind = Bank; opening = None }

abbrev pub bank_opening : List ℕ → ℕ → Participant
bank_opening bic n = record { bic = bic; kind = Bank; opening = Some n }

abbrev pub linked : List ℕ → Participant
linked bic = record { bic = bic; kind = Linked; opening = None }

abbrev pub direct : List ℕ → ℕ → Route
direct bic p = record { bic = bic; target = To p }

abbrev pub onward : List ℕ → ℕ → Route
onward bic row = record { bic = bic; target = Row row }
