-- Refusals 2 to 5.
--     ranged           2, on the counts
--     routes_place      where the routes begin, by the counts
--     tickets_place     where the tickets begin
--     placed           3, on the offsets and the file's length
--     participants_ok   the first n participant rows of a section are right
--     enrolled         4, by that
--     routes_ok         the first n route rows of a section are right
--     routed           5, by that
--     CountsInRange    what 2 leaves
-- Assumes nothing.
use Rattle.std.specs.Prelude.{ℕ, ◌+◌, ◌*◌, ◌≤◌, Bool, ◌&&◌, not, cond, List, leb, eqb}
use Rattle.fields.specs.Number.{part}
use Rattle.fields.specs.UpTo.{all_to}
use Rattle.ticket.specs.TicketLayout.{ticket_length}
use Rattle.dayfile.specs.FileLimits.{most_participants, most_routes, most_tickets, header_length, participant_length, route_length}
use Rattle.dayfile.specs.FileRows.{participant_ok, route_ok, bic_among}
use Rattle.dayfile.specs.declared.header.Sections.{Sections}
use Rattle.dayfile.specs.declared.header.Header.{Header}
use Rattle.dayfile.specs.declared.check.Ranged.{Ranged}
use Rattle.dayfile.specs.declared.check.Ranged.TheVariants.{Within, Outside}
use Rattle.dayfile.specs.declared.check.Placed.{Placed}
use Rattle.dayfile.specs.declared.check.Placed.TheVariants as placed-is
use Rattle.dayfile.specs.declared.check.Enrolled.{Enrolled}
use Rattle.dayfile.specs.declared.check.Enrolled.TheVariants as participants-are
use Rattle.dayfile.specs.declared.check.Routed.{Routed}
use Rattle.dayfile.specs.declared.check.Routed.TheVariants as routes-are

pub record CountsInRange (n : Sections) : Type 0 where
  pub least : 1 ≤ n.participants
  pub participants : n.participants ≤ most_participants
  pub routes : n.routes ≤ most_routes
  pub tickets : n.tickets ≤ most_tickets

-- 2. Participants not 1 to 32, routes above 64 or tickets above 512
abbrev pub ranged : Header → Ranged
ranged h =
    let n = h.counts in
    cond
    (leb 1 n.participants && leb n.participants most_participants && leb n.routes most_routes && leb n.tickets most_tickets)
    Within
    Outside

-- where the routes and the tickets begin: sections follow the header with no gap
abbrev pub routes_place : Sections → ℕ
routes_place n = header_length + participant_length * n.participants

abbrev pub tickets_place : Sections → ℕ
tickets_place n = routes_place n + route_length * n.routes

-- 3. Offsets or file length other than the layout gives
abbrev pub placed : Header → ℕ → Placed
placed h size =
    let n = h.counts in
    let at = h.offsets in
    cond
    (eqb at.participants header_length
    && eqb at.routes (routes_place n)
    && eqb at.tickets (tickets_place n)
    && eqb size (tickets_place n + ticket_length * n.tickets))
    placed-is.Right
    placed-is.Wrong

-- 4. Participant row: wrong by itself, or an earlier row's BIC
abbrev pub participant_right : ℕ → List ℕ → ℕ → Bool
participant_right start f i =
    let at = start + participant_length * i in
    participant_ok at f && not (bic_among start participant_length i (part 11 at f) f)

abbrev pub participants_ok : ℕ → ℕ → List ℕ → Bool
participants_ok start n f = all_to (participant_right start f) n

abbrev pub enrolled : ℕ → ℕ → List ℕ → Enrolled
enrolled start n f = cond (participants_ok start n f) participants-are.Right participants-are.Wrong

-- 5. Route row: wrong by itself, or a BIC that an earlier route row has
abbrev pub route_right : ℕ → ℕ → List ℕ → ℕ → Bool
route_right size start f i =
    let at = start + route_length * i in
    route_ok size i at f && not (bic_among start route_length i (part 11 at f) f)

abbrev pub routes_ok : ℕ → ℕ → ℕ → List ℕ → Bool
routes_ok size start n f = all_to (route_right size start f) n

abbrev pub routed : ℕ → ℕ → ℕ → List ℕ → Routed
routed size start n f = cond (routes_ok size start n f) routes-are.Right routes-are.Wrong
