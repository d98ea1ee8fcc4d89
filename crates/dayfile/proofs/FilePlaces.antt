-- Where the sections and the rows of a written file lie. Assumes nothing.
use mathlib.Core.Path.{◌≡◌, ◌∙◌, ap}
use mathlib.Core.Bool.{true}
use mathlib.Core.List.{List, [], ◌++◌, map}
use Prim.Native.Nat.{ℕ, ◌+◌, ◌*◌, ◌<◌}
use native.Mathlib.Omega.{arith}
use lib.ListN.{length, get_or, length-append, length-map}
use Rattle.codes.specs.Bic.{is_bic}
use Rattle.fields.specs.Text.{joined}
use Rattle.fields.proofs.Holding.{HoldsAt, held_first, held_whole, held-behind, held_in, held_at, mapped-row, joined_length, joined-row}
use Rattle.dayfile.specs.Check.{routes_place, tickets_place}
use Rattle.dayfile.specs.Roster.{participant_in, row_of}
use Rattle.dayfile.specs.FileWriting.{
  participant_bytes,
  route_bytes,
  header_for,
  header_bytes,
  counts_of,
  participants_bytes,
  routes_bytes,
  file_bytes,
  WellFormedDay,
}
use Rattle.codes.proofs.WholeCodes.{bic-length}
use Rattle.dayfile.specs.declared.header.Sections.{Sections}
use Rattle.dayfile.specs.declared.header.Header.{Header}
use Rattle.dayfile.specs.declared.roster.Participant.{Participant}
use Rattle.dayfile.specs.declared.roster.Route.{Route}

participant-length : (q : Participant) → is_bic q.bic ≡ true → length (participant_bytes q) ≡ 24
participant-length q e = length-append q.bic _ ∙ (let l = bic-length q.bic e in omega arith)

route-length : (r : Route) → is_bic r.bic ≡ true → length (route_bytes r) ≡ 16
route-length r e = length-append r.bic _ ∙ (let l = bic-length r.bic e in omega arith)

participant-row : (ps : List Participant) (p : ℕ) → p < length ps
    → get_or (map participant_bytes ps) p [] ≡ participant_bytes (participant_in ps p)
participant-row ps p l = mapped-row participant_bytes ps p _ l

route-row : (rs : List Route) (i : ℕ) → i < length rs → get_or (map route_bytes rs) i [] ≡ route_bytes (row_of rs i)
route-row rs i l = mapped-row route_bytes rs i _ l

module _ (ps : List Participant) (rs : List Route) (ts : List (List ℕ)) (w : WellFormedDay ps rs ts) where
  abbrev counts : Sections
  counts = counts_of ps rs ts

  abbrev header : Header
  header = header_for counts

  abbrev file : List ℕ
  file = file_bytes ps rs ts

  -- the widths of the rows
  participants-wide : (p : ℕ) → p < length (map participant_bytes ps) → length (get_or (map participant_bytes ps) p []) ≡ 24
  participants-wide p l =
      let k : p < length ps = rw (length-map ps participant_bytes) at l in
      rw (participant-row ps p k) (participant-length (participant_in ps p) (w.bic p k))

  routes-wide : (i : ℕ) → i < length (map route_bytes rs) → length (get_or (map route_bytes rs) i []) ≡ 16
  routes-wide i l =
      let k : i < length rs = rw (length-map rs route_bytes) at l in
      rw (route-row rs i k) (route-length (row_of rs i) (w.route_bic i k))

  participants-length : length (participants_bytes ps) ≡ 24 * length ps
  participants-length =
      joined_length 24 (map participant_bytes ps) participants-wide ∙ ap (λ (k : ℕ). 24 * k) (length-map ps participant_bytes)

  routes-length : length (routes_bytes rs) ≡ 16 * length rs
  routes-length = joined_length 16 (map route_bytes rs) routes-wide ∙ ap (λ (k : ℕ). 16 * k) (length-map rs route_bytes)

  pub file-length : length file ≡ tickets_place counts + 108 * length ts
  file-length =
      let p = participants-length in
      let r = routes-length in
      let t = joined_length 108 ts w.ticket in
      length-append (header_bytes header) (participants_bytes ps ++ (routes_bytes rs ++ joined ts))
      ∙ ap (λ (k : ℕ). 12 + k) (length-append (participants_bytes ps) (routes_bytes rs ++ joined ts)
      ∙ ap (λ (k : ℕ). length (participants_bytes ps) + k) (length-append (routes_bytes rs) (joined ts)))
      ∙ omega arith

  -- where the sections lie
  participants-held : HoldsAt file 12 (participants_bytes ps)
  participants-held = held-behind (header_bytes header) (held_first (participants_bytes ps) _)

  routes-held : HoldsAt file (routes_place counts) (routes_bytes rs)
  routes-held = held_at (held-behind (header_bytes header) (held-behind (participants_bytes ps) (held_first (routes_bytes rs) _)))
      (let p = participants-length in omega arith)

  tickets-held : HoldsAt file (tickets_place counts) (joined ts)
  tickets-held =
      held_at
      (held-behind (header_bytes header) (held-behind (participants_bytes ps) (held-behind (routes_bytes rs) (held_whole (joined ts)))))
      (let p = participants-length in let r = routes-length in omega arith)

  -- a row of each
  pub participant-held : (p : ℕ) → p < length ps → HoldsAt file (12 + 24 * p) (participant_bytes (participant_in ps p))
  participant-held p l =
      rw (participant-row ps p l) at
      (held_in participants-held (joined-row 24 (map participant_bytes ps) p (rw (length-map ps participant_bytes) l) participants-wide))

  pub route-held : (i : ℕ) → i < length rs → HoldsAt file (routes_place counts + 16 * i) (route_bytes (row_of rs i))
  route-held i l =
      rw (route-row rs i l) at (held_in routes-held (joined-row 16 (map route_bytes rs) i (rw (length-map rs route_bytes) l) routes-wide))

  pub ticket-held : (k : ℕ) → k < length ts → HoldsAt file (tickets_place counts + 108 * k) (get_or ts k [])
  ticket-held k l = held_in tickets-held (joined-row 108 ts k l w.ticket)
