-- The bytes that are written of a well-formed day are accepted, and reading them gives the day back. Assumes nothing.
use Rattle.std.specs.Prelude.{Some}
use mathlib.Core.Path.{◌≡◌, refl, ◌∙◌, ap, ap₂}
use mathlib.Core.Bool.{Bool, true, false, ◌&&◌, not}
use mathlib.Core.List.{List, [], ◌∷◌}
use Prim.Native.Nat.{ℕ, ◌+◌, ◌*◌, ◌≤◌, ◌<◌}
use native.Mathlib.Nat.{not-suc-le-zero}
use native.Mathlib.Omega.{arith}
use borrow.Author.Tests.{le-leb, le-ltb, eq-eqb}
use lib.ListN.{length, get_or}
use Rattle.codes.specs.Bic.{is_bic}
use Rattle.fields.specs.Number.{part, bytes_of}
use Rattle.fields.specs.Text.{text, same}
use Rattle.fields.proofs.UpTo.{all-to, none-to, row_at}
use Rattle.fields.proofs.Holding.{HoldsAt, held_first, held_whole, held-behind, held_in, held_at, held-part, held_number}
use Rattle.dayfile.specs.Header.{sections_at, headed}
use Rattle.dayfile.specs.Check.{routes_place, tickets_place, ranged, placed, participant_right, route_right, participants_ok, routes_ok}
use Rattle.dayfile.specs.FileRows.{bic_among}
use Rattle.dayfile.specs.Roster.{
  target_number,
  no_participant,
  no_route,
  participant_at,
  route_at,
  participant_in,
  row_of,
  participant_of,
  route_of,
}
use Rattle.dayfile.specs.DayFile.{day_file, accepted_file, ticket_at}
use Rattle.dayfile.specs.Guarantee.{LeadsWithin}
use Rattle.dayfile.specs.FileWriting.{header_for, sections_bytes, header_bytes, counts_of, file_bytes, WellFormedDay, bank, direct}
use Rattle.dayfile.proofs.Passing.{file-accepted}
use Rattle.dayfile.proofs.FilePlaces.{file-length, participant-held, route-held, ticket-held}
use Rattle.dayfile.proofs.RowsReadBack.{participant-back, participant-written, route-back, route-written}
use Rattle.dayfile.specs.declared.DayFile.{DayFile}
use Rattle.dayfile.specs.declared.header.Sections.{Sections}
use Rattle.dayfile.specs.declared.header.Header.{Header}
use Rattle.dayfile.specs.declared.check.Ranged.TheVariants.{Within}
use Rattle.dayfile.specs.declared.check.Placed.TheVariants.{Right}
use Rattle.dayfile.specs.declared.roster.Target.{Target}
use Rattle.dayfile.specs.declared.roster.Target.TheVariants.{To, Row}
use Rattle.dayfile.specs.declared.roster.Participant.{Participant}
use Rattle.dayfile.specs.declared.roster.Route.{Route}

-- what is read is what was written
pub record ReadBack (ps : List Participant) (rs : List Route) (ts : List (List ℕ)) : Type 0 where
  pub refusal : (day_file (file_bytes ps rs ts)).refusal ≡ 0
  pub size : (day_file (file_bytes ps rs ts)).roster.size ≡ length ps
  pub rows : (day_file (file_bytes ps rs ts)).roster.rows ≡ length rs
  pub tickets : (day_file (file_bytes ps rs ts)).tickets ≡ length ts
  pub participant : (p : ℕ) → p < length ps → participant_of (day_file (file_bytes ps rs ts)).roster p ≡ participant_in ps p
  pub route : (i : ℕ) → i < length rs → route_of (day_file (file_bytes ps rs ts)).roster i ≡ row_of rs i
  pub ticket : (k : ℕ) → k < length ts → ticket_at (file_bytes ps rs ts) k ≡ get_or ts k []

-- three numbers of two bytes
sections-back : (f : List ℕ) (at : ℕ) (n : Sections) → HoldsAt f at (sections_bytes n)
    → n.participants < 65536 → n.routes < 65536 → n.tickets < 65536 → sections_at at f ≡ n
sections-back f at n h p r t =
    simp (
      held_number 2 at n.participants (held_at (held_in h (held_first _ _)) (omega arith)) p,
      held_number 2 (at + 2) n.routes (held_at (held_in h (held-behind (bytes_of 2 n.participants) (held_first _ _))) (omega arith)) r,
      held_number 2 (at + 4) n.tickets
          (held_at (held_in h (held-behind (bytes_of 2 n.participants) (held-behind (bytes_of 2 n.routes) (held_whole _))))
          (omega arith)) t,
    )

target_small : (size own : ℕ) (t : Target) → LeadsWithin size own t → size ≤ 65536 → own ≤ 65536 → target_number t < 65536
target_small size own (To p) h s o = omega arith
target_small size own (Row k) h s o = omega arith

module _ (ps : List Participant) (rs : List Route) (ts : List (List ℕ)) (w : WellFormedDay ps rs ts) where
  abbrev counts : Sections
  counts = counts_of ps rs ts

  abbrev header : Header
  header = header_for counts

  abbrev file : List ℕ
  file = file_bytes ps rs ts

  -- the row reads back
  participant-is : (p : ℕ) → p < length ps → participant_at (12 + 24 * p) file ≡ participant_in ps p
  participant-is p l =
      participant-back file (12 + 24 * p) (participant_in ps p) (participant-held ps rs ts w p l) (w.bic p l) (w.opening p l)

  route-small : (i : ℕ) → i < length rs → target_number (row_of rs i).target < 65536
  route-small i l =
      target_small (length ps) i (row_of rs i).target (w.leads i l) (let m = w.participants in omega arith)
      (let m = w.routes in omega arith)

  route-is : (i : ℕ) → i < length rs → route_at (routes_place counts + 16 * i) file ≡ row_of rs i
  route-is i l =
      route-back file (routes_place counts + 16 * i) (length ps) i (row_of rs i) (route-held ps rs ts w i l) (w.route_bic i l) (w.leads i l)
      (route-small i l)

  -- 4
  participants-right : participants_ok 12 (length ps) file ≡ true
  participants-right = all-to (participant_right 12 file) (length ps) right
    where
      other : (p : ℕ) → p < length ps → bic_among 12 24 p (part 11 (12 + 24 * p) file) file ≡ false
      other p l =
          none-to (λ j. same (part 11 (12 + 24 * j) file) (part 11 (12 + 24 * p) file)) p
          (λ j b.
          rw (ap (λ (q : Participant). q.bic) (participant-is j (omega arith)), ap (λ (q : Participant). q.bic) (participant-is p l))
          (w.distinct j p b l))

      right : (p : ℕ) → p < length ps → participant_right 12 file p ≡ true
      right p l =
          ap₂ (λ (a b : Bool). a && not b)
          (participant-written file (12 + 24 * p) (participant_in ps p) (participant-held ps rs ts w p l) (w.bic p l) (w.opening p l))
          (other p l)

  -- 5
  routes-right : routes_ok (length ps) (routes_place counts) (length rs) file ≡ true
  routes-right = all-to (route_right (length ps) (routes_place counts) file) (length rs) right
    where
      at : ℕ → ℕ
      at i = routes_place counts + 16 * i

      other : (i : ℕ) → i < length rs → bic_among (routes_place counts) 16 i (part 11 (at i) file) file ≡ false
      other i l =
          none-to (λ j. same (part 11 (at j) file) (part 11 (at i) file)) i
          (λ j b. rw (ap (λ (r : Route). r.bic) (route-is j (omega arith)), ap (λ (r : Route). r.bic) (route-is i l))
          (w.route_distinct j i b l))

      right : (i : ℕ) → i < length rs → route_right (length ps) (routes_place counts) file i ≡ true
      right i l =
          ap₂ (λ (a b : Bool). a && not b)
          (route-written file (at i) (length ps) i (row_of rs i) (route-held ps rs ts w i l) (w.route_bic i l)
          (w.leads i l) (route-small i l))
          (other i l)

  -- 1 to 3
  head : headed file ≡ Some header
  head =
      let s = file-length ps rs ts w in
      rw (le-ltb (length file) 12 (omega arith))
      (ap₂ (λ (a b : Sections). Some (record { counts = a; offsets = b }))
      (sections-back file 0 counts (held_in (held_first (header_bytes header) _) (held_first (sections_bytes counts) _))
      (let m = w.participants in omega arith) (let m = w.routes in omega arith) (let m = w.tickets in omega arith))
      (sections-back file 6 header.offsets
      (held_in (held_first (header_bytes header) _) (held-behind (sections_bytes counts) (held_whole _)))
      (omega arith) (let m = w.participants in omega arith) (let m = w.participants in let r = w.routes in omega arith)))

  range : ranged header ≡ Within
  range =
      simp (
        le-leb 1 (length ps) w.least,
        le-leb (length ps) 32 w.participants,
        le-leb (length rs) 64 w.routes,
        le-leb (length ts) 512 w.tickets,
      )

  place : placed header (length file) ≡ Right
  place =
      simp (
        eq-eqb (routes_place counts) (routes_place counts) refl,
        eq-eqb (tickets_place counts) (tickets_place counts) refl,
        eq-eqb (length file) (tickets_place counts + 108 * length ts) (file-length ps rs ts w),
      )

  accepted : day_file file ≡ accepted_file header file
  accepted = file-accepted file header head range place participants-right routes-right

  pub file-back : ReadBack ps rs ts
  file-back =
      record {
        refusal = ap (λ (d : DayFile). d.refusal) accepted;
        size = ap (λ (d : DayFile). d.roster.size) accepted;
        rows = ap (λ (d : DayFile). d.roster.rows) accepted;
        tickets = ap (λ (d : DayFile). d.tickets) accepted;
        participant =
            λ p l.
            ap (λ (d : DayFile). participant_of d.roster p) accepted
            ∙ row_at 32 no_participant (λ i. participant_at (12 + 24 * i) file) (length ps) p _ l w.participants
            ∙ participant-is p l;
        route =
            λ i l.
            ap (λ (d : DayFile). route_of d.roster i) accepted
            ∙ row_at 64 no_route (λ j. route_at (routes_place counts + 16 * j) file) (length rs) i _ l w.routes
            ∙ route-is i l;
        ticket =
            λ k l.
            ap (λ (d : DayFile). part 108 (d.first + 108 * k) file) accepted
            ∙ held-part 108 (tickets_place counts + 108 * k) (ticket-held ps rs ts w k l) (w.ticket k l);
      }

-- there is such a day: one bank, its route, no tickets
first_alone : (p : ℕ) → p < 1 → p ≡ 0
first_alone p l = omega arith

pub one-bank : WellFormedDay (bank (text "AAAALV22XXX") ∷ []) (direct (text "AAAALV22XXX") 0 ∷ []) []
unfolding is_bic
one-bank =
    record {
      least = omega arith;
      participants = omega arith;
      routes = omega arith;
      tickets = omega arith;
      bic = λ p l. rw (first_alone p l);
      distinct = λ p q b l. absurd (omega arith);
      opening = λ p l. rw (first_alone p l) tt;
      route_bic = λ i l. rw (first_alone i l);
      route_distinct = λ i j b l. absurd (omega arith);
      leads = λ i l. rw (first_alone i l) (omega arith);
      ticket = λ k l. absurd (not-suc-le-zero l);
    }
