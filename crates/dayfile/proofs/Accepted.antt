-- An accepted file has what `GuaranteedFile` says; the roster of a refused one has what `Guaranteed` says too.
-- Assumes nothing.
use mathlib.Core.Path.{◌≡◌, ap, subst}
use mathlib.Core.Bool.{Bool, true, false, ◌&&◌, not}
use mathlib.Core.List.{List}
use mathlib.Core.Logic.{⊎_elim}
use Prim.Native.Nat.{ℕ, ◌+◌, ◌*◌, ◌≤◌, ◌<◌}
use native.Mathlib.Nat.{not-suc-le-zero}
use native.Mathlib.Omega.{arith}
use borrow.Author.Tests.{not-true}
use lib.ListN.{length-replicate, get_or-replicate}
use Rattle.fields.specs.Number.{part}
use Rattle.fields.specs.Text.{same}
use Rattle.fields.proofs.Tests.{and_left, and_right}
use Rattle.fields.proofs.UpTo.{all-at, none-at, rows-length, row_at, row-past}
use Rattle.dayfile.specs.FileRows.{participant_ok, route_ok, bic_among}
use Rattle.dayfile.specs.Check.{participant_right, route_right, participants_ok, routes_ok}
use Rattle.dayfile.specs.Roster.{participant_at, route_at, roster_of, empty_roster, no_participant, no_route, participant_of, route_of}
use Rattle.dayfile.specs.DayFile.{day_file}
use Rattle.dayfile.specs.Guarantee.{ParticipantNumbers, RouteNumbers, RosterNumbers, Guaranteed, GuaranteedFile}
use Rattle.dayfile.proofs.RowTelling.{
  participant-bic,
  participant-opening,
  participant-numbers,
  route-bic,
  route-leads,
  route-numbers,
}
use Rattle.dayfile.proofs.Passing.{Accepted, Refused, file-outcome, passing-accepted}
use Rattle.dayfile.specs.declared.DayFile.{DayFile}
use Rattle.dayfile.specs.declared.header.Header.{Header}

empty-guaranteed : Guaranteed empty_roster
empty-guaranteed =
    record {
      size = omega arith;
      rows = omega arith;
      participants = length-replicate 32 no_participant;
      routes = length-replicate 64 no_route;
      bic = λ p h. absurd (not-suc-le-zero h);
      distinct = λ p q l h. absurd (not-suc-le-zero h);
      opening = λ p h. absurd (not-suc-le-zero h);
      route_bic = λ i h. absurd (not-suc-le-zero h);
      route_distinct = λ i j l h. absurd (not-suc-le-zero h);
      leads = λ i h. absurd (not-suc-le-zero h);
      unused = λ p h l. get_or-replicate 32 p no_participant _ l;
      route_unused = λ i h l. get_or-replicate 64 i no_route _ l;
    }

-- the roster of rows that are right
module _ (h : Header) (f : List ℕ) (few : h.counts.participants ≤ 32) (short : h.counts.routes ≤ 64)
    (participants : participants_ok h.offsets.participants h.counts.participants f ≡ true)
    (routes : routes_ok h.counts.participants h.offsets.routes h.counts.routes f ≡ true) where
  -- where a row lies
  abbrev participant-place : ℕ → ℕ
  participant-place p = h.offsets.participants + 24 * p

  abbrev route-place : ℕ → ℕ
  route-place i = h.offsets.routes + 16 * i

  participant-is : (p : ℕ) → p < h.counts.participants → participant_of (roster_of h f) p ≡ participant_at (participant-place p) f
  participant-is p l = row_at 32 no_participant (λ i. participant_at (participant-place i) f) h.counts.participants p _ l few

  route-is : (i : ℕ) → i < h.counts.routes → route_of (roster_of h f) i ≡ route_at (route-place i) f
  route-is i l = row_at 64 no_route (λ j. route_at (route-place j) f) h.counts.routes i _ l short

  participant-right : (p : ℕ) → p < h.counts.participants → participant_right h.offsets.participants f p ≡ true
  participant-right p l = all-at (participant_right h.offsets.participants f) h.counts.participants p participants l

  participant-ok : (p : ℕ) → p < h.counts.participants → participant_ok (participant-place p) f ≡ true
  participant-ok p l =
      and_left (participant_ok (participant-place p) f)
      (not (bic_among h.offsets.participants 24 p (part 11 (participant-place p) f) f)) (participant-right p l)

  route-right : (i : ℕ) → i < h.counts.routes → route_right h.counts.participants h.offsets.routes f i ≡ true
  route-right i l = all-at (route_right h.counts.participants h.offsets.routes f) h.counts.routes i routes l

  route-ok : (i : ℕ) → i < h.counts.routes → route_ok h.counts.participants i (route-place i) f ≡ true
  route-ok i l =
      and_left (route_ok h.counts.participants i (route-place i) f)
      (not (bic_among h.offsets.routes 16 i (part 11 (route-place i) f) f)) (route-right i l)

  -- no earlier row of a section has the BIC
  distinct_from : (from width q : ℕ) (ok : Bool) → (ok && not (bic_among from width q (part 11 (from + width * q) f) f)) ≡ true
      → (p : ℕ) → p < q → same (part 11 (from + width * p) f) (part 11 (from + width * q) f) ≡ false
  distinct_from from width q ok e p l =
      none-at (λ j. same (part 11 (from + width * j) f) (part 11 (from + width * q) f)) q p
      (not-true _ (and_right ok (not (bic_among from width q (part 11 (from + width * q) f) f)) e)) l

  roster-guaranteed : Guaranteed (roster_of h f)
  roster-guaranteed =
      record {
        size = few;
        rows = short;
        participants = rows-length 32 no_participant (λ i. participant_at (participant-place i) f) h.counts.participants;
        routes = rows-length 64 no_route (λ i. route_at (route-place i) f) h.counts.routes;
        bic = λ p l. rw (participant-is p l) (participant-bic (participant-place p) f (participant-ok p l));
        distinct =
            λ p q b l.
            rw (participant-is p (omega arith), participant-is q l)
            (distinct_from h.offsets.participants 24 q (participant_ok (participant-place q) f) (participant-right q l) p b);
        opening = λ p l. rw (participant-is p l) (participant-opening (participant-place p) f (participant-ok p l));
        route_bic = λ i l. rw (route-is i l) (route-bic h.counts.participants i (route-place i) f (route-ok i l));
        route_distinct =
            λ i j b l.
            rw (route-is i (omega arith), route-is j l)
            (distinct_from h.offsets.routes 16 j (route_ok h.counts.participants j (route-place j) f) (route-right j l) i b);
        leads = λ i l. rw (route-is i l) (route-leads h.counts.participants i (route-place i) f (route-ok i l));
        unused = λ p b l. row-past 32 no_participant (λ i. participant_at (participant-place i) f) h.counts.participants p _ b l;
        route_unused = λ i b l. row-past 64 no_route (λ j. route_at (route-place j) f) h.counts.routes i _ b l;
      }

  roster-numbers : h.offsets.participants ≡ 12 → h.offsets.routes ≡ 12 + 24 * h.counts.participants → RosterNumbers f (roster_of h f)
  roster-numbers first behind =
      record {
        participant =
            λ p l.
            rw (participant-is p l)
            (subst (λ (at : ℕ). ParticipantNumbers (at + 24 * p) f (participant_at (participant-place p) f)) first
            (participant-numbers (participant-place p) f (participant-ok p l)));
        route =
            λ i l.
            rw (route-is i l)
            (subst (λ (at : ℕ). RouteNumbers (at + 16 * i) f (route_at (route-place i) f)) behind
            (route-numbers h.counts.participants i (route-place i) f (route-ok i l)));
      }

-- what the roster of any file guarantees, refused ones included
pub guaranteed : (f : List ℕ) → Guaranteed (day_file f).roster
guaranteed f =
    ⊎_elim
    (λ (a : Accepted f).
    let h = a.header in
    rw a.file (roster-guaranteed h f a.range.participants a.range.routes a.participants a.routes))
    (λ (r : Refused f). rw r.file empty-guaranteed)
    (file-outcome f)

-- its enums have the numbers that stand in the file
pub roster-has-numbers : (f : List ℕ) → RosterNumbers f (day_file f).roster
roster-has-numbers f =
    ⊎_elim
    (λ (a : Accepted f).
    let h = a.header in
    rw a.file (roster-numbers h f a.range.participants a.range.routes a.participants a.routes
    a.place.participants a.place.routes))
    (λ (r : Refused f).
    rw r.file (record { participant = λ p l. absurd (not-suc-le-zero l); route = λ i l. absurd (not-suc-le-zero l) }))
    (file-outcome f)

-- what an accepted file guarantees
pub file-guaranteed : (f : List ℕ) → (day_file f).refusal ≡ 0 → GuaranteedFile f
file-guaranteed f z =
    let a = passing-accepted f z in
    let p = a.place in
    record {
      roster = guaranteed f;
      least = rw a.file a.range.least;
      tickets = rw a.file a.range.tickets;
      first = rw a.file p.tickets;
      end = rw a.file (omega arith);
    }

-- a file that has tickets is not refused
pub with-tickets : (f : List ℕ) (k : ℕ) → k < (day_file f).tickets → (day_file f).refusal ≡ 0
with-tickets f k h =
    ⊎_elim
    (λ (a : Accepted f). ap (λ (d : DayFile). d.refusal) a.file)
    (λ (r : Refused f). absurd (let none = ap (λ (d : DayFile). d.tickets) r.file in omega arith))
    (file-outcome f)
