-- Rows that are written read back, and they are right by themselves. Assumes nothing.
use Rattle.std.specs.Prelude.{None, Option, Some, ℕ}
use mathlib.Core.Path.{◌≡◌, refl}
use mathlib.Core.Bool.{true, ◌||◌}
use mathlib.Core.List.{List, [], ◌∷◌}
use Prim.Native.Nat.{ℕ, ◌+◌, ◌≤◌, ◌<◌}
use native.Mathlib.Omega.{arith}
use borrow.Author.Tests.{le-leb, lt-ltb}
use lib.Dec.{leb, eqb}
use lib.ListN.{length, get_or}
use Rattle.codes.specs.Bic.{is_bic}
use Rattle.codes.proofs.WholeCodes.{bic-length}
use Rattle.fields.specs.Number.{part, number_at, bytes_of}
use Rattle.fields.proofs.Holding.{HoldsAt, held_first, held-behind, held_in, held_at, held-part, held-byte, held_number}
use Rattle.dayfile.specs.FileLimits.{most_opening}
use Rattle.dayfile.specs.FileRows.{participant_ok, bound_of, route_ok}
use Rattle.dayfile.specs.Roster.{
  party_number,
  wish_number,
  opening_number,
  target_kind,
  target_number,
  kind_of,
  opening_of,
  target_of,
  participant_at,
  route_at,
}
use Rattle.dayfile.specs.Guarantee.{OpeningWithin, LeadsWithin}
use Rattle.dayfile.specs.FileWriting.{participant_bytes, route_bytes}
use Rattle.dayfile.specs.declared.roster.PartyKind.{PartyKind}
use Rattle.dayfile.specs.declared.roster.PartyKind.TheVariants.{Bank, Linked}
use Rattle.dayfile.specs.declared.roster.Target.{Target}
use Rattle.dayfile.specs.declared.roster.Target.TheVariants.{To, Row}
use Rattle.dayfile.specs.declared.roster.Participant.{Participant}
use Rattle.dayfile.specs.declared.roster.Route.{Route}

-- each case is told by its number
kind-back : (k : PartyKind) → kind_of (party_number k) ≡ k
kind-back Bank = refl
kind-back Linked = refl

opening-back : (o : Option ℕ) → opening_of (wish_number o) (opening_number o) ≡ o
opening-back None = refl
opening-back (Some n) = refl

pub target-back : (t : Target) → target_of (target_kind t) (target_number t) ≡ t
target-back (To p) = refl
target-back (Row k) = refl

-- and is one that the checks take
kind-most : (k : PartyKind) → leb (party_number k) 1 ≡ true
kind-most Bank = refl
kind-most Linked = refl

wish-most : (o : Option ℕ) → leb (wish_number o) 1 ≡ true
wish-most None = refl
wish-most (Some n) = refl

wished : (o : Option ℕ) → (eqb (wish_number o) 1 || eqb (opening_number o) 0) ≡ true
wished None = refl
wished (Some n) = refl

opening-most : (o : Option ℕ) → OpeningWithin o → opening_number o ≤ most_opening
opening-most None h = omega arith
opening-most (Some n) h = h

target-most : (t : Target) → leb (target_kind t) 1 ≡ true
target-most (To p) = refl
target-most (Row k) = refl

target-bound : (size own : ℕ) (t : Target) → LeadsWithin size own t → target_number t < bound_of (target_kind t) size own
target-bound size own (To p) h = h
target-bound size own (Row k) h = h

module _ (f : List ℕ) (at : ℕ) (q : Participant) (h : HoldsAt f at (participant_bytes q)) (bic : is_bic q.bic ≡ true)
    (within : OpeningWithin q.opening) where
  long : length q.bic ≡ 11
  long = bic-length q.bic bic

  bic-at : part 11 at f ≡ q.bic
  bic-at = held-part 11 at (held_at (held_in h (held_first _ _)) (omega arith)) long

  kind_at : get_or f (at + 11) 0 ≡ party_number q.kind
  kind_at = held-byte (at + 11) (held_at (held_in h (held-behind q.bic (held_first _ _))) (let l = long in omega arith))

  opening-at : number_at 8 (at + 12) f ≡ opening_number q.opening
  opening-at =
      held_number 8 (at + 12) (opening_number q.opening)
      (held_at (held_in h (held-behind q.bic (held-behind (party_number q.kind ∷ []) (held_first _ _)))) (let l = long in omega arith))
      (let m = opening-most q.opening within in omega arith)

  wish-at : get_or f (at + 20) 0 ≡ wish_number q.opening
  wish-at =
      held-byte (at + 20)
      (held_at
      (held_in h
      (held-behind q.bic
      (held-behind (party_number q.kind ∷ []) (held-behind (bytes_of 8 (opening_number q.opening)) (held_first _ _)))))
      (let l = long in omega arith))

  spare-at : part 3 (at + 21) f ≡ 0 ∷ 0 ∷ 0 ∷ []
  spare-at =
      held-part 3 (at + 21)
      (held_at
      (held_in h
      (held-behind q.bic
      (held-behind (party_number q.kind ∷ [])
      (held-behind (bytes_of 8 (opening_number q.opening))
      (held-behind (wish_number q.opening ∷ []) (held_first (0 ∷ 0 ∷ 0 ∷ []) []))))))
      (let l = long in omega arith))
      refl

  pub participant-back : participant_at at f ≡ q
  participant-back = rw (bic-at, kind_at, opening-at, wish-at, kind-back, opening-back)

  pub participant-written : participant_ok at f ≡ true
  participant-written =
      simp (
        bic-at,
        kind_at,
        opening-at,
        wish-at,
        spare-at,
        bic,
        kind-most,
        wish-most,
        wished,
        le-leb (opening_number q.opening) most_opening (opening-most q.opening within),
      )

module _ (f : List ℕ) (at size own : ℕ) (r : Route) (h : HoldsAt f at (route_bytes r)) (bic : is_bic r.bic ≡ true)
    (within : LeadsWithin size own r.target) (small : target_number r.target < 65536) where
  reach : length r.bic ≡ 11
  reach = bic-length r.bic bic

  route-bic-at : part 11 at f ≡ r.bic
  route-bic-at = held-part 11 at (held_at (held_in h (held_first _ _)) (omega arith)) reach

  target-kind-at : get_or f (at + 11) 0 ≡ target_kind r.target
  target-kind-at = held-byte (at + 11) (held_at (held_in h (held-behind r.bic (held_first _ _))) (let l = reach in omega arith))

  target_at : number_at 2 (at + 12) f ≡ target_number r.target
  target_at =
      held_number 2 (at + 12) (target_number r.target)
      (held_at (held_in h (held-behind r.bic (held-behind (target_kind r.target ∷ []) (held_first _ _))))
      (let l = reach in omega arith))
      small

  route-spare-at : part 2 (at + 14) f ≡ 0 ∷ 0 ∷ []
  route-spare-at =
      held-part 2 (at + 14)
      (held_at
      (held_in h
      (held-behind r.bic
      (held-behind (target_kind r.target ∷ []) (held-behind (bytes_of 2 (target_number r.target)) (held_first (0 ∷ 0 ∷ []) [])))))
      (let l = reach in omega arith))
      refl

  pub route-back : route_at at f ≡ r
  route-back = rw (route-bic-at, target-kind-at, target_at, target-back)

  pub route-written : route_ok size own at f ≡ true
  route-written =
      simp (
        route-bic-at,
        target-kind-at,
        target_at,
        route-spare-at,
        bic,
        target-most,
        lt-ltb (target_number r.target) (bound_of (target_kind r.target) size own) (target-bound size own r.target within),
      )
