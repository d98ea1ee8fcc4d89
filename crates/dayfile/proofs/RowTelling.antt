-- What a participant row and a route row that are right by themselves tell. Assumes nothing.
use Rattle.std.specs.Prelude.{None, Some}
use mathlib.Core.Path.{◌≡◌, refl, sym}
use mathlib.Core.Bool.{Bool, true, false, ◌&&◌, ◌||◌, cond}
use mathlib.Core.List.{List}
use Prim.Native.Nat.{ℕ, zero, suc, ◌+◌, ◌≤◌, ◌<◌}
use native.Mathlib.Omega.{arith}
use borrow.Author.Tests.{leb-true, ltb-true, eqb-true}
use lib.Dec.{leb, ltb, eqb}
use lib.ListN.{get_or}
use Rattle.codes.specs.Bic.{is_bic}
use Rattle.fields.specs.Number.{part, number_at}
use Rattle.fields.specs.Text.{blank}
use Rattle.fields.proofs.Tests.{and_left, and_right}
use Rattle.dayfile.specs.FileLimits.{most_opening}
use Rattle.dayfile.specs.FileRows.{participant_ok, bound_of, route_ok}
use Rattle.dayfile.specs.Roster.{
  party_number,
  wish_number,
  opening_number,
  target_kind,
  target_number,
  kind_of,
  opening_of,
  target_of,
  participant_at,
  route_at,
}
use Rattle.dayfile.specs.Guarantee.{OpeningWithin, LeadsWithin, ParticipantNumbers, RouteNumbers}
use Rattle.dayfile.specs.declared.roster.Target.TheVariants.{To, Row}

-- the number of a case is the number that it was read from
zero-or-one : {A : Type 0} (b : ℕ) → b ≤ 1 → (b ≡ 0 → A) → (b ≡ 1 → A) → A
zero-or-one zero h none one = none refl
zero-or-one (suc zero) h none one = one refl
zero-or-one (suc (suc b)) h none one = absurd (omega arith)

party-number : (b : ℕ) → b ≤ 1 → party_number (kind_of b) ≡ b
party-number b h = zero-or-one b h (λ e. rw e) (λ e. rw e)

wish-number : (b n : ℕ) → b ≤ 1 → wish_number (opening_of b n) ≡ b
wish-number b n h = zero-or-one b h (λ e. rw e) (λ e. rw e)

opening-number : (b n : ℕ) → (eqb b 1 || eqb n 0) ≡ true → opening_number (opening_of b n) ≡ n
opening-number b n = go (eqb b 1)
  where
    go : (w : Bool) → (w || eqb n 0) ≡ true → opening_number (cond w (Some n) None) ≡ n
    go true h = refl
    go false h = sym (eqb-true n 0 h)

target-kind : (b k : ℕ) → b ≤ 1 → target_kind (target_of b k) ≡ b
target-kind b k h = zero-or-one b h (λ e. rw e) (λ e. rw e)

target-number : (b k : ℕ) → target_number (target_of b k) ≡ k
target-number b k = go (eqb b 1)
  where
    go : (w : Bool) → target_number (cond w (Row k) (To k)) ≡ k
    go true = refl
    go false = refl

-- what a participant row that is right by itself tells
module _ (at : ℕ) (f : List ℕ) (ok : participant_ok at f ≡ true) where
  bic : Bool
  bic = is_bic (part 11 at f)

  kind : Bool
  kind = leb (get_or f (at + 11) 0) 1

  wish : Bool
  wish = leb (get_or f (at + 20) 0) 1

  most : Bool
  most = leb (number_at 8 (at + 12) f) most_opening

  wished : Bool
  wished = eqb (get_or f (at + 20) 0) 1 || eqb (number_at 8 (at + 12) f) 0

  to-most : (bic && kind && wish && most) ≡ true
  unfolding bic kind wish most wished
  to-most = and_left (bic && kind && wish && most) wished (and_left (bic && kind && wish && most && wished) (blank (part 3 (at + 21) f)) ok)

  pub participant-bic : is_bic (part 11 at f) ≡ true
  unfolding bic
  participant-bic = and_left bic kind (and_left (bic && kind) wish (and_left (bic && kind && wish) most to-most))

  pub participant-opening : OpeningWithin (participant_at at f).opening
  unfolding most
  participant-opening = go (eqb (get_or f (at + 20) 0) 1)
    where
      go : (b : Bool) → OpeningWithin (cond b (Some (number_at 8 (at + 12) f)) None)
      go true = leb-true (number_at 8 (at + 12) f) most_opening (and_right (bic && kind && wish) most to-most)
      go false = tt

  pub participant-numbers : ParticipantNumbers at f (participant_at at f)
  unfolding bic kind wish most wished
  participant-numbers =
      record {
        kind = party-number (get_or f (at + 11) 0) (leb-true (get_or f (at + 11) 0) 1
            (and_right bic kind (and_left (bic && kind) wish (and_left (bic && kind && wish) most to-most))));
        wish = wish-number (get_or f (at + 20) 0) _
            (leb-true (get_or f (at + 20) 0) 1 (and_right (bic && kind) wish (and_left (bic && kind && wish) most to-most)));
        opening = opening-number (get_or f (at + 20) 0) (number_at 8 (at + 12) f) (and_right (bic && kind && wish && most) wished
            (and_left (bic && kind && wish && most && wished) (blank (part 3 (at + 21) f)) ok));
      }

-- what a route row that is right by itself tells
module _ (size own at : ℕ) (f : List ℕ) (ok : route_ok size own at f ≡ true) where
  k : ℕ
  k = number_at 2 (at + 12) f

  bounded : (is_bic (part 11 at f) && leb (get_or f (at + 11) 0) 1 && ltb k (bound_of (get_or f (at + 11) 0) size own)) ≡ true
  unfolding k
  bounded =
      and_left (is_bic (part 11 at f) && leb (get_or f (at + 11) 0) 1 && ltb k (bound_of (get_or f (at + 11) 0) size own))
      (blank (part 2 (at + 14) f)) ok

  pub route-bic : is_bic (part 11 at f) ≡ true
  route-bic =
      and_left (is_bic (part 11 at f)) (leb (get_or f (at + 11) 0) 1)
      (and_left (is_bic (part 11 at f) && leb (get_or f (at + 11) 0) 1) (ltb k (bound_of (get_or f (at + 11) 0) size own)) bounded)

  pub route-leads : LeadsWithin size own (route_at at f).target
  unfolding k
  route-leads = go (eqb (get_or f (at + 11) 0) 1) below
    where
      below : k < bound_of (get_or f (at + 11) 0) size own
      below =
          ltb-true k (bound_of (get_or f (at + 11) 0) size own)
          (and_right (is_bic (part 11 at f) && leb (get_or f (at + 11) 0) 1) (ltb k (bound_of (get_or f (at + 11) 0) size own)) bounded)

      go : (b : Bool) → k < cond b own size → LeadsWithin size own (cond b (Row k) (To k))
      go true h = h
      go false h = h

  pub route-numbers : RouteNumbers at f (route_at at f)
  route-numbers =
      record {
        kind =
            target-kind (get_or f (at + 11) 0) _
            (leb-true (get_or f (at + 11) 0) 1
            (and_right (is_bic (part 11 at f)) (leb (get_or f (at + 11) 0) 1)
            (and_left (is_bic (part 11 at f) && leb (get_or f (at + 11) 0) 1) (ltb k (bound_of (get_or f (at + 11) 0) size own)) bounded)));
        number = target-number (get_or f (at + 11) 0) (number_at 2 (at + 12) f);
      }
