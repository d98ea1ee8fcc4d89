-- The moves of a verdict and its reports: there is room for both moves, and a cut finds the covers as they were. Assumes nothing.
--     all-is                       all cover over all places, by its two names
--     first_movable, second_movable    each move fits
--     verdict-few                  a verdict tells at most two
--     covers-same, cut-silent      of a cut, the covers before it, and that nothing else is told
--     cut-size, cut-whole          what a cut asks for
use mathlib.Core.Path.{◌≡◌, refl, sym, ◌∙◌, ap, subst}
use mathlib.Core.List.{List, []}
use Prim.Native.Nat.{ℕ, ◌+◌, ◌≤◌, ◌<◌}
use native.Mathlib.Omega.{arith}
use lib.ListN.{length, set, length-set}
use Rattle.dayfile.specs.FileLimits.{most_participants}
use Rattle.rules.specs.Book.{cover_of}
use Rattle.rules.specs.Cover.{moved, transferred, whole, total_of, most_total}
use Rattle.rules.specs.Decision.{nobody}
use Rattle.rules.specs.declared.verdict.Does.TheVariants.{Cuts}
use Rattle.rules.specs.declared.verdict.Mover.{Mover}
use Rattle.rules.specs.declared.verdict.Verdict.{Verdict}
use Rattle.rules.specs.declared.Cover.{Cover}
use Rattle.rules.specs.declared.Book.{Book}
use Rattle.rules.proofs.CoverMoving.{nobody-moves}
use Rattle.course.specs.Room.{most_number}
use Rattle.course.specs.declared.Entry.{Entry}
use Rattle.course.proofs.Applying.{listed-few}
use Rattle.course.proofs.SoughtFitting.{any-whole}
use Rattle.course.proofs.Summing.{all_of, change-fits, change-few, whole-grows}
use Rattle.verdict.specs.Meaning.{transfer_by, notices_told}
use Rattle.verdict.proofs.VerdictMoving.{moved_by_lem}
use Rattle.turns.specs.Kept.{moved_by, Movable}
use Rattle.turns.specs.Turn.{Expired}
use Rattle.turns.proofs.Turn.{after-sound, all-few}
use Rattle.turns.proofs.VerdictFitting.{verdict_reports, Fits}

pub all-is : (cs : List Cover) → all_of cs ≡ total_of most_participants cs
unfolding all_of
all-is cs = refl

module _ (m : Mover) (n : ℕ) (cs : List Cover) (long : length cs ≡ most_participants) (few : m.who < most_participants)
    (most : (transfer_by m n).amount ≤ most_total) where
  abbrev new : Cover
  new = moved m.how n (cover_of cs m.who)

  grows : whole new ≤ whole (cover_of cs m.who) + (transfer_by m n).amount
  grows =
      subst (λ (z : Cover). whole z ≤ whole (cover_of cs m.who) + (transfer_by m n).amount) (moved_by_lem m n (cover_of cs m.who))
      (whole-grows (transfer_by m n).how (transfer_by m n).amount (cover_of cs m.who))

  sum_fits : all_of cs ≤ most_total + most_total
      → (whole (cover_of cs m.who) ≤ total_of most_participants cs) × (total_of most_participants cs + whole new ≤ most_number)
  sum_fits limit =
      subst (λ (k : ℕ). (whole (cover_of cs m.who) ≤ k) × (k + whole new ≤ most_number)) (all-is cs)
      (change-fits cs long m.who few new (transfer_by m n).amount grows most limit)

  sum-few : all_of cs ≤ most_total → all_of (moved_by m n cs) ≤ most_total + most_total
  sum-few limit = change-few cs long m.who few new (transfer_by m n).amount grows most limit

pub verdict-few : (v : Verdict) → length (verdict_reports v) ≤ 2
verdict-few v = listed-few (notices_told v.told v.also v.number v.amount)

module _ {b : Book} {t : List ℕ} {e : Entry} {c : Book} (w : Expired b t e c) {v : Verdict} (f : Fits c v) where
  long : length c.covers ≡ most_participants
  long = (after-sound w).covers.long

  pub first_movable : Movable v.first v.amount c.covers
  first_movable =
      let few = all-few w in
      let sums = sum_fits v.first v.amount c.covers long f.first f.first_most (omega arith) in
      record { long = long; who = f.first; room = f.first_room; least = sums.0; most = sums.1 }

  pub second_movable : Movable v.second v.amount (moved_by v.first v.amount c.covers)
  second_movable =
      let cs = moved_by v.first v.amount c.covers in
      let still : length cs ≡ most_participants = length-set c.covers v.first.who _ ∙ long in
      let sums = sum_fits v.second v.amount cs still f.second f.second_most
      (sum-few v.first v.amount c.covers long f.first f.first_most (all-few w)) in
      record { long = still; who = f.second; room = f.second_room; least = sums.0; most = sums.1 }

  module _ (cuts : v.does ≡ Cuts) where
    -- a cut finds the covers as they were, and nothing was told of it before
    pub covers-same : moved_by v.second v.amount (moved_by v.first v.amount c.covers) ≡ c.covers
    covers-same =
        ap (λ (y : Verdict). moved_by y.second y.amount (moved_by y.first y.amount c.covers)) (f.cuts cuts)
        ∙ nobody-moves (transferred nobody c.covers)
        ∙ nobody-moves c.covers

    pub cut-silent : verdict_reports v ≡ []
    cut-silent = ap verdict_reports (f.cuts cuts)

    pub cut-size : c.roster.size ≤ most_participants
    cut-size = (after-sound w).roster.size

    pub cut-whole : (p : ℕ) → p < c.roster.size
        → whole (cover_of (moved_by v.second v.amount (moved_by v.first v.amount c.covers)) p) ≤ most_total
    cut-whole p h =
        subst (λ (z : List Cover). whole (cover_of z p) ≤ most_total) (sym covers-same)
        (any-whole c (after-sound w) p (let size = cut-size in omega arith))
