-- All cover together, as the code keeps it: over all 32 places, moved by what each change of a cover adds and takes. Assumes nothing.
use Rattle.std.specs.Prelude.{None, Option, Some, ℕ}
use mathlib.Core.Path.{◌≡◌, refl, ◌∙◌, ap}
use mathlib.Core.Bool.{Bool, true, false, cond}
use mathlib.Core.List.{List}
use mathlib.Core.Logic.{⊎_elim}
use Prim.Native.Nat.{ℕ, zero, suc, ◌+◌, ◌-◌, ◌≤◌, ◌<◌}
use native.Mathlib.Omega.{arith}
use borrow.Author.Tests.{ltb-true}
use lib.Dec.{ltb}
use lib.ListN.{length, set, length-set}
use lib.Seq.{get_or-set_other}
use Rattle.fields.proofs.UpTo.{sum-part, sum_same, sum-beyond}
use Rattle.dayfile.specs.FileLimits.{most_participants}
use Rattle.dayfile.specs.Roster.{participant_of}
use Rattle.dayfile.specs.declared.roster.Roster.{Roster}
use Rattle.rules.specs.Book.{no_cover, order_of, cover_of, is_bank}
use Rattle.rules.specs.Cover.{moved, transferred, whole, total_of, total, most_total}
use Rattle.rules.specs.Cut.{with_held, with_debit, cut_cover, cut_to}
use Rattle.rules.specs.Tick.{due, sweep_to}
use Rattle.rules.specs.Decision.{applied}
use Rattle.rules.specs.Sound.{Sound}
use Rattle.rules.specs.declared.decision.Move.{Move}
use Rattle.rules.specs.declared.decision.Move.TheVariants.{Stay, Give, Draw, Reserve, Release, Spend, Credit, Debit}
use Rattle.rules.specs.declared.decision.Decision.{Decision}
use Rattle.rules.specs.declared.Order.{Order}
use Rattle.rules.specs.declared.Cover.{Cover}
use Rattle.rules.specs.declared.Book.{Book}
use Rattle.fields.proofs.Compared.{below_or_not}
use Rattle.rules.proofs.CoverMoving.{Fitted, set-total}
use Rattle.rules.proofs.Cutting.{cut-each}
use Rattle.rules.proofs.SweepSound.{swept, due-waits}
use Rattle.rules.proofs.SoundLimits.{waiting-reserved}
use Rattle.course.specs.Room.{most_number, Applicable}
use Rattle.course.specs.Expiry.{expires, stays, expiry_in, lapsed}
use Rattle.course.proofs.Sweeping.{sweep-book}
use Rattle.course.proofs.SoughtFitting.{Freeable, expiry-fits}
use Rattle.course.proofs.Applying.{covers, covers-uncut, covers-cut}

-- all cover, of whoever is a participant or not
unfoldable pub all_of : List Cover → ℕ
all_of cs = total_of most_participants cs

-- who is no participant has none
pub all-total : (b : Book) → Sound b → all_of b.covers ≡ total b
unfolding total all_of
all-total b s =
    sum-beyond (λ p. whole (cover_of b.covers p)) b.roster.size most_participants s.roster.size
    (λ p a l. ap whole (s.covers.outside p a l))

-- one cover is changed
changed : (n : ℕ) (cs : List Cover) → Fitted n cs → (p : ℕ) → p < n → (c : Cover)
    → total_of n cs - whole (cover_of cs p) + whole c ≡ total_of n (set cs p c)
changed n cs fit p few c = let e = set-total fit p few c in let l = sum-part (λ q. whole (cover_of cs q)) n p few in omega arith

module _ (cs : List Cover) (long : length cs ≡ most_participants) (p : ℕ) (few : p < most_participants) where
  one_of_all : whole (cover_of cs p) ≤ all_of cs
  unfolding all_of
  one_of_all = sum-part (λ q. whole (cover_of cs q)) most_participants p few

  pub all_changed : (c : Cover) → all_of cs - whole (cover_of cs p) + whole c ≡ all_of (set cs p c)
  unfolding all_of
  all_changed c = changed most_participants cs (record { few = omega arith; long = long }) p few c

  -- by no more than n: that fits 64 bits
  module _ (c : Cover) (n : ℕ) (grows : whole c ≤ whole (cover_of cs p) + n) (most : n ≤ most_total) where
    pub change-fits : all_of cs ≤ most_total + most_total → (whole (cover_of cs p) ≤ all_of cs) × (all_of cs + whole c ≤ most_number)
    change-fits few-all = let l = one_of_all in (l, omega arith)

    pub change-few : all_of cs ≤ most_total → all_of (set cs p c) ≤ most_total + most_total
    change-few few-all = let l = one_of_all in let e = all_changed c in omega arith

pub whole-grows : (m : Move) (n : ℕ) (c : Cover) → whole (moved m n c) ≤ whole c + n
whole-grows Stay n c = omega arith
whole-grows Give n c = omega arith
whole-grows Draw n c = omega arith
whole-grows Reserve n c = omega arith
whole-grows Release n c = omega arith
whole-grows Spend n c = omega arith
whole-grows Credit n c = omega arith
whole-grows Debit n c = omega arith

-- an expiry leaves all cover as it is
lapsed-all : (b : Book) → Sound b → (i : ℕ) → i < b.count → all_of (lapsed b i (expiry_in b i)).covers ≡ all_of b.covers
lapsed-all b s i h = go (due b.clock o (is_bank b.roster o.payee)) refl (expiry-fits b s i h)
  where
    o : Order
    o = order_of b.orders i

    go : (d : Bool) → due b.clock o (is_bank b.roster o.payee) ≡ d
        → Freeable b (cond (due b.clock o (is_bank b.roster o.payee)) (expires i o) (stays o))
        → all_of (transferred (cond (due b.clock o (is_bank b.roster o.payee)) (expires i o) (stays o)).freed b.covers)
        ≡ all_of b.covers
    go true e f =
        rw e
        (let f' : Freeable b (expires i o) = rw e at f in
        let c = cover_of b.covers o.payer in
        let enough = waiting-reserved b s i h (due-waits b.clock o (is_bank b.roster o.payee) e) in
        let a = all_changed b.covers s.covers.long o.payer f'.who (moved Release o.amount c) in
        let l = one_of_all b.covers s.covers.long o.payer f'.who in
        omega arith)
    go false e f =
        rw e
        (let a = all_changed b.covers s.covers.long 0 (omega arith) (cover_of b.covers 0) in
        let l = one_of_all b.covers s.covers.long 0 (omega arith) in
        omega arith)

pub swept_all : (b : Book) → Sound b → (m : ℕ) → m ≤ b.count → all_of (sweep_to b m).book.covers ≡ all_of b.covers
swept_all b s zero h = refl
swept_all b s (suc m) h =
    let w = swept b s m (omega arith) in
    ap (λ (v : Book). all_of v.covers) (sweep-book (sweep_to b m) m)
    ∙ lapsed-all (sweep_to b m).book w.sound m (let e = w.count in omega arith)
    ∙ swept_all b s m (omega arith)

-- so does a cut
cut-whole : (o : Option ℕ) (c : Cover) → whole (cut_cover o c) ≡ whole c
cut-whole None c = refl
cut-whole (Some k) c = go (ltb k c.available) refl (ltb c.available k)
  where
    go : (x : Bool) → ltb k c.available ≡ x → (y : Bool)
        → whole (cond x (with_held (c.available - k) c) (cond y (with_debit (k - c.available) c) c)) ≡ whole c
    go true e y = let l = ltb-true k c.available e in omega arith
    go false e true = refl
    go false e false = refl

cut_later : (r : Roster) (cs : List Cover) (n p : ℕ) → n ≤ p → cover_of (cut_to r cs n) p ≡ cover_of cs p
cut_later r cs zero p h = refl
cut_later r cs (suc n) p h =
    get_or-set_other (cut_to r cs n) n p (cut_cover (participant_of r n).opening (cover_of cs n)) no_cover (λ e. omega arith)
    ∙ cut_later r cs n p (omega arith)

cut_all : (r : Roster) (cs : List Cover) → r.size ≤ length cs → all_of (cut_to r cs r.size) ≡ all_of cs
unfolding all_of
cut_all r cs few =
    sum_same (λ p. whole (cover_of (cut_to r cs r.size) p)) (λ p. whole (cover_of cs p)) most_participants
    (λ p l.
    ⊎_elim
    (λ (k : p < r.size). ap whole (cut-each r cs r.size few p k) ∙ cut-whole (participant_of r p).opening (cover_of cs p))
    (λ (k : r.size ≤ p). ap whole (cut_later r cs r.size p k))
    (below_or_not p r.size))

-- all cover after a decision is that after its moves
pub applied-all : (b : Book) → Sound b → (d : Decision) (fits : Applicable b d) → all_of (applied b d).covers ≡ all_of (covers b d fits)
applied-all b s d fits = go d.cuts refl
  where
    go : (z : Bool) → d.cuts ≡ z → all_of (applied b d).covers ≡ all_of (covers b d fits)
    go true e =
        ap all_of (covers-cut b d fits e)
        ∙ cut_all b.roster (covers b d fits) (simp (length-set, s.covers.long) s.roster.size)
    go false e = ap all_of (covers-uncut b d fits e)
