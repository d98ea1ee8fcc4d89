-- The expiries as the code takes them: from the first order that may wait for a bank to the first that is younger than 20 seconds.
-- Assumes nothing.
use mathlib.Core.Path.{◌≡◌, refl, sym, ◌∙◌, ap, ap₂}
use mathlib.Core.Bool.{Bool, true, false, ◌&&◌, cond}
use mathlib.Core.List.{append-nil, ◌++◌}
use mathlib.Core.Logic.{⊎_elim}
use Prim.Native.Nat.{ℕ, zero, suc, ◌-◌, ◌≤◌, ◌<◌}
use native.Mathlib.Omega.{arith}
use borrow.Author.Tests.{lt-leb, le-leb}
use lib.Dec.{leb}
use lib.ListN.{length}
use lib.Seq.{get_or-set_same, get_or-set_other, set-get_or}
use Rattle.rules.specs.Book.{no_order, order_of, is_bank}
use Rattle.rules.specs.Status.{is_waiting}
use Rattle.rules.specs.Tell.{listed}
use Rattle.rules.specs.Tick.{Step, due, expire_told, sweep_one, sweep_to}
use Rattle.rules.specs.Sound.{Sound}
use Rattle.rules.specs.declared.Order.{Order}
use Rattle.rules.specs.declared.Book.{Book}
use Rattle.fields.proofs.Compared.{same_or_not, below_or_not}
use Rattle.rules.proofs.CoverMoving.{nobody-moves}
use Rattle.rules.proofs.SweepSound.{Swept, swept}
use Rattle.course.specs.Expiry.{expires, stays, expiry_in, lapsed, awaits, Passed}
use Rattle.course.specs.Taking.{unswept}
use Rattle.course.specs.declared.Expiry.{Expiry}

-- one more order
module _ (w : Step) (i : ℕ) where
  abbrev o : Order
  o = order_of w.book.orders i

  abbrev is_due : Bool
  is_due = due w.book.clock o (is_bank w.book.roster o.payee)

  stays-book : lapsed w.book i (stays o) ≡ w.book
  stays-book =
      λ j. record {
        clock = w.book.clock;
        covers = nobody-moves w.book.covers j;
        orders = set-get_or w.book.orders i no_order j;
        count = w.book.count;
        roster = w.book.roster;
      }

  pub sweep-book : (sweep_one w i o).book ≡ lapsed w.book i (expiry_in w.book i)
  sweep-book = go is_due
    where
      go : (d : Bool) → (cond d (expire_told w i o) w).book ≡ lapsed w.book i (cond d (expires i o) (stays o))
      go true = refl
      go false = sym stays-book

  pub sweep-reports : (sweep_one w i o).reports ≡ w.reports ++ listed (expiry_in w.book i).told
  sweep-reports = go is_due
    where
      go : (d : Bool) → (cond d (expire_told w i o) w).reports ≡ w.reports ++ listed (cond d (expires i o) (stays o)).told
      go true = refl
      go false = sym (append-nil w.reports)

-- whoever doesn't wait for a bank is not due
not-due : (b : Book) (i : ℕ) → awaits b i ≡ false
    → due b.clock (order_of b.orders i) (is_bank b.roster (order_of b.orders i).payee) ≡ false
not-due b i e = rw e

-- of the orders below m, which do not wait for a bank, none expires
pub passed_none : (m : ℕ) (b : Book) → Passed m b → (i : ℕ) → i ≤ m → sweep_to b i ≡ unswept b
passed_none m b p zero h = refl
passed_none m b p (suc i) h =
    ap (λ (w : Step). sweep_one w i (order_of w.book.orders i)) (passed_none m b p i (omega arith))
    ∙ ap (λ (d : Bool). cond d (expire_told (unswept b) i (order_of b.orders i)) (unswept b)) (not-due b i (p.none i (omega arith)))

-- an order that was not yet looked at is as it was
pub later-kept : (b : Book) (n i : ℕ) → n ≤ i → order_of (sweep_to b n).book.orders i ≡ order_of b.orders i
later-kept b zero i h = refl
later-kept b (suc n) i h =
    ap (λ (w : Book). order_of w.orders i) (sweep-book (sweep_to b n) n)
    ∙ get_or-set_other (sweep_to b n).book.orders n i (expiry_in (sweep_to b n).book n).order no_order (λ e. omega arith)
    ∙ later-kept b n i (omega arith)

-- from a young order on nothing happens
module _ (b : Book) (s : Sound b) (i : ℕ) (young : b.clock - (order_of b.orders i).time < 20) where
  later-young : (n : ℕ) → i ≤ n → n < b.count → b.clock - (order_of b.orders n).time < 20
  later-young n h l =
      ⊎_elim
      (λ (e : n ≡ i). rw e young)
      (λ (k : n ≡ i → ⊥).
      let o = s.orders.ordered i n (⊎_elim (λ (x : i < n). x) (λ (x : n ≤ i). absurd (k (omega arith))) (below_or_not i n)) l in
      omega arith)
      (same_or_not n i)

  -- order n is young, and so not due
  one-young : (n : ℕ) → i ≤ n → n < b.count → sweep_to b (suc n) ≡ sweep_to b n
  one-young n h l = go (swept b s n (omega arith))
    where
      w : Step
      w = sweep_to b n

      o : Order
      o = order_of w.book.orders n

      never : (a : Bool) (clock : ℕ) (o : Order) → clock - o.time < 20 → (a && leb 20 (clock - o.time)) ≡ false
      never true clock o y = lt-leb 20 (clock - o.time) y
      never false clock o y = refl

      go : Swept b w → sweep_to b (suc n) ≡ w
      go r =
          let e : w.book.clock - o.time ≡ b.clock - (order_of b.orders n).time =
          ap₂ (λ (c : ℕ) (q : Order). c - q.time) r.clock (later-kept b n n (omega arith)) in
          let y = later-young n h l in
          ap (λ (d : Bool). cond d (expire_told w n o) w)
          (never (is_waiting o.status && is_bank w.book.roster o.payee) w.book.clock o (omega arith))

  pub rest-young : (n : ℕ) → i ≤ n → n ≤ b.count → sweep_to b n ≡ sweep_to b i
  rest-young zero h l = let e : 0 ≡ i = omega arith in ap (sweep_to b) e
  rest-young (suc n) h l =
      ⊎_elim
      (λ (e : suc n ≡ i). ap (sweep_to b) e)
      (λ (k : suc n ≡ i → ⊥).
      let m : i ≤ n = ⊎_elim (λ (x : i < suc n). omega arith) (λ (x : suc n ≤ i). absurd (k (omega arith))) (below_or_not i (suc n)) in
      one-young n m l ∙ rest-young n m (omega arith))
      (same_or_not (suc n) i)

-- an order of 20 seconds that was looked at waits for no bank any more
module _ (m : ℕ) (b : Book) (h : m < length b.orders) (old : 20 ≤ b.clock - (order_of b.orders m).time) where
  abbrev x : Expiry
  x = expiry_in b m

  this-passed : (is_waiting x.order.status && is_bank b.roster x.order.payee) ≡ false
  this-passed = go (awaits b m) refl
    where
      go : (a : Bool) → awaits b m ≡ a
          → (is_waiting (cond (a && leb 20 (b.clock - (order_of b.orders m).time)) (expires m (order_of b.orders m))
          (stays (order_of b.orders m))).order.status
          && is_bank b.roster (cond (a && leb 20 (b.clock - (order_of b.orders m).time)) (expires m (order_of b.orders m))
          (stays (order_of b.orders m))).order.payee) ≡ false
      go true e = rw (le-leb 20 (b.clock - (order_of b.orders m).time) old)
      go false e = e

  pub one-passed : Passed m b → Passed (suc m) (lapsed b m x)
  one-passed p =
      record {
        none = λ i l.
            ⊎_elim
            (λ (e : i ≡ m). rw (e, get_or-set_same b.orders m x.order no_order h) this-passed)
            (λ (k : i ≡ m → ⊥). rw (get_or-set_other b.orders m i x.order no_order k)
            (p.none i (⊎_elim (λ (y : i < m). y) (λ (y : m ≤ i). absurd (k (omega arith))) (below_or_not i m))))
            (same_or_not i m);
      }
