-- What keeps the facts of `OrdersSound`, and what it does to the sums of waiting orders: another status, a later clock, one order
-- more. Assumes nothing.
use mathlib.Core.Path.{◌≡◌, refl, sym, ◌∙◌, ap, ap₂}
use mathlib.Core.Bool.{true, false}
use mathlib.Core.List.{List}
use mathlib.Core.Logic.{⊎_elim}
use Prim.Native.Nat.{ℕ, ◌+◌, ◌≤◌, ◌<◌}
use native.Mathlib.Numerals.{add-one}
use native.Mathlib.Omega.{arith}
use borrow.Author.Tests.{eq-eqb}
use lib.ListN.{length, set, length-set}
use lib.Seq.{get_or-set_same, get_or-set_other}
use Rattle.codes.specs.Txid.{is_txid}
use Rattle.fields.specs.Text.{unpadded}
use Rattle.fields.proofs.UpTo.{sum_same, sum-change, sum-part}
use Rattle.ticket.specs.Form.{most_order}
use Rattle.rules.specs.Book.{most_orders, no_order, order_of}
use Rattle.rules.specs.Status.{is_waiting, with_status}
use Rattle.rules.specs.Sound.{waiting_amount, waiting_sum, StatusSound, same_key, OrdersSound}
use Rattle.rules.specs.declared.Status.{Status}
use Rattle.rules.specs.declared.Status.TheVariants.{Waiting, Refused, Expired, Returned, Settled}
use Rattle.rules.specs.declared.Order.{Order}
use Rattle.fields.proofs.Compared.{same_or_not}

-- the clock goes on
status-later : (amount time clock clock' : ℕ) → clock ≤ clock' → (s : Status)
    → StatusSound amount time clock s → StatusSound amount time clock' s
status-later amount time clock clock' l Waiting h = tt
status-later amount time clock clock' l Refused h = tt
status-later amount time clock clock' l Expired h = tt
status-later amount time clock clock' l (Returned at n) h = (h.0, (let e = h.1 in omega arith), h.2, h.3)
status-later amount time clock clock' l (Settled mark at) h = (h.0, let e = h.1 in omega arith)

pub orders-later : (size clock clock' n : ℕ) (os : List Order) → clock ≤ clock' → OrdersSound size clock n os → OrdersSound size clock' n os
orders-later size clock clock' n os l s =
    record {
      long = s.long;
      count = s.count;
      payer = s.payer;
      payee = s.payee;
      least = s.least;
      most = s.most;
      status = λ i h. status-later _ _ clock clock' l (order_of os i).status (s.status i h);
      padded = s.padded;
      txid = s.txid;
      distinct = s.distinct;
      ordered = s.ordered;
      early = λ i h. let e = s.early i h in omega arith;
      unused = s.unused;
    }

-- order i gets another status
module _ (size clock n : ℕ) (os : List Order) (s : OrdersSound size clock n os) (i : ℕ) (h : i < n) (status : Status) where
  changed : List Order
  changed = set os i (with_status (order_of os i) status)

  here : order_of changed i ≡ with_status (order_of os i) status
  unfolding changed
  here = get_or-set_same os i (with_status (order_of os i) status) no_order (rw s.long (let c = s.count in omega arith))

  there : (j : ℕ) → (j ≡ i → ⊥) → order_of changed j ≡ order_of os j
  unfolding changed
  there j k = get_or-set_other os i j (with_status (order_of os i) status) no_order k

  -- what a status is no part of is kept
  kept : {A : Type 0} (f : Order → A) → f (with_status (order_of os i) status) ≡ f (order_of os i) → (j : ℕ)
      → f (order_of changed j) ≡ f (order_of os j)
  kept f e j =
      ⊎_elim (λ (q : j ≡ i). rw q (ap f here ∙ e)) (λ (k : j ≡ i → ⊥). ap f (there j k)) (same_or_not j i)

  pub status-keeps : StatusSound (order_of os i).amount (order_of os i).time clock status
      → OrdersSound size clock n (set os i (with_status (order_of os i) status))
  unfolding changed
  status-keeps fits =
      record {
        long = length-set os i (with_status (order_of os i) status) ∙ s.long;
        count = s.count;
        payer = λ j l. rw (kept (λ (o : Order). o.payer) refl j) (s.payer j l);
        payee = λ j l. rw (kept (λ (o : Order). o.payee) refl j) (s.payee j l);
        least = λ j l. rw (kept (λ (o : Order). o.amount) refl j) (s.least j l);
        most = λ j l. rw (kept (λ (o : Order). o.amount) refl j) (s.most j l);
        status = λ j l.
            ⊎_elim
            (λ (q : j ≡ i). rw (q, here) fits)
            (λ (k : j ≡ i → ⊥). rw (there j k) (s.status j l))
            (same_or_not j i);
        padded = λ j l. rw (kept (λ (o : Order). o.txid) refl j) (s.padded j l);
        txid = λ j l. rw (kept (λ (o : Order). o.txid) refl j) (s.txid j l);
        distinct = λ j k l m.
            rw (
              kept (λ (o : Order). o.payer) refl j,
              kept (λ (o : Order). o.payer) refl k,
              kept (λ (o : Order). o.txid) refl j,
              kept (λ (o : Order). o.txid) refl k,
            ) (s.distinct j k l m);
        ordered = λ j k l m. rw (kept (λ (o : Order). o.time) refl j, kept (λ (o : Order). o.time) refl k) (s.ordered j k l m);
        early = λ j l. rw (kept (λ (o : Order). o.time) refl j) (s.early j l);
        unused = λ j l m. there j (λ q. omega arith) ∙ s.unused j l m;
      }

  -- the sums change by the order's part
  sum-changed : (p : ℕ) → waiting_sum n os p + waiting_amount p (with_status (order_of os i) status)
      ≡ waiting_sum n (set os i (with_status (order_of os i) status)) p + waiting_amount p (order_of os i)
  unfolding changed
  sum-changed p =
      ap (λ (o : Order). waiting_sum n os p + waiting_amount p o) (sym here)
      ∙ sum-change (λ j. waiting_amount p (order_of os j)) (λ j. waiting_amount p (order_of changed j)) n i h
      (λ j l m. ap (waiting_amount p) (sym (there j m)))

  -- the order waits no longer
  pub sum-ended : is_waiting status ≡ false → (p : ℕ)
      → waiting_sum n (set os i (with_status (order_of os i) status)) p + waiting_amount p (order_of os i) ≡ waiting_sum n os p
  sum-ended ended p =
      let e = sum-changed p in
      let z : waiting_amount p (with_status (order_of os i) status) ≡ 0 = simp ended in
      omega arith

-- one order more
pub record NewOrder (size clock n : ℕ) (os : List Order) (o : Order) : Type 0 where
  pub room : n < most_orders
  pub payer : o.payer < size
  pub payee : o.payee < size
  pub least : 1 ≤ o.amount
  pub most : o.amount ≤ most_order
  pub status : StatusSound o.amount o.time clock o.status
  pub padded : length o.txid ≡ 35
  pub txid : is_txid (unpadded o.txid) ≡ true
  pub fresh : (i : ℕ) → i < n → same_key (order_of os i) o ≡ false
  pub time : o.time ≡ clock

module _ (size clock n : ℕ) (os : List Order) (s : OrdersSound size clock n os) (o : Order) (new : NewOrder size clock n os o) where
  last : order_of (set os n o) n ≡ o
  last = get_or-set_same os n o no_order (rw s.long new.room)

  earlier : (j : ℕ) → (j ≡ n → ⊥) → order_of (set os n o) j ≡ order_of os j
  earlier j k = get_or-set_other os n j o no_order k

  -- what holds of each order and of the new one
  each : (P : Order → Type 0) → ((j : ℕ) → j < n → P (order_of os j)) → P o → (j : ℕ) → j < n + 1 → P (order_of (set os n o) j)
  each P all this j l =
      ⊎_elim
      (λ (q : j ≡ n). rw (q, last) this)
      (λ (k : j ≡ n → ⊥). rw (earlier j k) (all j (omega arith)))
      (same_or_not j n)

  -- what holds between each two, and between each and the new one
  pairs : (P : Order → Order → Type 0) → ((j k : ℕ) → j < k → k < n → P (order_of os j) (order_of os k))
      → ((j : ℕ) → j < n → P (order_of os j) o)
      → (j k : ℕ) → j < k → k < n + 1 → P (order_of (set os n o) j) (order_of (set os n o) k)
  pairs P all this j k l m =
      ⊎_elim
      (λ (q : k ≡ n). rw (q, last, earlier j (λ e. omega arith)) (this j (omega arith)))
      (λ (r : k ≡ n → ⊥). rw (earlier j (λ e. omega arith), earlier k r) (all j k l (omega arith)))
      (same_or_not k n)

  pub order-keeps : OrdersSound size clock (n + 1) (set os n o)
  order-keeps =
      record {
        long = length-set os n o ∙ s.long;
        count = let r = new.room in omega arith;
        payer = each (λ (x : Order). x.payer < size) s.payer new.payer;
        payee = each (λ (x : Order). x.payee < size) s.payee new.payee;
        least = each (λ (x : Order). 1 ≤ x.amount) s.least new.least;
        most = each (λ (x : Order). x.amount ≤ most_order) s.most new.most;
        status = each (λ (x : Order). StatusSound x.amount x.time clock x.status) s.status new.status;
        padded = each (λ (x : Order). length x.txid ≡ 35) s.padded new.padded;
        txid = each (λ (x : Order). is_txid (unpadded x.txid) ≡ true) s.txid new.txid;
        distinct = pairs (λ (x y : Order). same_key x y ≡ false) s.distinct new.fresh;
        ordered = pairs (λ (x y : Order). x.time ≤ y.time) s.ordered (λ j l. rw new.time (s.early j l));
        early = each (λ (x : Order). x.time ≤ clock) s.early (let e = new.time in omega arith);
        unused = λ j l m. earlier j (λ q. omega arith) ∙ s.unused j (omega arith) m;
      }

  pub sum-new : (p : ℕ) → waiting_sum (n + 1) (set os n o) p ≡ waiting_sum n os p + waiting_amount p o
  sum-new p =
      ap (λ (m : ℕ). waiting_sum m (set os n o) p) (add-one n)
      ∙ ap₂ ◌+◌
      (sum_same (λ j. waiting_amount p (order_of (set os n o) j)) (λ j. waiting_amount p (order_of os j)) n
      (λ j l. ap (waiting_amount p) (earlier j (λ q. omega arith))))
      (ap (waiting_amount p) last)

-- a waiting order is part of its payer's sum
pub sum-holds : (n : ℕ) (os : List Order) (i : ℕ) → i < n → is_waiting (order_of os i).status ≡ true
    → (order_of os i).amount ≤ waiting_sum n os (order_of os i).payer
sum-holds n os i h w =
    let e : waiting_amount (order_of os i).payer (order_of os i) ≡ (order_of os i).amount =
    simp (w, eq-eqb (order_of os i).payer (order_of os i).payer refl) in
    rw e at (sum-part (λ j. waiting_amount (order_of os i).payer (order_of os j)) n i h)
