-- The fresh book is sound, and what happens to a book keeps it so: the clock, a move of cover, an order's status with the cover that
-- moves with it, one order more. Assumes nothing.
use mathlib.Core.Path.{◌≡◌, refl, ◌∙◌, ap}
use mathlib.Core.Bool.{true, false}
use mathlib.Core.List.{List}
use mathlib.Core.Logic.{inl}
use Prim.Native.Nat.{ℕ, ◌+◌, ◌≤◌, ◌<◌}
use native.Mathlib.Nat.{not-suc-le-zero}
use native.Mathlib.Omega.{arith}
use lib.ListN.{set, replicate, length-replicate, get_or-replicate}
use Rattle.fields.proofs.UpTo.{sum-zero}
use Rattle.dayfile.specs.FileLimits.{most_participants}
use Rattle.dayfile.specs.Guarantee.{Guaranteed}
use Rattle.dayfile.specs.declared.roster.Roster.{Roster}
use Rattle.rules.specs.Book.{most_orders, no_order, no_cover, unused_order, order_of, cover_of, with_covers, fresh_book}
use Rattle.rules.specs.Status.{is_waiting, with_status}
use Rattle.rules.specs.Cover.{Enough, transferred, whole, total_of, total, most_total}
use Rattle.rules.specs.Tick.{at_time, freed}
use Rattle.rules.specs.Decision.{by}
use Rattle.rules.specs.Sound.{waiting_amount, waiting_sum, StatusSound, CoversSound, Sound}
use Rattle.rules.specs.declared.decision.Move.TheVariants.{Give, Draw, Reserve, Spend}
use Rattle.rules.specs.declared.decision.Transfer.{Transfer}
use Rattle.rules.specs.declared.Status.{Status}
use Rattle.rules.specs.declared.Order.{Order}
use Rattle.rules.specs.declared.Cover.{Cover}
use Rattle.rules.specs.declared.Book.{Book}
use Rattle.rules.proofs.CoverMoving.{fitted, bound, unbound, gain, only_for, for-none, transfer-keeps, transfer-total}
use Rattle.rules.proofs.OrdersKeeping.{NewOrder, orders-later, status-keeps, sum-ended, order-keeps, sum-new}
use Rattle.rules.proofs.SoundLimits.{waiting-reserved}

-- a fresh book
pub fresh-sound : (r : Roster) → Guaranteed r → Sound (fresh_book r)
unfolding total
fresh-sound r g =
    record {
      roster = g;
      orders =
          record {
            long = length-replicate most_orders unused_order;
            count = omega arith;
            payer = λ i h. absurd (not-suc-le-zero h);
            payee = λ i h. absurd (not-suc-le-zero h);
            least = λ i h. absurd (not-suc-le-zero h);
            most = λ i h. absurd (not-suc-le-zero h);
            status = λ i h. absurd (not-suc-le-zero h);
            padded = λ i h. absurd (not-suc-le-zero h);
            txid = λ i h. absurd (not-suc-le-zero h);
            distinct = λ i j l h. absurd (not-suc-le-zero h);
            ordered = λ i j l h. absurd (not-suc-le-zero h);
            early = λ i h. absurd (not-suc-le-zero h);
            unused = λ i l h. get_or-replicate most_orders i unused_order no_order h;
          };
      covers =
          record {
            long = length-replicate most_participants no_cover;
            reserved = λ p h. ap (λ (c : Cover). c.reserved) (zero p (below p h));
            either = λ p h. inl (ap (λ (c : Cover). c.held) (zero p (below p h)));
            outside = λ p l h. zero p h;
          };
      limited = rw (sum-zero (λ p. whole (cover_of (replicate most_participants no_cover) p)) r.size (λ p h. ap whole (zero p (below p h))))
          (omega arith);
    }
  where
    below : (p : ℕ) → p < r.size → p < most_participants
    below p h = let s = g.size in omega arith

    zero : (p : ℕ) → p < most_participants → cover_of (replicate most_participants no_cover) p ≡ no_cover
    zero p h = get_or-replicate most_participants p no_cover no_cover h

module _ (b : Book) (s : Sound b) where
  -- the clock goes on
  pub later-sound : (time : ℕ) → b.clock ≤ time → Sound (at_time b time)
  unfolding total
  later-sound time l =
      record {
        roster = s.roster;
        orders = orders-later b.roster.size b.clock time b.count b.orders l s.orders;
        covers = s.covers;
        limited = s.limited;
      }

  few : b.roster.size ≤ most_participants
  few = s.roster.size

  due : ℕ → ℕ
  due = waiting_sum b.count b.orders

  limit : total_of b.roster.size b.covers ≤ most_total
  unfolding total
  limit = s.limited

  -- other covers of the same book
  pub covers-sound : (cs : List Cover) → CoversSound b.roster.size (waiting_sum b.count b.orders) cs
      → total_of b.roster.size cs ≤ most_total
      → Sound (with_covers b cs)
  unfolding total
  covers-sound cs c l = record { roster = s.roster; orders = s.orders; covers = c; limited = l }

  -- one cover moves, and nothing is reserved or freed
  pub moved-sound : (m : Transfer) → m.who < b.roster.size → Enough m.how m.amount (cover_of b.covers m.who)
      → ((p : ℕ) → only_for m.who p (unbound m.how m.amount) ≡ only_for m.who p (bound m.how m.amount))
      → total_of b.roster.size b.covers + gain m.how m.amount ≤ most_total
      → Sound (with_covers b (transferred m b.covers))
  unfolding due
  moved-sound m h enough same l =
      covers-sound (transferred m b.covers)
      (transfer-keeps few s.covers m h enough due (λ p. ap (λ (n : ℕ). due p + n) (same p)))
      (let e = transfer-total (fitted few s.covers) m h enough in omega arith)

  module _ (i : ℕ) (h : i < b.count) (t : Status) (ended : is_waiting t ≡ false)
      (fits : StatusSound (order_of b.orders i).amount (order_of b.orders i).time b.clock t) where
    o : Order
    o = order_of b.orders i

    due' : ℕ → ℕ
    due' = waiting_sum b.count (set b.orders i (with_status (order_of b.orders i) t))

    -- order i has a status that is not Waiting, and the covers are others
    abbrev Ended : List Cover → Book
    Ended cs =
        record {
          clock = b.clock;
          covers = cs;
          orders = set b.orders i (with_status (order_of b.orders i) t);
          count = b.count;
          roster = b.roster;
        }

    ended-sound : (cs : List Cover) → CoversSound b.roster.size due' cs → total_of b.roster.size cs ≤ most_total → Sound (Ended cs)
    unfolding total due'
    ended-sound cs c l =
        record {
          roster = s.roster;
          orders = status-keeps b.roster.size b.clock b.count b.orders s.orders i h t fits;
          covers = c;
          limited = l;
        }

    sums : (p : ℕ) → due' p + waiting_amount p o ≡ due p
    unfolding due due' o
    sums p = sum-ended b.roster.size b.clock b.count b.orders s.orders i h t ended p

    -- the order waited: its amount was reserved, and is so no longer
    module _ (w : is_waiting (order_of b.orders i).status ≡ true) where
      backed : (order_of b.orders i).amount ≤ (cover_of b.covers (order_of b.orders i).payer).reserved
      backed = waiting-reserved b s i h w

      less : (p : ℕ) → due' p + only_for o.payer p o.amount ≡ due p + only_for o.payer p 0
      unfolding o
      less p =
          let e = sums p in
          let part : waiting_amount p (order_of b.orders i)
          ≡ only_for (order_of b.orders i).payer p (order_of b.orders i).amount = simp w in
          let none = for-none (order_of b.orders i).payer p in
          omega arith

      pub freed-sound : Sound (Ended (transferred (freed (order_of b.orders i)) b.covers))
      unfolding o due due'
      freed-sound =
          let m = freed o in
          let p = s.orders.payer i h in
          ended-sound (transferred m b.covers)
          (transfer-keeps few s.covers m p backed due' less)
          (let e = transfer-total (fitted few s.covers) m p backed in let most = limit in omega arith)

      -- the payer's reserved falls, the payee's available rises
      pub settled-sound : Sound (Ended (transferred (by (order_of b.orders i).payee Give (order_of b.orders i).amount)
          (transferred (by (order_of b.orders i).payer Spend (order_of b.orders i).amount) b.covers)))
      unfolding o due due'
      settled-sound =
          let spend = by o.payer Spend o.amount in
          let give = by o.payee Give o.amount in
          let left = transfer-keeps few s.covers spend (s.orders.payer i h) backed due' less in
          let spent = transfer-total (fitted few s.covers) spend (s.orders.payer i h) backed in
          let given = transfer-total (fitted few left) give (s.orders.payee i h) tt in
          let most = limit in
          ended-sound (transferred give (transferred spend b.covers))
          (transfer-keeps few left give (s.orders.payee i h) tt due' (λ p. refl)) (omega arith)

    -- the order did not wait
    module _ (w : is_waiting (order_of b.orders i).status ≡ false) where
      same-due : (p : ℕ) → due p ≡ due' p
      unfolding o
      same-due p =
          let e = sums p in
          let none : waiting_amount p (order_of b.orders i) ≡ 0 = simp w in
          omega arith

      as-due : {cs : List Cover} → CoversSound b.roster.size due cs → CoversSound b.roster.size due' cs
      as-due c = record { long = c.long; reserved = λ p l. c.reserved p l ∙ same-due p; either = c.either; outside = c.outside }

      pub remarked-sound : Sound (Ended b.covers)
      unfolding due
      remarked-sound = ended-sound b.covers (as-due s.covers) limit

      -- the payee's available falls, the payer's rises
      pub returned-sound : (n : ℕ) → n ≤ (cover_of b.covers (order_of b.orders i).payee).available
          → Sound (Ended
          (transferred (by (order_of b.orders i).payer Give n) (transferred (by (order_of b.orders i).payee Draw n) b.covers)))
      unfolding o due due'
      returned-sound n l =
          let draw = by o.payee Draw n in
          let give = by o.payer Give n in
          let left = transfer-keeps few s.covers draw (s.orders.payee i h) l due (λ p. refl) in
          let drawn = transfer-total (fitted few s.covers) draw (s.orders.payee i h) l in
          let given = transfer-total (fitted few left) give (s.orders.payer i h) tt in
          let most = limit in
          ended-sound (transferred give (transferred draw b.covers))
          (as-due (transfer-keeps few left give (s.orders.payer i h) tt due (λ p. refl))) (omega arith)

  -- one order more
  pub opened-sound : (o : Order) → NewOrder b.roster.size b.clock b.count b.orders o
      → o.amount ≤ (cover_of b.covers o.payer).available
      → is_waiting o.status ≡ true
      → Sound
      (record {
        clock = b.clock;
        covers = transferred (by o.payer Reserve o.amount) b.covers;
        orders = set b.orders b.count o;
        count = b.count + 1;
        roster = b.roster;
      })
  unfolding total due
  opened-sound o new l w =
      let m = by o.payer Reserve o.amount in
      record {
        roster = s.roster;
        orders = order-keeps b.roster.size b.clock b.count b.orders s.orders o new;
        covers = transfer-keeps few s.covers m new.payer l (waiting_sum (b.count + 1) (set b.orders b.count o)) more;
        limited = let e = transfer-total (fitted few s.covers) m new.payer l in let most = limit in omega arith;
      }
    where
      more : (p : ℕ)
          → waiting_sum (b.count + 1) (set b.orders b.count o) p + only_for o.payer p 0 ≡ due p + only_for o.payer p o.amount
      more p =
          let e = sum-new b.roster.size b.clock b.count b.orders s.orders o new p in
          let part : waiting_amount p o ≡ only_for o.payer p o.amount = simp w in
          let none = for-none o.payer p in
          omega arith
