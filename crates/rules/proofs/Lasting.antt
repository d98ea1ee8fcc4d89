-- What an order keeps once it doesn't wait.
--     Lasts               what no recall, return or decline takes from an order that doesn't wait
--     lasts               no list of inputs takes it either
--     settlement-kept     where a yes is accepted, the order keeps the clock, which the yes has set to its time. 02, slip 5: 'An order
--                         remembers the time of its settlement'
--     settlement-stays    no list of inputs changes the settlement time of an order that doesn't wait
--     settlement-lasts    both: after an accepted yes and any list of inputs the order's settlement time is the time of the yes
--     return_kept         where a return is accepted, the order keeps its amount, and its own. 02, slip 2: 'The order keeps it beside its
--                         own amount'
--     returned-stays      no list of inputs changes an order that is returned
-- Assumes nothing.
use mathlib.Core.Path.{◌≡◌, refl, sym, ◌∙◌, ap}
use mathlib.Core.Bool.{Bool, true, false}
use mathlib.Core.Logic.{⊎_elim}
use mathlib.Core.List.{List, [], ◌∷◌}
use Prim.Native.Nat.{ℕ, ◌≤◌, ◌<◌}
use native.Mathlib.Omega.{arith}
use lib.ListN.{set}
use lib.Seq.{get_or-set_same, get_or-set_other, set-get_or}
use Rattle.fields.proofs.Compared.{same_or_not}
use Rattle.fields.proofs.Tests.{never}
use Rattle.ticket.specs.declared.Fields.{Fields}
use Rattle.ticket.specs.declared.kinds.Kind.{Kind}
use Rattle.ticket.specs.declared.kinds.Kind.TheVariants as kind
use Rattle.ticket.proofs.TicketTelling.{Tells}
use Rattle.rules.specs.Book.{no_order, order_of}
use Rattle.rules.specs.Status.{is_waiting, is_unmarked, is_asked, settled_at, returned_amount, with_status}
use Rattle.rules.specs.Tick.{Step, at_time, tick}
use Rattle.rules.specs.Find.{finding}
use Rattle.rules.specs.Terms.{terms_of, names_order, meets}
use Rattle.rules.specs.Decision.{decision_of, applied}
use Rattle.rules.specs.Step.{handed}
use Rattle.rules.specs.Inputs.{Input, outcome_of, book_from}
use Rattle.rules.specs.Sound.{Sound}
use Rattle.rules.specs.declared.Recall.TheVariants as mark
use Rattle.rules.specs.declared.Status.TheVariants as status
use Rattle.rules.specs.declared.Order.{Order}
use Rattle.rules.specs.declared.Book.{Book}
use Rattle.rules.proofs.Refusing.{NoRefusal}
use Rattle.rules.proofs.Accepting.{fields_of}
use Rattle.rules.proofs.Accepting as accepting
use Rattle.rules.proofs.Expiring.{due_in, expired_if, tick-expires}
use Rattle.rules.proofs.SweepSound.{tick-swept}
use Rattle.rules.proofs.Courses.{handed-goes}
use Rattle.rules.proofs.StepSound.{own-sound, handed-sound}

-- the order that a ticket is about, once it is written
module _ (b : Book) (s : Sound b) (k : Kind) (time n : ℕ) (t : List ℕ) (r : NoRefusal (finding b (fields_of k time n) t))
    (names : names_order (terms_of k).subject ≡ true) where
  abbrev f : Fields
  f = fields_of k time n

  written : (o : Order) → order_of (set b.orders (accepting.order_number b f t) o) (accepting.order_number b f t) ≡ o
  written o =
      let below = (accepting.order-found b f t r.r16 names).below in
      get_or-set_same b.orders (accepting.order_number b f t) o no_order (rw s.orders.long (let c = s.orders.count in omega arith))

pub settlement-kept : (b : Book) → Sound b → (time n : ℕ) (t : List ℕ) → let f = fields_of kind.Yes time n in
    NoRefusal (finding b f t)
    → (order_of (applied b (decision_of (finding b f t))).orders (accepting.order_number b f t)).status ≡ status.Settled mark.None b.clock
settlement-kept b s time n t r = ap (λ (o : Order). o.status) (written b s kind.Yes time n t r refl _)

pub return_kept : (b : Book) → Sound b → (time n : ℕ) (t : List ℕ) → let f = fields_of kind.Return time n in
    let after = order_of (applied b (decision_of (finding b f t))).orders (accepting.order_number b f t) in
    NoRefusal (finding b f t)
    → (returned_amount after ≡ n) × (after.amount ≡ (accepting.the_order b f t).amount)
return_kept b s time n t r =
    let is = written b s kind.Return time n t r refl _ in
    (ap returned_amount is, ap (λ (o : Order). o.amount) is)

pub record Lasts (Q : Order → Type 0) : Type 0 where
  pub ended : (o : Order) → Q o → is_waiting o.status ≡ false
  pub recalled : (o : Order) → Q o → is_unmarked o.status ≡ true
      → Q (with_status o (status.Settled mark.Asked (settled_at o.status)))
  pub returned : (o : Order) → Q o → is_asked o.status ≡ true → (n : ℕ) → Q (with_status o (status.Returned (settled_at o.status) n))
  pub declined : (o : Order) → Q o → is_asked o.status ≡ true
      → Q (with_status o (status.Settled mark.Declined (settled_at o.status)))

-- order i has it, and is in use
record Stays (Q : Order → Type 0) (i : ℕ) (w : Book) : Type 0 where
  order : Q (order_of w.orders i)
  used : i < w.count

module _ (Q : Order → Type 0) (l : Lasts Q) (i : ℕ) where
  -- the ticket's own step
  module _ (w : Book) (s : Sound w) (st : Stays Q i w) (time m : ℕ) (t : List ℕ) where
    -- what is written back leaves order i
    kept : (j : ℕ) → Q (order_of (set w.orders j (order_of w.orders j)) i)
    kept j = rw (set-get_or w.orders j no_order) st.order

    -- and so does a change of another order; of its own it is for Q to say
    changed : (j : ℕ) (o : Order) → (i ≡ j → Q o) → Q (order_of (set w.orders j o) i)
    changed j o own =
        ⊎_elim
        (λ (e : i ≡ j).
        let inside = st.used in
        let is = get_or-set_same w.orders i o no_order (rw s.orders.long (let c = s.orders.count in omega arith)) in
        rw (← e, is) (own e))
        (λ (k : i ≡ j → ⊥). rw (get_or-set_other w.orders j i o no_order k) st.order)
        (same_or_not i j)

    -- 18 passed
    as-needed : (k : Kind) → NoRefusal (finding w (fields_of k time m) t)
        → meets (terms_of k).needs (accepting.the_order w (fields_of k time m) t).status ≡ true
    as-needed k r = accepting.status-meets w (fields_of k time m) t r.r18

    -- if it is order i that the ticket is about, what it is about has it
    about : (k : Kind) → i ≡ accepting.order_number w (fields_of k time m) t → Q (accepting.the_order w (fields_of k time m) t)
    about k e = rw (← e) st.order

    -- a ticket that needs an order which waits is about another
    other : (k : Kind) {A : Type 0} → is_waiting (accepting.the_order w (fields_of k time m) t).status ≡ true
        → i ≡ accepting.order_number w (fields_of k time m) t → A
    other k waits e = never (sym waits ∙ l.ended _ (about k e))

    own-stays : (k : Kind) → NoRefusal (finding w (fields_of k time m) t)
        → Stays Q i (applied w (decision_of (finding w (fields_of k time m) t)))
    own-stays kind.CoverIn r = record { order = kept _; used = st.used }
    own-stays kind.CoverOut r = record { order = kept _; used = st.used }
    own-stays kind.Order r =
        let inside = st.used in
        record { order = changed w.count _ (λ e. absurd (omega arith)); used = omega arith }
    own-stays kind.Yes r = record { order = changed _ _ (other kind.Yes (as-needed kind.Yes r)); used = st.used }
    own-stays kind.No r = record { order = changed _ _ (other kind.No (as-needed kind.No r)); used = st.used }
    own-stays kind.Recall r =
        record { order = changed _ _ (λ e. l.recalled _ (about kind.Recall e) (as-needed kind.Recall r)); used = st.used }
    own-stays kind.Return r =
        record { order = changed _ _ (λ e. l.returned _ (about kind.Return e) (as-needed kind.Return r) m); used = st.used }
    own-stays kind.Decline r =
        record { order = changed _ _ (λ e. l.declined _ (about kind.Decline e) (as-needed kind.Decline r)); used = st.used }
    own-stays kind.Inquiry r = record { order = kept _; used = st.used }
    own-stays kind.Cut r = record { order = kept _; used = st.used }
    own-stays kind.Confirm r = record { order = kept _; used = st.used }
    own-stays kind.Tick r = record { order = kept _; used = st.used }

  module _ (b : Book) (s : Sound b) (st : Stays Q i b) where
    -- it doesn't wait, so it doesn't expire
    tick-stays : (time : ℕ) → b.clock ≤ time → Stays Q i (tick b time).book
    tick-stays time l' =
        let x = tick-expires b s time l' in
        let inside = st.used in
        record {
          order = rw (x.order i st.used) (go (due_in (at_time b time) i) refl);
          used = let c = x.count in omega arith;
        }
      where
        go : (d : Bool) → due_in (at_time b time) i ≡ d → Q (expired_if d (order_of b.orders i))
        go true e = never (sym ((tick-expires b s time l').waited i e) ∙ l.ended _ st.order)
        go false e = st.order

    taken-stays : (t : List ℕ) (f : Fields) → Tells t f → b.clock ≤ f.time → NoRefusal (finding (tick b f.time).book f t)
        → Stays Q i (applied (tick b f.time).book (decision_of (finding (tick b f.time).book f t)))
    taken-stays t f tells l' none =
        own-stays (tick b f.time).book (tick-swept b s f.time l').sound (tick-stays f.time l') f.time f.amount t f.kind
        none

    handed-stays : (t buffer : List ℕ) → Stays Q i (handed b t buffer).book
    handed-stays t =
        handed-goes b t (λ (w : Step). Stays Q i w.book) (λ k low high. st) (λ f tells l' k low. tick-stays f.time l') (taken-stays t)

  lasts-all : (b : Book) → Sound b → Stays Q i b → (xs : List Input) → Q (order_of (book_from b xs).orders i)
  lasts-all b s st [] = st.order
  lasts-all b s st (x ∷ xs) =
      lasts-all (outcome_of b x).book (handed-sound b s x.ticket x.buffer) (handed-stays b s st x.ticket x.buffer) xs

  pub lasts : (b : Book) → Sound b → i < b.count → Q (order_of b.orders i) → (xs : List Input) → Q (order_of (book_from b xs).orders i)
  lasts b s h q = lasts-all b s (record { order = q; used = h })

pub settlement-stays : (i : ℕ) (b : Book) → Sound b → i < b.count → is_waiting (order_of b.orders i).status ≡ false → (xs : List Input)
    → settled_at (order_of (book_from b xs).orders i).status ≡ settled_at (order_of b.orders i).status
settlement-stays i b s h ended xs = (lasts Settlement keeps i b s h (ended, refl) xs).1
  where
    Settlement : Order → Type 0
    Settlement o = (is_waiting o.status ≡ false) × (settled_at o.status ≡ settled_at (order_of b.orders i).status)

    keeps : Lasts Settlement
    keeps =
        record {
          ended = λ o q. q.0;
          recalled = λ o q e. (refl, q.1);
          returned = λ o q e n. (refl, q.1);
          declined = λ o q e. (refl, q.1);
        }

pub settlement-lasts : (b : Book) → Sound b → (time n : ℕ) (t : List ℕ) → b.clock ≤ time
    → let w = (tick b time).book in let f = fields_of kind.Yes time n in
    Tells t f
    → NoRefusal (finding w f t)
    → (xs : List Input)
    → settled_at (order_of (book_from (applied w (decision_of (finding w f t))) xs).orders (accepting.order_number w f t)).status ≡ time
settlement-lasts b s time n t l tells r xs =
    let w = (tick b time).book in
    let f = fields_of kind.Yes time n in
    let swept = tick-swept b s time l in
    let is = settlement-kept w swept.sound time n t r in
    settlement-stays (accepting.order_number w f t) (applied w (decision_of (finding w f t)))
    (own-sound w swept.sound n time t kind.Yes tells r) (accepting.order-found w f t r.r16 refl).below (ap is_waiting is) xs
    ∙ ap settled_at is
    ∙ swept.clock

pub returned-stays : (i at n : ℕ) (b : Book) → Sound b → i < b.count → (order_of b.orders i).status ≡ status.Returned at n
    → (xs : List Input)
    → order_of (book_from b xs).orders i ≡ order_of b.orders i
returned-stays i at n b s h is = lasts Same keeps i b s h refl
  where
    Same : Order → Type 0
    Same o = o ≡ order_of b.orders i

    status-is : (o : Order) → Same o → o.status ≡ status.Returned at n
    status-is o q = ap (λ (p : Order). p.status) q ∙ is

    keeps : Lasts Same
    keeps =
        record {
          ended = λ o q. ap is_waiting (status-is o q);
          recalled = λ o q e. never (sym e ∙ ap is_unmarked (status-is o q));
          returned = λ o q e m. never (sym e ∙ ap is_asked (status-is o q));
          declined = λ o q e. never (sym e ∙ ap is_asked (status-is o q));
        }
