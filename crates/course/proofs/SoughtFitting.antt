-- In a sound book what is sought, and what is decided on it, fits: every number is in range, and there is room for what moves.
-- Assumes nothing.
use Rattle.std.specs.Prelude.{Option, Some, None, Err, Ok, Result, ℕ}
use mathlib.Core.Path.{◌≡◌, refl, sym, ◌∙◌, ap}
use mathlib.Core.Bool.{Bool, true, false, cond}
use mathlib.Core.List.{List}
use mathlib.Core.Logic.{inl, inr, ⊎_elim}
use Prim.Native.Nat.{ℕ, ◌≤◌, ◌<◌}
use native.Mathlib.Omega.{arith}
use borrow.Author.Tests.{eqb-true, ltb-false}
use lib.Dec.{eqb, ltb}
use lib.ListN.{length}
use Rattle.fields.specs.Search.{number_of, first_to}
use Rattle.fields.proofs.Finding.{found_at}
use Rattle.fields.proofs.Stores.{length_part}
use Rattle.ticket.specs.TicketLayout.{payee_of}
use Rattle.ticket.specs.TicketReading.{reading}
use Rattle.ticket.specs.declared.Fields.{Fields}
use Rattle.ticket.specs.declared.kinds.Kind.{Kind}
use Rattle.ticket.specs.declared.kinds.Kind.TheVariants as kind
use Rattle.ticket.proofs.TicketTelling.{Tells, read-tells}
use Rattle.ticket.proofs.Refusals.{refused-number}
use Rattle.dayfile.specs.FileLimits.{most_participants}
use Rattle.dayfile.specs.Route.{way_to, reached, rows_followed, target_in, row_with, followed_from, followed_bic}
use Rattle.dayfile.specs.declared.roster.Roster.{Roster}
use Rattle.dayfile.proofs.Arriving.{bic-arrives}
use Rattle.dayfile.proofs.Following.{rows_few}
use Rattle.rules.specs.Book.{most_orders, order_of, cover_of, is_bank}
use Rattle.rules.specs.Tick.{due}
use Rattle.rules.specs.Status.{is_waiting, settled_at}
use Rattle.rules.specs.Cover.{Enough, transferred, whole, most_total}
use Rattle.rules.specs.Find.{sender_in, order_in, way_in, finding}
use Rattle.rules.specs.Terms.{terms_of, names_sender}
use Rattle.rules.specs.Refusal.{first_of, first_refusal}
use Rattle.rules.specs.Decision.{by, nobody, order_kept, order_becomes, decision_of}
use Rattle.rules.specs.Sound.{Sound}
use Rattle.rules.specs.declared.decision.Move.{Move}
use Rattle.rules.specs.declared.decision.Move.TheVariants.{Stay, Give, Draw, Reserve, Release, Spend, Credit, Debit}
use Rattle.rules.specs.declared.decision.Transfer.{Transfer}
use Rattle.rules.specs.declared.decision.Told.{Told}
use Rattle.rules.specs.declared.decision.Told.TheVariants.{Nobody}
use Rattle.rules.specs.declared.refusal.Timing.TheVariants.{InTime, Early}
use Rattle.rules.specs.declared.Recall.TheVariants as mark
use Rattle.rules.specs.declared.Status.{Status}
use Rattle.rules.specs.declared.Status.TheVariants as status
use Rattle.rules.specs.declared.Order.{Order}
use Rattle.rules.specs.declared.Cover.{Cover}
use Rattle.rules.specs.declared.Book.{Book}
use Rattle.fields.proofs.Compared.{below_or_not}
use Rattle.fields.proofs.Tests.{never}
use Rattle.rules.proofs.CoverMoving.{gain, only_for, fitted, transfer-whole, for-none}
use Rattle.rules.proofs.SweepSound.{due-waits}
use Rattle.rules.proofs.SoundLimits.{whole-limited, participant-below, waiting-reserved}
use Rattle.rules.proofs.Refusing.{NoRefusal, none-applies, both-none}
use Rattle.rules.proofs.Accepting.{fields_of}
use Rattle.rules.proofs.Accepting as accepting
use Rattle.course.specs.Room.{Room, Applicable}
use Rattle.course.specs.Entry.{timed_entry, read_entry, entry_of}
use Rattle.course.specs.Expiry.{expires, stays, expiry_in}
use Rattle.course.specs.Seeking.{seeks_order, sought_sender, sought_order, sought}
use Rattle.course.specs.Judging.{judged}
use Rattle.course.specs.Taking.{unswept}
use Rattle.course.specs.declared.Entry.{Entry}
use Rattle.course.specs.declared.Expiry.{Expiry}
use Rattle.course.proofs.Taking.{sought-refuses}

room-to-move : (how : Move) (n : ℕ) (c : Cover) → Enough how n c → n ≤ most_total → whole c ≤ most_total → Room how n c
room-to-move Stay n c e a w = tt
room-to-move Give n c e a w = omega arith
room-to-move Draw n c e a w = e
room-to-move Reserve n c e a w = (e, omega arith)
room-to-move Release n c e a w = (e, omega arith)
room-to-move Spend n c e a w = e
room-to-move Credit n c e a w = tt
room-to-move Debit n c e a w = omega arith

-- what is found below n is below n; where nothing is found the number is 0
number-below : (test : ℕ → Bool) (n m : ℕ) → n ≤ m → 0 < m → number_of (first_to test n) < m
number-below test n m h pos = go (first_to test n) refl
  where
    go : (f : Option ℕ) → first_to test n ≡ f → number_of f < m
    go (Some i) e =
        let l = (found_at test n (rw e refl)).below in
        let l' : number_of (Some i) < n = rw e at l in
        omega arith
    go None e = pos

if-below : (looks : Bool) (f : Option ℕ) (m : ℕ) → 0 < m → number_of f < m → number_of (cond looks f None) < m
if-below true f m pos l = l
if-below false f m pos l = pos

way-rows : (r : Roster) (f : Option ℕ) → rows_followed (followed_from r f) ≤ 64
way-rows r (Some row) = rows_few (target_in r.routes) row
way-rows r None = omega arith

module _ (b : Book) (s : Sound b) where
  -- an order's parties, in use or not
  pub any-payer : (i : ℕ) → i < most_orders → (order_of b.orders i).payer < most_participants
  any-payer i h =
      ⊎_elim
      (λ (l : i < b.count). let p = s.orders.payer i l in let g = s.roster.size in omega arith)
      (λ (l : b.count ≤ i). rw (s.orders.unused i l h) (omega arith))
      (below_or_not i b.count)

  pub any-payee : (i : ℕ) → i < most_orders → (order_of b.orders i).payee < most_participants
  any-payee i h =
      ⊎_elim
      (λ (l : i < b.count). let p = s.orders.payee i l in let g = s.roster.size in omega arith)
      (λ (l : b.count ≤ i). rw (s.orders.unused i l h) (omega arith))
      (below_or_not i b.count)

  any-txid : (i : ℕ) → i < most_orders → length (order_of b.orders i).txid ≡ 35
  any-txid i h =
      ⊎_elim
      (λ (l : i < b.count). s.orders.padded i l)
      (λ (l : b.count ≤ i). rw (s.orders.unused i l h) refl)
      (below_or_not i b.count)

  -- whoever is no participant has no cover
  pub any-whole : (p : ℕ) → p < most_participants → whole (cover_of b.covers p) ≤ most_total
  any-whole p h =
      ⊎_elim
      (λ (l : p < b.roster.size). whole-limited b s p l)
      (λ (l : b.roster.size ≤ p). rw (s.covers.outside p l h) (omega arith))
      (below_or_not p b.roster.size)

  pub sought-sender-below : (e : Entry) (t : List ℕ) → number_of (sought_sender b e t) < most_participants
  unfolding sender_in
  sought-sender-below e t =
      if-below (names_sender (terms_of e.kind).subject) (sender_in b.roster t) most_participants (omega arith)
      (number-below _ b.roster.size most_participants s.roster.size (omega arith))

  pub sought-order-below : (e : Entry) (t : List ℕ) → number_of (sought_order b e t) < most_orders
  unfolding order_in
  sought-order-below e t =
      if-below (seeks_order (terms_of e.kind).subject) (order_in b.roster b.orders b.count t) most_orders (omega arith)
      (number-below _ b.count most_orders s.orders.count (omega arith))

  way-below : (bic : List ℕ) → reached (followed_bic b.roster bic) < most_participants
  way-below bic = go (row_with b.roster bic) refl
    where
      go : (f : Option ℕ) → row_with b.roster bic ≡ f → reached (followed_from b.roster f) < most_participants
      go (Some row) e =
          let a = bic-arrives b.roster s.roster bic (rw e refl) in
          let is : followed_from b.roster (Some row) ≡ way_to a.participant a.rows = rw e at a.is in
          rw is (let l = a.known in let g = s.roster.size in omega arith)
      go None e = omega arith

  pub reached-below : (looks : Bool) (t : List ℕ) → reached (cond looks (way_in b.roster t) None) < most_participants
  unfolding way_in
  reached-below true t = way-below (payee_of t)
  reached-below false t = omega arith

  rows-below : (looks : Bool) (t : List ℕ) → rows_followed (cond looks (way_in b.roster t) None) < 256
  unfolding way_in
  rows-below true t = let l = way-rows b.roster (row_with b.roster (payee_of t)) in omega arith
  rows-below false t = omega arith

  -- a decision that keeps the order, one cover moving
  kept-applicable : (e : Entry) (t : List ℕ) (m : Transfer) (cuts : Bool) (told : Told) → m.who < most_participants → m.amount ≤ most_total
      → Room m.how m.amount (cover_of b.covers m.who) → (cuts ≡ true → (m ≡ nobody) × (nobody ≡ nobody) × (told ≡ Nobody))
      → Applicable b (order_kept (sought b e t) m cuts told)
  kept-applicable e t m cuts told who most fits alone =
      record {
        number = sought-order-below e t;
        txid = any-txid _ (sought-order-below e t);
        count = inl refl;
        first = who;
        second = omega arith;
        first_most = most;
        second_most = omega arith;
        first_room = fits;
        second_room = tt;
        waits = λ l w. refl;
        rows = omega arith;
        cuts = alone;
      }

  -- all stays as it is
  stays-applicable : (e : Entry) (t : List ℕ) (cuts : Bool) (told : Told) → (cuts ≡ true → told ≡ Nobody)
      → Applicable b (order_kept (sought b e t) nobody cuts told)
  stays-applicable e t cuts told alone = kept-applicable e t nobody cuts told (omega arith) (omega arith) tt (λ c. (refl, refl, alone c))

  -- the order gets a status that is not Waiting
  becomes-applicable : (e : Entry) (t : List ℕ) (u : Status) (m q : Transfer) (told : Told) → is_waiting u ≡ false
      → m.who < most_participants → m.amount ≤ most_total → Room m.how m.amount (cover_of b.covers m.who)
      → q.who < most_participants → q.amount ≤ most_total → Room q.how q.amount (cover_of (transferred m b.covers) q.who)
      → Applicable b (order_becomes (sought b e t) u m q told)
  becomes-applicable e t u m q told ended who most fits who' most' fits' =
      record {
        number = sought-order-below e t;
        txid = any-txid _ (sought-order-below e t);
        count = inl refl;
        first = who;
        second = who';
        first_most = most;
        second_most = most';
        first_room = fits;
        second_room = fits';
        waits = λ l w. never (sym w ∙ ended);
        rows = omega arith;
        cuts = λ c. never (sym c);
      }

  -- of a first move that brings nothing in, the covers that it leaves are within the limit
  left-limited : (m : Transfer) → m.who < b.roster.size → Enough m.how m.amount (cover_of b.covers m.who)
      → gain m.how m.amount ≡ 0
      → (p : ℕ) → whole (cover_of b.covers p) ≤ most_total → whole (cover_of (transferred m b.covers) p) ≤ most_total
  left-limited m h enough none p l =
      let e = transfer-whole (fitted s.roster.size s.covers) m h enough p in
      let z : only_for m.who p (gain m.how m.amount) ≡ 0 = ap (only_for m.who p) none ∙ for-none m.who p in
      omega arith

  module _ (t : List ℕ) (r time n : ℕ) where
    abbrev entry : Kind → Entry
    entry k = record { refusal = r; kind = k; time = time; amount = n }

    abbrev f : Kind → Fields
    f k = fields_of k time n

    abbrev who : Kind → ℕ
    who k = number_of (sender_in b.roster t)

    -- the order that the ticket is about
    abbrev o : Order
    o = order_of b.orders (number_of (order_in b.roster b.orders b.count t))

    sender-room : (k : Kind) (how : Move) → names_sender (terms_of k).subject ≡ true → NoRefusal (finding b (f k) t) → n ≤ most_total
        → Enough how n (cover_of b.covers (who k)) → Room how n (cover_of b.covers (who k))
    sender-room k how named none most enough =
        room-to-move how n (cover_of b.covers (who k)) enough most
        (whole-limited b s (who k) (accepting.sender-found b (f k) t none.r12 named).below)

    sender-known : (k : Kind) → names_sender (terms_of k).subject ≡ true → NoRefusal (finding b (f k) t) → who k < most_participants
    sender-known k named none = participant-below b s (who k) (accepting.sender-found b (f k) t none.r12 named).below

    decided-applicable : (k : Kind) → Tells t (f k) → NoRefusal (finding b (f k) t) → Applicable b (decision_of (sought b (entry k) t))
    decided-applicable kind.CoverIn tells none =
        kept-applicable (entry kind.CoverIn) t _ false Nobody (sender-known kind.CoverIn refl none) tells.most
        (sender-room kind.CoverIn Give refl none tells.most tt) (λ c. never (sym c))
    decided-applicable kind.CoverOut tells none =
        kept-applicable (entry kind.CoverOut) t _ false Nobody (sender-known kind.CoverOut refl none) tells.most
        (sender-room kind.CoverOut Draw refl none tells.most (accepting.cover-there b (f kind.CoverOut) t none.r20 refl))
        (λ c. never (sym c))
    decided-applicable kind.Order tells none =
        record {
          number = accepting.order-room b (f kind.Order) t none.r15 refl;
          txid = length_part 35 38 t (rw tells.whole (omega arith));
          count = inr (refl, refl);
          first = sender-known kind.Order refl none;
          second = omega arith;
          first_most = let m = tells.most in omega arith;
          second_most = omega arith;
          first_room = sender-room kind.Order Reserve refl none (let m = tells.most in omega arith)
              (accepting.cover-there b (f kind.Order) t none.r20 refl);
          second_room = tt;
          waits = λ l w. absurd (omega arith);
          rows = rows-below true t;
          cuts = λ c. never (sym c);
        }
    decided-applicable kind.Yes tells none =
        let h = (accepting.order-found b (f kind.Yes) t none.r16 refl).below in
        let payer = s.orders.payer _ h in
        let payee = s.orders.payee _ h in
        let most : o.amount ≤ most_total = let m = s.orders.most _ h in omega arith in
        let enough = waiting-reserved b s _ h (accepting.status-meets b (f kind.Yes) t none.r18) in
        let m = by o.payer Spend o.amount in
        becomes-applicable (entry kind.Yes) t (status.Settled mark.None b.clock) m (by o.payee Give o.amount) _ refl
        (participant-below b s o.payer payer) most enough (participant-below b s o.payee payee) most
        (room-to-move Give o.amount (cover_of (transferred m b.covers) o.payee) tt most
        (left-limited m payer enough refl o.payee (whole-limited b s o.payee payee)))
    decided-applicable kind.No tells none =
        let h = (accepting.order-found b (f kind.No) t none.r16 refl).below in
        let payer = s.orders.payer _ h in
        let most : o.amount ≤ most_total = let m = s.orders.most _ h in omega arith in
        becomes-applicable (entry kind.No) t status.Refused (by o.payer Release o.amount) nobody _ refl
        (participant-below b s o.payer payer) most
        (room-to-move Release o.amount (cover_of b.covers o.payer)
        (waiting-reserved b s _ h (accepting.status-meets b (f kind.No) t none.r18)) most
        (whole-limited b s o.payer payer))
        (omega arith) (omega arith) tt
    decided-applicable kind.Recall tells none =
        becomes-applicable (entry kind.Recall) t (status.Settled mark.Asked (settled_at o.status)) nobody nobody _ refl
        (omega arith) (omega arith) tt (omega arith) (omega arith) tt
    decided-applicable kind.Return tells none =
        let h = (accepting.order-found b (f kind.Return) t none.r16 refl).below in
        let payer = s.orders.payer _ h in
        let payee = s.orders.payee _ h in
        let most : n ≤ most_total = let m = tells.most in omega arith in
        let enough : n ≤ (cover_of b.covers o.payee).available =
        rw (← accepting.right-party b (f kind.Return) t none.r17 refl) (accepting.cover-there b (f kind.Return) t none.r20 refl) in
        let m = by o.payee Draw n in
        becomes-applicable (entry kind.Return) t (status.Returned (settled_at o.status) n) m (by o.payer Give n) _ refl
        (participant-below b s o.payee payee) most enough (participant-below b s o.payer payer) most
        (room-to-move Give n (cover_of (transferred m b.covers) o.payer) tt most
        (left-limited m payee enough refl o.payer (whole-limited b s o.payer payer)))
    decided-applicable kind.Decline tells none =
        becomes-applicable (entry kind.Decline) t (status.Settled mark.Declined (settled_at o.status)) nobody nobody _ refl
        (omega arith) (omega arith) tt (omega arith) (omega arith) tt
    decided-applicable kind.Inquiry tells none =
        stays-applicable (entry kind.Inquiry) t false (decision_of (sought b (entry kind.Inquiry) t)).told (λ c. never (sym c))
    decided-applicable kind.Cut tells none = stays-applicable (entry kind.Cut) t true Nobody (λ c. refl)
    decided-applicable kind.Confirm tells none = confirms (eqb (cover_of b.covers (who kind.Confirm)).held 0)
      where
        confirms : (z : Bool)
            → Applicable b (order_kept (sought b (entry kind.Confirm) t) (by (who kind.Confirm) (cond z Debit Credit) n) false Nobody)
        confirms true =
            kept-applicable (entry kind.Confirm) t (by (who kind.Confirm) Debit n) false Nobody
            (sender-known kind.Confirm refl none) tells.most
            (sender-room kind.Confirm Debit refl none tells.most tt) (λ c. never (sym c))
        confirms false =
            kept-applicable (entry kind.Confirm) t (by (who kind.Confirm) Credit n) false Nobody
            (sender-known kind.Confirm refl none) tells.most
            (sender-room kind.Confirm Credit refl none tells.most tt) (λ c. never (sym c))
    decided-applicable kind.Tick tells none = stays-applicable (entry kind.Tick) t false Nobody (λ c. never (sym c))

-- what an order's expiry moves has room
pub record Freeable (b : Book) (x : Expiry) : Type 0 where
  pub who : x.freed.who < most_participants
  pub fits : Room x.freed.how x.freed.amount (cover_of b.covers x.freed.who)

pub expiry-fits : (b : Book) → Sound b → (i : ℕ) → i < b.count → Freeable b (expiry_in b i)
expiry-fits b s i h = go (due b.clock o (is_bank b.roster o.payee)) refl
  where
    o : Order
    o = order_of b.orders i

    go : (d : Bool) → due b.clock o (is_bank b.roster o.payee) ≡ d → Freeable b (cond d (expires i o) (stays o))
    go true e =
        let payer = s.orders.payer i h in
        record {
          who = participant-below b s o.payer payer;
          fits =
              room-to-move Release o.amount (cover_of b.covers o.payer)
              (waiting-reserved b s i h (due-waits b.clock o (is_bank b.roster o.payee) e))
              (let m = s.orders.most i h in omega arith) (whole-limited b s o.payer payer);
        }
    go false e = record { who = omega arith; fits = tt }

-- an entry that no refusal from 7 to 11 stopped has what its ticket tells
pub record Entered (clock : ℕ) (t : List ℕ) (e : Entry) : Type 0 where
  pub later : clock ≤ e.time
  pub tells : e.refusal ≡ 0 → Tells t (fields_of e.kind e.time e.amount)

pub entered : (clock : ℕ) (t : List ℕ) → Entered clock t (entry_of clock t)
entered clock t = from-reading (reading t) refl
  where
    from-timing : (f : Fields) → reading t ≡ Ok f → (z : Bool) → ltb f.time clock ≡ z
        → Entered clock t (timed_entry clock f (cond z Early InTime))
    from-timing f e true q = record { later = omega arith; tells = λ (z : ◌≡◌ {A = ℕ} 11 0). absurd (omega arith) }
    from-timing f e false q = record { later = ltb-false f.time clock q; tells = λ z. read-tells t f e }

    from-reading : (r : Result Fields ℕ) → reading t ≡ r → Entered clock t (read_entry clock r)
    from-reading (Ok f) e = from-timing f e (ltb f.time clock) refl
    from-reading (Err n) e = record { later = omega arith; tells = λ (z : n ≡ 0). let h = refused-number t n e in absurd (omega arith) }

-- what is judged of an entry can be carried out
pub judged-applicable : (b : Book) → Sound b → (clock : ℕ) (t : List ℕ) (e : Entry) → Entered clock t e
    → Applicable b (judged e.refusal (sought b e t)).decision
judged-applicable b s clock t e has = go (eqb n 0) refl
  where
    n : ℕ
    n = first_of e.refusal (first_refusal (sought b e t))

    go : (z : Bool) → eqb n 0 ≡ z → Applicable b (cond z (decision_of (sought b e t)) (order_kept (sought b e t) nobody false Nobody))
    go true q =
        let both = both-none e.refusal (first_refusal (sought b e t)) (eqb-true n 0 q) in
        decided-applicable b s t e.refusal e.time e.amount e.kind (has.tells both.0)
        (none-applies (finding b (fields_of e.kind e.time e.amount) t)
        (sym (sought-refuses (unswept b) t e.refusal e.time e.amount e.kind) ∙ both.1))
    go false q = stays-applicable b s e t false Nobody (λ c. refl)
