-- Every step keeps a book sound, whatever the ticket. Assumes nothing.
use mathlib.Core.Path.{◌≡◌, refl, sym, ◌∙◌, ap, ap₂}
use mathlib.Core.Bool.{Bool, true, false, ◌&&◌, cond}
use mathlib.Core.List.{List}
use Prim.Native.Nat.{ℕ, ◌+◌, ◌≤◌, ◌<◌}
use native.Mathlib.Omega.{arith}
use lib.Dec.{eqb}
use lib.Seq.{set-get_or}
use Rattle.fields.proofs.UpTo.{none-at}
use Rattle.fields.proofs.Stores.{length_part}
use Rattle.fields.proofs.Tests.{never}
use Rattle.fields.specs.Text.{same}
use Rattle.ticket.specs.TicketLayout.{sender_of, txid_field}
use Rattle.ticket.specs.declared.Fields.{Fields}
use Rattle.ticket.specs.declared.kinds.Kind.{Kind}
use Rattle.ticket.specs.declared.kinds.Kind.TheVariants as kind
use Rattle.ticket.proofs.TicketTelling.{Tells, listed-txid, payer-named}
use Rattle.dayfile.specs.Roster.{participant_of}
use Rattle.dayfile.specs.DayFile.{day_file}
use Rattle.dayfile.proofs.Accepted.{guaranteed}
use Rattle.rules.specs.Book.{no_order, order_of, cover_of, with_covers, book_of}
use Rattle.rules.specs.Status.{is_waiting, is_unmarked, is_asked, settled_at}
use Rattle.rules.specs.Cover.{transferred, total, most_total}
use Rattle.rules.specs.Tick.{Step, tick}
use Rattle.rules.specs.Find.{is_open, any_open, finding}
use Rattle.rules.specs.Cut.{cut_to}
use Rattle.rules.specs.Decision.{by, nobody, order_kept, new_order, confirm_move, decision_of, applied}
use Rattle.rules.specs.Step.{step_of, handed}
use Rattle.rules.specs.Sound.{StatusSound, same_key, Sound}
use Rattle.rules.specs.declared.decision.Move.TheVariants.{Give, Draw, Credit, Debit}
use Rattle.rules.specs.declared.decision.Transfer.{Transfer}
use Rattle.rules.specs.declared.decision.Told.{Told}
use Rattle.rules.specs.declared.Recall.TheVariants as mark
use Rattle.rules.specs.declared.Status.{Status}
use Rattle.rules.specs.declared.Status.TheVariants as status
use Rattle.rules.specs.declared.Order.{Order}
use Rattle.rules.specs.declared.Cover.{Cover}
use Rattle.rules.specs.declared.Book.{Book}
use Rattle.rules.proofs.CoverMoving.{nobody-moves}
use Rattle.rules.proofs.SoundKeeping as keeping
use Rattle.rules.proofs.Cutting.{Closed, closed, cut-sound}
use Rattle.rules.proofs.Refusing.{NoRefusal}
use Rattle.rules.proofs.Accepting.{fields_of}
use Rattle.rules.proofs.Accepting as accepting
use Rattle.rules.proofs.Senders.{swapped, who-sends}
use Rattle.rules.proofs.SweepSound.{tick-swept}
use Rattle.rules.proofs.Courses.{step-goes, handed-goes}

-- an order that is ready for a recall, or for a return or a decline, does not wait
pub unmarked-not-waiting : (s : Status) → is_unmarked s ≡ true → is_waiting s ≡ false
unmarked-not-waiting status.Waiting e = sym e
unmarked-not-waiting status.Refused e = refl
unmarked-not-waiting status.Expired e = refl
unmarked-not-waiting (status.Returned at n) e = refl
unmarked-not-waiting (status.Settled m at) e = refl

pub asked-not-waiting : (s : Status) → is_asked s ≡ true → is_waiting s ≡ false
asked-not-waiting status.Waiting e = sym e
asked-not-waiting status.Refused e = refl
asked-not-waiting status.Expired e = refl
asked-not-waiting (status.Returned at n) e = refl
asked-not-waiting (status.Settled m at) e = refl

-- the settlement time of an order whose status passes a test that Waiting, Refused and Expired fail is from the order's time to the clock
settled-between : (b : Book) → Sound b → (i : ℕ) → i < b.count → let o = order_of b.orders i in
    (test : Status → Bool) → test status.Waiting ≡ false → test status.Refused ≡ false → test status.Expired ≡ false
    → test o.status ≡ true
    → (o.time ≤ settled_at o.status) × (settled_at o.status ≤ b.clock)
settled-between b s i h test waiting refused expired passes = go (order_of b.orders i).status passes (s.orders.status i h)
  where
    go : (u : Status) → test u ≡ true → StatusSound (order_of b.orders i).amount (order_of b.orders i).time b.clock u
        → ((order_of b.orders i).time ≤ settled_at u) × (settled_at u ≤ b.clock)
    go status.Waiting e w = never (sym e ∙ waiting)
    go status.Refused e w = never (sym e ∙ refused)
    go status.Expired e w = never (sym e ∙ expired)
    go (status.Returned at n) e w = (w.0, w.1)
    go (status.Settled m at) e w = w

-- a decision that keeps the order: one cover moves
kept-applied : (b : Book) (f : Fields) (t : List ℕ) (m : Transfer) (told : Told)
    → applied b (order_kept (finding b f t) m false told) ≡ with_covers b (transferred m b.covers)
kept-applied b f t m told =
    ap₂ (λ (cs : List Cover) (os : List Order). record { clock = b.clock; covers = cs; orders = os; count = b.count; roster = b.roster })
    (nobody-moves (transferred m b.covers))
    (set-get_or b.orders (accepting.order_number b f t) no_order)

-- and where none moves, the book is as it was
same-applied : (b : Book) (f : Fields) (t : List ℕ) (told : Told) → applied b (order_kept (finding b f t) nobody false told) ≡ b
same-applied b f t told = kept-applied b f t nobody told ∙ ap (with_covers b) (nobody-moves b.covers)

cut-applied : (b : Book) (f : Fields) (t : List ℕ) (told : Told)
    → applied b (order_kept (finding b f t) nobody true told) ≡ with_covers b (cut_to b.roster b.covers b.roster.size)
cut-applied b f t told =
    ap₂
    (λ (cs : List Cover) (os : List Order).
    record { clock = b.clock; covers = cut_to b.roster cs b.roster.size; orders = os; count = b.count; roster = b.roster })
    (nobody-moves (transferred nobody b.covers) ∙ nobody-moves b.covers)
    (set-get_or b.orders (accepting.order_number b f t) no_order)

-- where nothing is open anywhere, each is closed
pub all_closed : (b : Book) → any_open b ≡ false → (p : ℕ) → p < b.roster.size → Closed (cover_of b.covers p)
unfolding any_open
all_closed b e p h = closed (cover_of b.covers p) (none-at (λ q. is_open (cover_of b.covers q)) b.roster.size p e h)

module _ (b : Book) (s : Sound b) (n time : ℕ) (t : List ℕ) where
  -- a cover moves, and nothing is reserved or freed
  confirm-sound : (p : ℕ) → p < b.roster.size → (eqb (cover_of b.covers p).held 0 ≡ true → total b + n ≤ most_total)
      → Sound (with_covers b (transferred (by p (cond (eqb (cover_of b.covers p).held 0) Debit Credit) n) b.covers))
  unfolding total
  confirm-sound p h limit = go (eqb (cover_of b.covers p).held 0) refl
    where
      go : (x : Bool) → eqb (cover_of b.covers p).held 0 ≡ x
          → Sound (with_covers b (transferred (by p (cond x Debit Credit) n) b.covers))
      go true e = keeping.moved-sound b s (by p Debit n) h tt (λ q. refl) (limit e)
      go false e = keeping.moved-sound b s (by p Credit n) h tt (λ q. refl) (let l = s.limited in omega arith)

  -- no order that is held has the payer and the TxId of a new one
  key-new : let f = fields_of kind.Order time n in
      Tells t f → NoRefusal (finding b f t) → (i : ℕ) → i < b.count → same_key (order_of b.orders i) (new_order (finding b f t)) ≡ false
  key-new tells r i h =
      let f = fields_of kind.Order time n in
      let p = (order_of b.orders i).payer in
      let sender = accepting.sender_number b f t in
      let found = accepting.sender-found b f t r.r12 refl in
      let sends = who-sends b.roster s.roster (sender_of t) sender found p (s.orders.payer i h) in
      ap (λ (x : Bool). x && same (order_of b.orders i).txid (txid_field t))
      (swapped p sender ∙ sym sends ∙ ap (same (participant_of b.roster p).bic) (sym (payer-named t kind.Order tells.kind)))
      ∙ accepting.key-free b f t r.r13 refl i h

  -- the ticket's own step
  pub own-sound : (k : Kind) → Tells t (fields_of k time n) → NoRefusal (finding b (fields_of k time n) t)
      → Sound (applied b (decision_of (finding b (fields_of k time n) t)))
  unfolding total
  own-sound kind.CoverIn tells r =
      let f = fields_of kind.CoverIn time n in
      rw (kept-applied b f t (by (accepting.sender_number b f t) Give n) Told.Nobody)
      (keeping.moved-sound b s (by (accepting.sender_number b f t) Give n) (accepting.sender-found b f t r.r12 refl).below tt (λ p. refl)
      (accepting.limit-kept b f t r.r22 refl))
  own-sound kind.CoverOut tells r =
      let f = fields_of kind.CoverOut time n in
      rw (kept-applied b f t (by (accepting.sender_number b f t) Draw n) Told.Nobody)
      (keeping.moved-sound b s (by (accepting.sender_number b f t) Draw n) (accepting.sender-found b f t r.r12 refl).below
      (accepting.cover-there b f t r.r20 refl) (λ p. refl) (let l = s.limited in omega arith))
  own-sound kind.Order tells r =
      let f = fields_of kind.Order time n in
      rw (nobody-moves (transferred (by (accepting.sender_number b f t) _ n) b.covers))
      (keeping.opened-sound b s (new_order (finding b f t))
      (record {
        room = accepting.order-room b f t r.r15 refl;
        payer = (accepting.sender-found b f t r.r12 refl).below;
        payee = accepting.payee-known b f t s.roster r.r14 refl;
        least = tells.least;
        most = tells.most;
        status = tt;
        padded = length_part 35 38 t (rw tells.whole (omega arith));
        txid = listed-txid t f tells refl;
        fresh = key-new tells r;
        time = refl;
      })
      (accepting.cover-there b f t r.r20 refl) refl)
  own-sound kind.Yes tells r =
      let f = fields_of kind.Yes time n in
      keeping.settled-sound b s (accepting.order_number b f t) (accepting.order-found b f t r.r16 refl).below
      (status.Settled mark.None b.clock) refl
      (s.orders.early (accepting.order_number b f t) (accepting.order-found b f t r.r16 refl).below, omega arith)
      (accepting.status-meets b f t r.r18)
  own-sound kind.No tells r =
      let f = fields_of kind.No time n in
      rw (nobody-moves _)
      (keeping.freed-sound b s (accepting.order_number b f t) (accepting.order-found b f t r.r16 refl).below status.Refused refl tt
      (accepting.status-meets b f t r.r18))
  own-sound kind.Recall tells r =
      let f = fields_of kind.Recall time n in
      rw (nobody-moves (transferred nobody b.covers), nobody-moves b.covers)
      (keeping.remarked-sound b s (accepting.order_number b f t) (accepting.order-found b f t r.r16 refl).below
      (status.Settled mark.Asked (settled_at (accepting.the_order b f t).status)) refl
      (settled-between b s (accepting.order_number b f t) (accepting.order-found b f t r.r16 refl).below is_unmarked refl refl refl
      (accepting.status-meets b f t r.r18))
      (unmarked-not-waiting (accepting.the_order b f t).status (accepting.status-meets b f t r.r18)))
  own-sound kind.Return tells r =
      let f = fields_of kind.Return time n in
      keeping.returned-sound b s (accepting.order_number b f t) (accepting.order-found b f t r.r16 refl).below
      (status.Returned (settled_at (accepting.the_order b f t).status) n) refl
      (let at = settled-between b s (accepting.order_number b f t) (accepting.order-found b f t r.r16 refl).below is_asked refl refl refl
      (accepting.status-meets b f t r.r18) in
      (at.0, at.1, tells.least, accepting.order-covers b f t r.r19 refl))
      (asked-not-waiting (accepting.the_order b f t).status (accepting.status-meets b f t r.r18)) n
      (rw (← accepting.right-party b f t r.r17 refl) (accepting.cover-there b f t r.r20 refl))
  own-sound kind.Decline tells r =
      let f = fields_of kind.Decline time n in
      rw (nobody-moves (transferred nobody b.covers), nobody-moves b.covers)
      (keeping.remarked-sound b s (accepting.order_number b f t) (accepting.order-found b f t r.r16 refl).below
      (status.Settled mark.Declined (settled_at (accepting.the_order b f t).status)) refl
      (settled-between b s (accepting.order_number b f t) (accepting.order-found b f t r.r16 refl).below is_asked refl refl refl
      (accepting.status-meets b f t r.r18))
      (asked-not-waiting (accepting.the_order b f t).status (accepting.status-meets b f t r.r18)))
  own-sound kind.Inquiry tells r = rw (same-applied b (fields_of kind.Inquiry time n) t _) s
  own-sound kind.Cut tells r =
      let c = cut-sound b.roster s.roster.size s.covers (all_closed b r.r21) b.roster.size (omega arith) in
      rw (cut-applied b (fields_of kind.Cut time n) t Told.Nobody)
      (keeping.covers-sound b s _ c.sound (let e = c.total in let l = s.limited in omega arith))
  own-sound kind.Confirm tells r =
      let f = fields_of kind.Confirm time n in
      rw (kept-applied b f t (by (accepting.sender_number b f t) (confirm_move (finding b f t)) n) Told.Nobody)
      (confirm-sound (accepting.sender_number b f t) (accepting.sender-found b f t r.r12 refl).below
      (λ z. accepting.limit-kept b f t r.r22 z))
  own-sound kind.Tick tells r = rw (same-applied b (fields_of kind.Tick time n) t Told.Nobody) s

module _ (b : Book) (s : Sound b) (t : List ℕ) where
  turned-sound : (n : ℕ) → 6 ≤ n → n ≤ 11 → Sound b
  turned-sound n low high = s

  refused-sound : (f : Fields) → Tells t f → b.clock ≤ f.time → (n : ℕ) → 12 ≤ n → Sound (tick b f.time).book
  refused-sound f tells l n low = (tick-swept b s f.time l).sound

  taken-sound : (f : Fields) → Tells t f → b.clock ≤ f.time → NoRefusal (finding (tick b f.time).book f t)
      → Sound (applied (tick b f.time).book (decision_of (finding (tick b f.time).book f t)))
  taken-sound f tells l none =
      own-sound (tick b f.time).book (tick-swept b s f.time l).sound f.amount f.time t f.kind tells none

  pub step-sound : Sound (step_of b t).book
  step-sound = step-goes b t (λ (w : Step). Sound w.book) turned-sound refused-sound taken-sound

  pub handed-sound : (buffer : List ℕ) → Sound (handed b t buffer).book
  handed-sound = handed-goes b t (λ (w : Step). Sound w.book) turned-sound refused-sound taken-sound

-- the fresh book of any day file, refused ones included
pub file-sound : (file : List ℕ) → Sound (book_of file)
file-sound file = keeping.fresh-sound (day_file file).roster (guaranteed file)
