-- One ticket by TxId alone, and the ticket in its place by payer and TxId: the step is the same. Assumes nothing.
use Rattle.std.specs.Prelude.{Option, Some}
use mathlib.Core.Path.{◌≡◌, refl, sym, ◌∙◌, ap, subst}
use mathlib.Core.Bool.{Bool, true, false, cond}
use mathlib.Core.List.{List}
use mathlib.Core.Logic.{⊎_elim}
use Prim.Native.Nat.{ℕ, ◌≤◌, ◌<◌}
use native.Mathlib.Omega.{arith}
use borrow.Author.Tests.{ne_eqb}
use lib.Dec.{eqb}
use lib.ListN.{length}
use Rattle.codes.specs.Bic.{is_bic}
use Rattle.codes.specs.Txid.{is_txid}
use Rattle.fields.specs.Text.{same, unpadded}
use Rattle.fields.proofs.Same.{same_refl, same_true}
use Rattle.fields.proofs.Tests.{never}
use Rattle.ticket.specs.TicketLayout.{kind_byte, sender_of, payee_of, payer_of, txid_field}
use Rattle.ticket.specs.Kind.{kind_number}
use Rattle.ticket.specs.Form.{form_of}
use Rattle.ticket.specs.declared.Fields.{Fields}
use Rattle.ticket.specs.declared.kinds.Kind.{Kind}
use Rattle.ticket.specs.declared.kinds.Kind.TheVariants as kind
use Rattle.ticket.proofs.TicketTelling.{Tells, tells-shape, tells-bytes, payer-named}
use Rattle.dayfile.specs.Roster.{participant_of}
use Rattle.dayfile.specs.declared.roster.Roster.{Roster}
use Rattle.rules.specs.Book.{order_of}
use Rattle.rules.specs.Terms.{terms_of, names_order}
use Rattle.rules.specs.Tick.{tick}
use Rattle.rules.specs.Find.{order_in, finding_of}
use Rattle.rules.specs.Step.{decided, handed}
use Rattle.rules.specs.Inputs.{Input}
use Rattle.rules.specs.Sound.{Sound}
use Rattle.rules.specs.declared.Book.{Book}
use Rattle.rules.proofs.SweepSound.{tick-swept}
use Rattle.by_txid.specs.FormByTxid.{form_by_txid}
use Rattle.by_txid.specs.StepBy.{order_by_txid, handed_by_txid}
use Rattle.by_txid.specs.OldLists.{ticket_of, about_order, OrderTicket, OnePayer, with_payer, NamedIf}
use Rattle.by_txid.proofs.ReadingAlike.{reading-alike}
use Rattle.by_txid.proofs.TicketsAlike as tickets
use Rattle.by_txid.proofs.StepsAlike.{handed-alike}
use Rattle.by_txid.proofs.SearchesAlike.{order_alike, decided-alike}
use Rattle.by_txid.proofs.Sources.{Source, Sourced, tick-sourced}

-- t is ticket n of the list; the book's orders came from tickets of the list
module _ (xs : List Input) (old : OnePayer xs) (n : ℕ) (inside : n < length xs) (r : Roster) (b : Book) (s : Sound b)
    (c : Sourced xs r b) where
  abbrev t : List ℕ
  t = ticket_of xs n

  -- after the expiries
  abbrev ticked : Fields → Book
  ticked f = (tick b f.time).book

  module _ (f : Fields) (l : b.clock ≤ f.time) where
    source : (i : ℕ) → i < (ticked f).count → Source xs r (order_of (ticked f).orders i)
    source = (tick-sourced xs r b s c f.time l).source

    -- the test for the payer
    has-payer : (i : ℕ) (payer : List ℕ) → payer ≡ (participant_of r (order_of (ticked f).orders i).payer).bic
        → same (participant_of (ticked f).roster (order_of (ticked f).orders i).payer).bic payer ≡ true
    has-payer i payer is =
        let p = (order_of (ticked f).orders i).payer in
        let rosters = (tick-sourced xs r b s c f.time l).roster in
        subst (λ (s : List ℕ). same (participant_of (ticked f).roster p).bic s ≡ true)
        (ap (λ (q : Roster). (participant_of q p).bic) rosters ∙ sym is) (same_refl (participant_of (ticked f).roster p).bic)

  -- a ticket of kinds 4 to 8, with its payer
  module _ (about : about_order t ≡ true) (payer : List ℕ) (bic : is_bic payer ≡ true)
      (sender : (i : ℕ) → i < length xs → OrderTicket (ticket_of xs i) → txid_field (ticket_of xs i) ≡ txid_field t
      → payer ≡ sender_of (ticket_of xs i)) where
    abbrev u : List ℕ
    u = with_payer t payer

    names : (f : Fields) → Tells u f → names_order (terms_of f.kind).subject ≡ true
    names f tells =
        let k = (tells-bytes u f tells).number in
        let same_kind = tickets.kind-kept t payer about bic in
        let bytes = tickets.about-bytes t about in
        let low = bytes.low in
        let high = bytes.high in
        tickets.about-kind f.kind (omega arith) (omega arith)

    payer-is : payer_of u ≡ payer
    payer-is =
        let same_kind = tickets.kind-kept t payer about bic in
        let low = (tickets.about-bytes t about).low in
        ap (λ (z : Bool). cond z (sender_of u) (payee_of u)) (ne_eqb (kind_byte u) 3 (λ e. omega arith))
        ∙ tickets.payer-written t payer about bic

    -- an order with the TxId has the payer
    payer-found : (f : Fields) → b.clock ≤ f.time → (i : ℕ) → i < (ticked f).count
        → same (order_of (ticked f).orders i).txid (txid_field t) ≡ true
        → same (participant_of (ticked f).roster (order_of (ticked f).orders i).payer).bic (payer_of u) ≡ true
    payer-found f l i h e =
        let from = source f l i h in
        let o = order_of (ticked f).orders i in
        has-payer f l i (payer_of u)
        (payer-is ∙ sender from.at from.inside from.ticket (from.txid ∙ same_true o.txid (txid_field t) e) ∙ from.sender)

    about-step : (buffer : List ℕ) → handed_by_txid b t buffer ≡ handed b u buffer
    about-step =
        handed-alike form_by_txid order_by_txid b t u
        (reading-alike form_by_txid t u (tickets.alike t payer about bic (old.zeros n inside about)))
        (λ f tells l.
        let w = tick b f.time in
        let v = w.book in
        decided-alike w v f (order_by_txid v.roster v.orders v.count t) (order_in v.roster v.orders v.count u) t u
        (order_alike v.roster v.orders v.count t u (tickets.txid-kept t payer about bic) (payer-found f l))
        (tickets.txid-kept t payer about bic) (tickets.sender-kept t payer about bic) (names f tells))

  -- any other ticket
  module _ (other : about_order t ≡ false) where
    -- an order with the TxId of an order ticket has its payer; no order has that of a kind that lists none
    payer-same : (f : Fields) → Tells t f → b.clock ≤ f.time → (i : ℕ) → i < (ticked f).count
        → same (order_of (ticked f).orders i).txid (txid_field t) ≡ true
        → same (participant_of (ticked f).roster (order_of (ticked f).orders i).payer).bic (payer_of t) ≡ true
    payer-same f tells l i h e =
        let from = source f l i h in
        let o = order_of (ticked f).orders i in
        let is = same_true o.txid (txid_field t) e in
        ⊎_elim
        (λ (order : f.kind ≡ kind.Order).
        let payer-is : payer_of t ≡ sender_of t =
        payer-named t f.kind tells.kind ∙ ap (λ (k : Kind). cond (eqb (kind_number k) 3) (sender_of t) (payee_of t)) order in
        has-payer f l i (payer_of t)
        (payer-is
        ∙ sym (old.payer from.at n from.inside inside from.ticket (tells-shape t f tells ∙ ap Some order) (from.txid ∙ is))
        ∙ from.sender))
        (λ (unlisted : (form_of f.kind).txid ≡ false).
        never
        (sym ((tick-swept b s f.time l).sound.orders.txid i h) ∙ ap (λ (x : List ℕ). is_txid (unpadded x)) is
        ∙ tickets.unlisted-txid t f tells unlisted))
        (tickets.other-kind t other f.kind tells.whole (tells-bytes t f tells).number)

    other_step : (buffer : List ℕ) → handed_by_txid b t buffer ≡ handed b t buffer
    other_step =
        handed-alike form_by_txid order_by_txid b t t (reading-alike form_by_txid t t (tickets.other-alike t other))
        (λ f tells l.
        let w = tick b f.time in
        let v = w.book in
        ap (λ (o : Option ℕ). decided w (finding_of o v f t))
        (order_alike v.roster v.orders v.count t t refl (payer-same f tells l)))

  -- u stands in its place
  module _ (u : List ℕ) where
    pub step_same : (buffer : List ℕ) (x : Bool) → about_order t ≡ x → NamedIf x xs t u → handed_by_txid b t buffer ≡ handed b u buffer
    step_same buffer true about named =
        about-step about named.payer named.bic named.sender buffer
        ∙ ap (λ (v : List ℕ). handed b v buffer) (sym named.written)
    step_same buffer false other is = other_step other buffer ∙ ap (λ (v : List ℕ). handed b v buffer) (sym is)

    pub order-here : (x : Bool) → about_order t ≡ x → NamedIf x xs t u → (f : Fields) → Tells u f → f.kind ≡ kind.Order → t ≡ u
    order-here true about named f tells order =
        let told = subst (λ (v : List ℕ). Tells v f) named.written tells in
        let names-order = names about named.payer named.bic named.sender f told in
        never (sym names-order ∙ ap (λ (k : Kind). names_order (terms_of k).subject) order)
    order-here false other is f tells order = sym is
