-- What is found of a ticket by TxId alone and by payer and TxId: the same order, and then the same step.
-- Assumes nothing.
use Rattle.std.specs.Prelude.{Option}
use mathlib.Core.Path.{◌≡◌, refl, sym, ◌∙◌, ap}
use mathlib.Core.Bool.{Bool, true, false, ◌&&◌, cond, and-false}
use mathlib.Core.List.{List}
use Prim.Native.Nat.{ℕ, ◌<◌}
use lib.Dec.{eqb}
use Rattle.fields.specs.Text.{same}
use Rattle.fields.specs.Search.{first_to, number_of}
use Rattle.fields.proofs.Finding.{first-same}
use Rattle.fields.proofs.Tests.{never}
use Rattle.ticket.specs.TicketLayout.{sender_of, payer_of, txid_field}
use Rattle.ticket.specs.declared.Fields.{Fields}
use Rattle.ticket.specs.declared.kinds.Kind.{Kind}
use Rattle.ticket.specs.declared.kinds.Kind.TheVariants as kind
use Rattle.dayfile.specs.Roster.{participant_of}
use Rattle.dayfile.specs.declared.roster.Roster.{Roster}
use Rattle.rules.specs.Book.{order_of, cover_of, is_bank}
use Rattle.rules.specs.Cover.{total}
use Rattle.rules.specs.Terms.{terms_of, names_order}
use Rattle.rules.specs.Tick.{Step}
use Rattle.rules.specs.Find.{sender_in, has_key, order_in, route_in, way_in, any_open, finding_of}
use Rattle.rules.specs.Refusal.{first_refusal}
use Rattle.rules.specs.Decision.{nobody, order_kept, inquiry_answer}
use Rattle.rules.specs.Step.{ticked, accepted, decided}
use Rattle.rules.specs.declared.finding.Finding.{Finding}
use Rattle.rules.specs.declared.decision.Told.{Told}
use Rattle.rules.specs.declared.Recall.TheVariants as mark
use Rattle.rules.specs.declared.Status.{Status}
use Rattle.rules.specs.declared.Status.TheVariants as status
use Rattle.rules.specs.declared.Order.{Order}
use Rattle.rules.specs.declared.Book.{Book}
use Rattle.by_txid.specs.StepBy.{order_by_txid}
use Rattle.dayfile.specs.declared.route.Way.{Way}

-- each order with the TxId has the payer too
pub order_alike : (r : Roster) (os : List Order) (count : ℕ) (t u : List ℕ) → txid_field u ≡ txid_field t
    → ((i : ℕ) → i < count → same (order_of os i).txid (txid_field t) ≡ true
    → same (participant_of r (order_of os i).payer).bic (payer_of u) ≡ true)
    → order_by_txid r os count t ≡ order_in r os count u
unfolding order_by_txid order_in
order_alike r os count t u txid payer =
    first-same (λ i. same (order_of os i).txid (txid_field t)) (λ i. has_key r (payer_of u) (txid_field u) (order_of os i)) count
    (λ i l.
    go (same (participant_of r (order_of os i).payer).bic (payer_of u)) (same (order_of os i).txid (txid_field t)) refl (payer i l)
    ∙ ap (λ (s : List ℕ). same (participant_of r (order_of os i).payer).bic (payer_of u) && same (order_of os i).txid s) (sym txid))
  where
    go : (p x : Bool) {y : Bool} → y ≡ x → (y ≡ true → p ≡ true) → y ≡ (p && y)
    go p true e h = rw (h e)
    go p false e h = rw (e, and-false)

-- where a kind opens no order, nothing looks at the route row of bytes 27 to 37
module _ (w : Step) (b : Book) (order : Option ℕ) (n : ℕ) (txid : List ℕ) (sender : Option ℕ) where
  abbrev found : Kind → Option ℕ → Option Way → Finding
  found k route way =
      record {
        kind = k;
        amount = n;
        clock = b.clock;
        txid = txid;
        sender = sender;
        cover = cover_of b.covers (number_of sender);
        order = order;
        about = order_of b.orders (number_of order);
        bank = is_bank b.roster (order_of b.orders (number_of order)).payee;
        route = route;
        way = way;
        count = b.count;
        unconfirmed = any_open b;
        total = total b;
      }

  -- an inquiry's answer goes by the order
  answer-same : (r r' : Option ℕ) (v v' : Option Way) (s : Status)
      → inquiry_answer (found kind.Inquiry r v) s ≡ inquiry_answer (found kind.Inquiry r' v') s
  answer-same r r' v v' status.Waiting = refl
  answer-same r r' v v' status.Refused = refl
  answer-same r r' v v' status.Expired = refl
  answer-same r r' v v' (status.Returned at n) = refl
  answer-same r r' v v' (status.Settled mark.None at) = refl
  answer-same r r' v v' (status.Settled mark.Asked at) = refl
  answer-same r r' v v' (status.Settled mark.Declined at) = refl

  unrouted : (k : Kind) → names_order (terms_of k).subject ≡ true → (r r' : Option ℕ) (v v' : Option Way)
      → decided w (found k r v) ≡ decided w (found k r' v')
  unrouted kind.CoverIn e r r' v v' = never (sym e)
  unrouted kind.CoverOut e r r' v v' = never (sym e)
  unrouted kind.Order e r r' v v' = never (sym e)
  unrouted kind.Yes e r r' v v' = refl
  unrouted kind.No e r r' v v' = refl
  unrouted kind.Recall e r r' v v' = refl
  unrouted kind.Return e r r' v v' = refl
  unrouted kind.Decline e r r' v v' = refl
  unrouted kind.Inquiry e r r' v v' =
      let x = found kind.Inquiry r v in
      ap (λ (told : Told). cond (eqb (first_refusal x) 0) (accepted w (order_kept x nobody false told)) (ticked w (first_refusal x)))
      (answer-same r r' v v' x.about.status)
  unrouted kind.Cut e r r' v v' = never (sym e)
  unrouted kind.Confirm e r r' v v' = never (sym e)
  unrouted kind.Tick e r r' v v' = never (sym e)

sender-alike : (r : Roster) (t u : List ℕ) → sender_of u ≡ sender_of t → sender_in r u ≡ sender_in r t
unfolding sender_in
sender-alike r t u e = ap (λ (s : List ℕ). first_to (λ p. same (participant_of r p).bic s) r.size) e

-- kinds 4 to 8: the same order found, the same sender and TxId
pub decided-alike : (w : Step) (b : Book) (f : Fields) (order order' : Option ℕ) (t u : List ℕ) → order ≡ order'
    → txid_field u ≡ txid_field t → sender_of u ≡ sender_of t → names_order (terms_of f.kind).subject ≡ true
    → decided w (finding_of order b f t) ≡ decided w (finding_of order' b f u)
decided-alike w b f order order' t u is txid sender names =
    ap (λ (o : Option ℕ). decided w (finding_of o b f t)) is
    ∙ unrouted w b order' f.amount (txid_field t) (sender_in b.roster t) f.kind names
    (route_in b.roster t) (route_in b.roster u) (way_in b.roster t) (way_in b.roster u)
    ∙ (λ j. decided w
    (found w b order' f.amount (sym txid j) (sym (sender-alike b.roster t u sender) j) f.kind
    (route_in b.roster u) (way_in b.roster u)))
