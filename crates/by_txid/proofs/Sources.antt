-- Which order ticket of a list each order in the book came from, and that no step loses that.
--     Source     the ticket: one of the list that passes 7, with the order's TxId and its payer's BIC as sender
--     Sourced    the book has the day's roster, and each of its orders came from a ticket of the list
-- Assumes nothing.
use mathlib.Core.Path.{◌≡◌, refl, sym, ◌∙◌, ap}
use mathlib.Core.Bool.{Bool, true, false}
use mathlib.Core.List.{List}
use mathlib.Core.Logic.{⊎_elim}
use Prim.Native.Nat.{ℕ, ◌+◌, ◌≤◌, ◌<◌}
use native.Mathlib.Omega.{arith}
use lib.ListN.{length, set}
use lib.Seq.{get_or-set_same, get_or-set_other, set-get_or}
use Rattle.fields.proofs.Compared.{same_or_not}
use Rattle.fields.proofs.Same.{same_true}
use Rattle.ticket.specs.TicketLayout.{sender_of, txid_field}
use Rattle.ticket.specs.declared.Fields.{Fields}
use Rattle.ticket.specs.declared.kinds.Kind.{Kind}
use Rattle.ticket.specs.declared.kinds.Kind.TheVariants as kind
use Rattle.ticket.proofs.TicketTelling.{Tells, tells-shape}
use Rattle.dayfile.specs.Roster.{participant_of}
use Rattle.dayfile.specs.declared.roster.Roster.{Roster}
use Rattle.rules.specs.Book.{no_order, order_of}
use Rattle.rules.specs.Status.{with_status}
use Rattle.rules.specs.Tick.{Step, at_time, tick}
use Rattle.rules.specs.Find.{finding}
use Rattle.rules.specs.Decision.{new_order, decision_of, applied}
use Rattle.rules.specs.Step.{handed}
use Rattle.rules.specs.Inputs.{Input}
use Rattle.rules.specs.Sound.{Sound}
use Rattle.rules.specs.declared.Status.{Status}
use Rattle.rules.specs.declared.Status.TheVariants as status
use Rattle.rules.specs.declared.Order.{Order}
use Rattle.rules.specs.declared.Book.{Book}
use Rattle.rules.proofs.Refusing.{NoRefusal}
use Rattle.rules.proofs.Accepting.{fields_of}
use Rattle.rules.proofs.Accepting as accepting
use Rattle.rules.proofs.Expiring.{due_in, expired_if, tick-expires}
use Rattle.rules.proofs.SweepSound.{tick-swept}
use Rattle.rules.proofs.Courses.{handed-goes}
use Rattle.by_txid.specs.OldLists.{ticket_of, OrderTicket}

pub record Source (xs : List Input) (r : Roster) (o : Order) : Type 0 where
  pub at : ℕ
  pub inside : at < length xs
  pub ticket : OrderTicket (ticket_of xs at)
  pub txid : txid_field (ticket_of xs at) ≡ o.txid
  pub sender : sender_of (ticket_of xs at) ≡ (participant_of r o.payer).bic

-- of each order in use
pub record Sourced (xs : List Input) (r : Roster) (b : Book) : Type 0 where
  pub roster : b.roster ≡ r
  pub source : (i : ℕ) → i < b.count → Source xs r (order_of b.orders i)

module _ (xs : List Input) (r : Roster) where
  -- whatever its status
  status-sourced : (o : Order) (s : Status) → Source xs r o → Source xs r (with_status o s)
  status-sourced o s from =
      record { at = from.at; inside = from.inside; ticket = from.ticket; txid = from.txid; sender = from.sender }

  -- the expiries
  pub tick-sourced : (b : Book) → Sound b → Sourced xs r b → (time : ℕ) → b.clock ≤ time → Sourced xs r (tick b time).book
  tick-sourced b s c time l =
      let x = tick-expires b s time l in
      record {
        roster = x.roster ∙ c.roster;
        source = λ i h.
            let below : i < b.count = let e = x.count in omega arith in
            rw (x.order i below) (go i below (due_in (at_time b time) i));
      }
    where
      go : (i : ℕ) → i < b.count → (d : Bool) → Source xs r (expired_if d (order_of b.orders i))
      go i h true = status-sourced (order_of b.orders i) status.Expired (c.source i h)
      go i h false = c.source i h

-- the ticket's own step: u is ticket n of the list if it is an order ticket
module _ (xs : List Input) (n : ℕ) (inside : n < length xs) (r : Roster) (u : List ℕ)
    (here : (f : Fields) → Tells u f → f.kind ≡ kind.Order → ticket_of xs n ≡ u) where
  module _ (w : Book) (s : Sound w) (c : Sourced xs r w) (time m : ℕ) where
    -- what is written back leaves each order
    kept : (j i : ℕ) → i < w.count → Source xs r (order_of (set w.orders j (order_of w.orders j)) i)
    kept j i h = rw (set-get_or w.orders j no_order) (c.source i h)

    -- an order is written
    changed : (j : ℕ) (o : Order) (i : ℕ) → i < 256 → (i ≡ j → Source xs r o)
        → ((i ≡ j → ⊥) → Source xs r (order_of w.orders i)) → Source xs r (order_of (set w.orders j o) i)
    changed j o i h own other =
        ⊎_elim
        (λ (e : i ≡ j).
        let is = get_or-set_same w.orders i o no_order (rw s.orders.long (omega arith)) in
        rw (← e, is) (own e))
        (λ (k : i ≡ j → ⊥). rw (get_or-set_other w.orders j i o no_order k) (other k))
        (same_or_not i j)

    -- it has another status
    becomes : (j : ℕ) (t : Status) (i : ℕ) → i < w.count
        → Source xs r (order_of (set w.orders j (with_status (order_of w.orders j) t)) i)
    becomes j t i h =
        changed j (with_status (order_of w.orders j) t) i (let l = s.orders.count in omega arith)
        (λ e. status-sourced xs r (order_of w.orders j) t (rw (← e) (c.source i h)))
        (λ k. c.source i h)

    -- an order more
    opened : Tells u (fields_of kind.Order time m) → NoRefusal (finding w (fields_of kind.Order time m) u) → (i : ℕ) → i < w.count + 1
        → Source xs r (order_of (set w.orders w.count (new_order (finding w (fields_of kind.Order time m) u))) i)
    opened tells none i h =
        let f = fields_of kind.Order time m in
        let room = accepting.order-room w f u none.r15 refl in
        changed w.count (new_order (finding w f u)) i (omega arith)
        (λ e.
        let is = here f tells refl in
        record {
          at = n;
          inside = inside;
          ticket = rw is (tells-shape u f tells);
          txid = ap txid_field is;
          sender =
              ap sender_of is
              ∙ sym (same_true _ (sender_of u) (accepting.sender-found w f u none.r12 refl).passes)
              ∙ ap (λ (q : Roster). (participant_of q (accepting.sender_number w f u)).bic) c.roster;
        })
        (λ k. c.source i (omega arith))

    own-sourced : (k : Kind) → Tells u (fields_of k time m) → NoRefusal (finding w (fields_of k time m) u)
        → Sourced xs r (applied w (decision_of (finding w (fields_of k time m) u)))
    own-sourced kind.CoverIn tells none = record { roster = c.roster; source = kept _ }
    own-sourced kind.CoverOut tells none = record { roster = c.roster; source = kept _ }
    own-sourced kind.Order tells none = record { roster = c.roster; source = opened tells none }
    own-sourced kind.Yes tells none = record { roster = c.roster; source = becomes _ _ }
    own-sourced kind.No tells none = record { roster = c.roster; source = becomes _ _ }
    own-sourced kind.Recall tells none = record { roster = c.roster; source = becomes _ _ }
    own-sourced kind.Return tells none = record { roster = c.roster; source = becomes _ _ }
    own-sourced kind.Decline tells none = record { roster = c.roster; source = becomes _ _ }
    own-sourced kind.Inquiry tells none = record { roster = c.roster; source = kept _ }
    own-sourced kind.Cut tells none = record { roster = c.roster; source = kept _ }
    own-sourced kind.Confirm tells none = record { roster = c.roster; source = kept _ }
    own-sourced kind.Tick tells none = record { roster = c.roster; source = kept _ }

  module _ (b : Book) (s : Sound b) (c : Sourced xs r b) where
    pub handed-sourced : (buffer : List ℕ) → Sourced xs r (handed b u buffer).book
    handed-sourced =
        handed-goes b u (λ (w : Step). Sourced xs r w.book)
        (λ k low high. c)
        (λ f tells l k low. tick-sourced xs r b s c f.time l)
        (λ f tells l none.
        own-sourced (tick b f.time).book (tick-swept b s f.time l).sound (tick-sourced xs r b s c f.time l) f.time f.amount
        f.kind tells none)
