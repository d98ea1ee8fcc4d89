-- For every list in which order tickets that share a TxId have one sender there is one that names the payers. Assumes nothing.
use Rattle.std.specs.Prelude.{None, Option, Some}
use mathlib.Core.Path.{◌≡◌, refl, sym, ◌∙◌, ap, subst}
use mathlib.Core.Bool.{Bool, true, false, ◌&&◌, cond}
use mathlib.Core.List.{List, [], ◌∷◌}
use Prim.Native.Nat.{ℕ, zero, suc, ◌<◌}
use native.Mathlib.Nat.{not-suc-le-zero}
use native.Mathlib.Omega.{arith}
use lib.ListN.{length, length-map, get_or-map}
use Rattle.codes.specs.Bic.{is_bic}
use Rattle.fields.specs.Text.{same}
use Rattle.fields.proofs.Same.{same_refl, same_true}
use Rattle.fields.proofs.Tests.{and_left, and_right, never}
use Rattle.ticket.specs.TicketLayout as layout
use Rattle.ticket.specs.Shape.{txid_if_listed, blank_unless_listed, shape_of}
use Rattle.ticket.specs.declared.kinds.Kind.TheVariants as kind
use Rattle.ticket.proofs.TicketTelling.{shaped}
use Rattle.rules.specs.Inputs.{Input}
use Rattle.by_txid.specs.OldLists.{no_input, input_of, ticket_of, about_order, OrderTicket, OnePayer, with_payer, NamedIf, Renamed}
use Rattle.by_txid.specs.Renaming.{is_order, payer_for, renamed_input, renaming}
use Rattle.ticket.specs.declared.kinds.Kind.{Kind}

-- an order's shape
order-shape : (s : Option Kind) → is_order s ≡ true → s ≡ Some kind.Order
order-shape (Some kind.CoverIn) e = never (sym e)
order-shape (Some kind.CoverOut) e = never (sym e)
order-shape (Some kind.Order) e = refl
order-shape (Some kind.Yes) e = never (sym e)
order-shape (Some kind.No) e = never (sym e)
order-shape (Some kind.Recall) e = never (sym e)
order-shape (Some kind.Return) e = never (sym e)
order-shape (Some kind.Decline) e = never (sym e)
order-shape (Some kind.Inquiry) e = never (sym e)
order-shape (Some kind.Cut) e = never (sym e)
order-shape (Some kind.Confirm) e = never (sym e)
order-shape (Some kind.Tick) e = never (sym e)
order-shape None e = never (sym e)

-- the sender of an order ticket that passes 7 is a BIC
sender-bic : (t : List ℕ) → OrderTicket t → is_bic (layout.sender_of t) ≡ true
sender-bic t e =
    and_right spared sender
    (and_left (spared && sender) payee
    (and_left (spared && sender && payee) txid
    (and_left (spared && sender && payee && txid) iban
    (and_left (spared && sender && payee && txid && iban) (blank_unless_listed false (layout.last_field t)) (shaped t kind.Order e).formed))))
  where
    spared : Bool
    spared = blank_unless_listed false (layout.spare_field t) && blank_unless_listed true (layout.amount_field t)

    sender : Bool
    sender = is_bic (layout.sender_of t)

    payee : Bool
    payee = is_bic (layout.payee_of t)

    txid : Bool
    txid = txid_if_listed true (layout.txid_field t)

    iban : Bool
    iban = blank_unless_listed true (layout.iban_field t)

payer-bic : (xs : List Input) (txid : List ℕ) → is_bic (payer_for xs txid) ≡ true
unfolding is_bic
payer-bic [] txid = refl
payer-bic (x ∷ xs) txid = go (is_order (shape_of x.ticket)) refl (same (layout.txid_field x.ticket) txid) (payer-bic xs txid)
  where
    go : (o : Bool) → is_order (shape_of x.ticket) ≡ o → (s : Bool) → is_bic (payer_for xs txid) ≡ true
        → is_bic (cond (o && s) (layout.sender_of x.ticket) (payer_for xs txid)) ≡ true
    go true e true later = sender-bic x.ticket (order-shape (shape_of x.ticket) e)
    go true e false later = later
    go false e s later = later

-- where order tickets that share a TxId have one sender, it is the sender of each
payer-sender : (xs : List Input) (txid : List ℕ)
    → ((i j : ℕ) → i < length xs → j < length xs → OrderTicket (ticket_of xs i) → OrderTicket (ticket_of xs j)
    → layout.txid_field (ticket_of xs i) ≡ layout.txid_field (ticket_of xs j)
    → layout.sender_of (ticket_of xs i) ≡ layout.sender_of (ticket_of xs j))
    → (j : ℕ) → j < length xs → OrderTicket (ticket_of xs j) → layout.txid_field (ticket_of xs j) ≡ txid
    → payer_for xs txid ≡ layout.sender_of (ticket_of xs j)
payer-sender [] txid one j h o e = absurd (not-suc-le-zero h)
payer-sender (x ∷ xs) txid one zero h o e =
    let first : (is_order (shape_of x.ticket) && same (layout.txid_field x.ticket) txid) ≡ true =
    rw (o, e, same_refl txid) in
    rw first
payer-sender (x ∷ xs) txid one (suc j) h o e =
    go (is_order (shape_of x.ticket) && same (layout.txid_field x.ticket) txid) refl
    (payer-sender xs txid (λ i k hi hk. one (suc i) (suc k) (omega arith) (omega arith)) j (omega arith) o e)
  where
    go : (z : Bool) → (is_order (shape_of x.ticket) && same (layout.txid_field x.ticket) txid) ≡ z
        → payer_for xs txid ≡ layout.sender_of (ticket_of xs j)
        → cond z (layout.sender_of x.ticket) (payer_for xs txid) ≡ layout.sender_of (ticket_of xs j)
    go true q later =
        let is-order = and_left (is_order (shape_of x.ticket)) (same (layout.txid_field x.ticket) txid) q in
        let is-txid = and_right (is_order (shape_of x.ticket)) (same (layout.txid_field x.ticket) txid) q in
        one 0 (suc j) (omega arith) h (order-shape (shape_of x.ticket) is-order) o
        (same_true (layout.txid_field x.ticket) txid is-txid ∙ sym e)
    go false q later = later

pub payers-named : (xs : List Input) → OnePayer xs → Renamed xs (renaming xs)
payers-named xs old =
    record {
      long = length-map xs (renamed_input xs);
      ticket = λ i h.
          subst (NamedIf (about_order (ticket_of xs i)) xs (ticket_of xs i)) (sym (ap (λ (x : Input). x.ticket) (at i)))
          (named (ticket_of xs i) (about_order (ticket_of xs i)));
      buffer = λ i h. ap (λ (x : Input). x.buffer) (at i);
    }
  where
    at : (i : ℕ) → input_of (renaming xs) i ≡ renamed_input xs (input_of xs i)
    at i = get_or-map (renamed_input xs) xs i no_input

    named : (t : List ℕ) (about : Bool) → NamedIf about xs t (cond about (with_payer t (payer_for xs (layout.txid_field t))) t)
    named t true =
        record {
          payer = payer_for xs (layout.txid_field t);
          bic = payer-bic xs (layout.txid_field t);
          written = refl;
          sender = payer-sender xs (layout.txid_field t) old.payer;
        }
    named t false = refl
