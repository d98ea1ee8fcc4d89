-- The fields of a ticket that was written, each with the widths that it takes. Assumes nothing.
use mathlib.Core.Path.{◌≡◌, sym, ◌∙◌, ap}
use mathlib.Core.List.{List, [], ◌∷◌, ◌++◌, append_assoc}
use Prim.Native.Nat.{ℕ, ◌^◌, ◌≤◌, ◌<◌}
use native.Mathlib.Omega.{arith}
use lib.ListN.{length, take, drop, length-append, length-replicate}
use lib.Seq.{take_at, drop_at, drop-drop}
use Rattle.fields.specs.Text.{padded}
use Rattle.fields.proofs.BigEndian.{reads-back}
use Rattle.fields.proofs.Padding.{length-padded}
use Rattle.ticket.specs.TicketLayout.{ticket_length, time_of, amount_of, sender_of, payee_of, txid_field, iban_field, last_field}
use Rattle.ticket.specs.TicketWriting.{WrittenTicket, ticket_bytes}

regroup : (a b c d e : List ℕ) → a ++ b ++ c ++ d ++ e ≡ a ++ (b ++ (c ++ (d ++ e)))
regroup a b c d e = simp append_assoc

pub written-time : (w : WrittenTicket) → w.time < 256 ^ 4 → time_of (ticket_bytes w) ≡ w.time
written-time w h = reads-back 4 w.time h

pub written-amount : (w : WrittenTicket) → w.amount < 256 ^ 8 → amount_of (ticket_bytes w) ≡ w.amount
written-amount w h = reads-back 8 w.amount h

-- the padded fields one after the other
module _ (w : WrittenTicket) where
  from-sender : drop 16 (ticket_bytes w) ≡ padded 11 w.sender
      ++ (padded 11 w.payee ++ (padded 35 w.txid ++ (padded 34 w.iban ++ (0 ∷ []))))
  from-sender = regroup (padded 11 w.sender) (padded 11 w.payee) (padded 35 w.txid) (padded 34 w.iban) (0 ∷ [])

  pub sender-field : length w.sender ≤ 11 → sender_of (ticket_bytes w) ≡ padded 11 w.sender
  sender-field s = ap (take 11) from-sender ∙ take_at (padded 11 w.sender) _ 11 (length-padded 11 w.sender s)

  from-payee : length w.sender ≤ 11
      → drop 27 (ticket_bytes w) ≡ padded 11 w.payee ++ (padded 35 w.txid ++ (padded 34 w.iban ++ (0 ∷ [])))
  from-payee s = sym (drop-drop 11 16 (ticket_bytes w)) ∙ ap (drop 11) from-sender
      ∙ drop_at (padded 11 w.sender) _ 11 (length-padded 11 w.sender s)

  pub payee-field : length w.sender ≤ 11 → length w.payee ≤ 11 → payee_of (ticket_bytes w) ≡ padded 11 w.payee
  payee-field s p = ap (take 11) (from-payee s) ∙ take_at (padded 11 w.payee) _ 11 (length-padded 11 w.payee p)

  from-txid : length w.sender ≤ 11 → length w.payee ≤ 11
      → drop 38 (ticket_bytes w) ≡ padded 35 w.txid ++ (padded 34 w.iban ++ (0 ∷ []))
  from-txid s p = sym (drop-drop 11 27 (ticket_bytes w)) ∙ ap (drop 11) (from-payee s)
      ∙ drop_at (padded 11 w.payee) _ 11 (length-padded 11 w.payee p)

  pub txid-field : length w.sender ≤ 11 → length w.payee ≤ 11 → length w.txid ≤ 35
      → txid_field (ticket_bytes w) ≡ padded 35 w.txid
  txid-field s p x = ap (take 35) (from-txid s p) ∙ take_at (padded 35 w.txid) _ 35 (length-padded 35 w.txid x)

  from-iban : length w.sender ≤ 11 → length w.payee ≤ 11 → length w.txid ≤ 35
      → drop 73 (ticket_bytes w) ≡ padded 34 w.iban ++ (0 ∷ [])
  from-iban s p x = sym (drop-drop 35 38 (ticket_bytes w)) ∙ ap (drop 35) (from-txid s p)
      ∙ drop_at (padded 35 w.txid) _ 35 (length-padded 35 w.txid x)

  -- with all widths kept
  module _ (s : length w.sender ≤ 11) (p : length w.payee ≤ 11) (x : length w.txid ≤ 35) (i : length w.iban ≤ 34) where
    pub iban-field : iban_field (ticket_bytes w) ≡ padded 34 w.iban
    iban-field = ap (take 34) (from-iban s p x) ∙ take_at (padded 34 w.iban) _ 34 (length-padded 34 w.iban i)

    pub last-field : last_field (ticket_bytes w) ≡ 0 ∷ []
    last-field =
        ap (take 1)
        (sym (drop-drop 34 73 (ticket_bytes w)) ∙ ap (drop 34) (from-iban s p x)
        ∙ drop_at (padded 34 w.iban) _ 34 (length-padded 34 w.iban i))

    pub length-written : length (ticket_bytes w) ≡ ticket_length
    length-written = simp (length-append, length-replicate) (omega arith)
