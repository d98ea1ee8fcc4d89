-- What a search in lent rows finds is well formed, and which payer a ticket's key has. Assumes nothing.
use Rattle.std.specs.Prelude.{Option, is_some}
use mathlib.Core.Path.{◌≡◌, ◌∙◌, ap, sym}
use mathlib.Core.Bool.{Bool, cond}
use mathlib.Core.List.{List}
use Prim.Native.Nat.{ℕ, ◌+◌, ◌≤◌}
use native.Mathlib.Omega.{arith}
use lib.ListN.{length}
use Rattle.fields.specs.Number.{part}
use Rattle.fields.proofs.Stores.{length_part}
use Rattle.ticket.specs.TicketLayout.{ticket_length, sender_of, payee_of, payer_of, txid_field}
use Rattle.ticket.specs.declared.kinds.Kind.{Kind}
use Rattle.ticket.specs.declared.kinds.Kind.TheVariants.{Order}
use Rattle.ticket.proofs.TicketTelling.{payer-named}
use Rattle.rules.specs.declared.terms.Subject.TheVariants.{NewOrder, HeldOrder}
use Rattle.shapes.specs.Subject.{TicketNaming, KnownBic, KnownKey}
use Rattle.shapes.proofs.Forms.{none-new}
use Rattle.index.specs.RowChains.{first_with}
use Rattle.index.specs.LentRows.{BicRows, KeyRows}
use Rattle.index.specs.Words.{Bytes, bic_words, key_words}
use Rattle.index.proofs.Comparing.{part_bytes}

module _ (t : List ℕ) (whole : length t ≡ ticket_length) (bytes : Bytes t) {rows : List (List ℕ)} where
  pub known-sender : BicRows rows → (f : Option ℕ) → f ≡ first_with (bic_words (sender_of t)) rows → KnownBic f (sender_of t)
  known-sender lent f e found =
      lent.formed (sender_of t) (length_part 11 16 t (omega arith)) (part_bytes bytes 11 16) (ap is_some (sym e) ∙ found)

  pub known-payee : BicRows rows → (f : Option ℕ) → f ≡ first_with (bic_words (payee_of t)) rows → KnownBic f (payee_of t)
  known-payee lent f e found =
      lent.formed (payee_of t) (length_part 11 27 t (omega arith)) (part_bytes bytes 11 27) (ap is_some (sym e) ∙ found)

  -- by its sender or its payer, at either place
  pub known-key : KeyRows rows → (at : ℕ) → at + 11 ≤ ticket_length → (f : Option ℕ)
      → f ≡ first_with (key_words (part 11 at t) (txid_field t)) rows → KnownKey f (part 11 at t) (txid_field t)
  known-key lent at fits f e found =
      lent.formed (part 11 at t) (txid_field t) (length_part 11 at t (omega arith)) (length_part 35 38 t (omega arith))
      (part_bytes bytes 11 at) (part_bytes bytes 35 38) (ap is_some (sym e) ∙ found)

-- 02, slip 6: the payer that a kind names, by what it names
pub order-payer : (t : List ℕ) → TicketNaming NewOrder Order t → payer_of t ≡ sender_of t
order-payer t n = payer-named t Order n.kinds

pub about-payer : (k : Kind) (t : List ℕ) → TicketNaming HeldOrder k t → payer_of t ≡ payee_of t
about-payer k t n =
    payer-named t k n.kinds ∙ ap (λ (b : Bool). cond b (sender_of t) (payee_of t)) (none-new k n.names)
