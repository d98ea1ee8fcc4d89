-- Tickets by what their kind names: nothing, a sender, an order that is held, a new order.
--     TicketNaming    108 bytes whose kind names that
--     KnownBic        a BIC that was found is well formed
--     KnownKey        so are a payer's BIC and a TxId, in its padded field, that were found together
-- Assumes nothing.
use Rattle.std.specs.Prelude.{ℕ, ◌≡◌, true, List, length, Option, is_some, Some}
use Rattle.fields.specs.Text.{unpadded}
use Rattle.codes.specs.Bic.{is_bic}
use Rattle.codes.specs.Txid.{is_txid}
use Rattle.ticket.specs.TicketLayout.{ticket_length, kind_byte, flag_byte}
use Rattle.ticket.specs.Kind.{kinded}
use Rattle.ticket.specs.declared.kinds.Kind.{Kind}
use Rattle.rules.specs.Terms.{terms_of}
use Rattle.rules.specs.declared.terms.Subject.{Subject}

pub record TicketNaming (subject : Subject) (kind : Kind) (t : List ℕ) : Type 0 where
  pub whole : length t ≡ ticket_length
  pub kinds : kinded (kind_byte t) (flag_byte t) ≡ Some kind
  pub names : (terms_of kind).subject ≡ subject

abbrev pub KnownBic : Option ℕ → List ℕ → Type 0
KnownBic found s = is_some found ≡ true → is_bic s ≡ true

-- 02, slip 6: an order is found by payer and TxId together
abbrev pub KnownKey : Option ℕ → List ℕ → List ℕ → Type 0
KnownKey found payer txid = is_some found ≡ true → (is_bic payer ≡ true) × (is_txid (unpadded txid) ≡ true)
