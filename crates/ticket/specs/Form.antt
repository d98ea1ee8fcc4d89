-- Which fields each kind lists, and its amounts: 01 'The ticket, 108 bytes'. Where most is 0 a kind lists no amount.
--     cover_form    a sender, and an amount from least to 10^18
--     about_form    a sender, a payer and a TxId, and amounts from least to most
--     empty_form    nothing
--     form_of       of each kind
-- Assumes nothing.
use Rattle.std.specs.Prelude.{ℕ, true, false}
use Rattle.ticket.specs.declared.forms.Form.{Form}
use Rattle.ticket.specs.declared.kinds.Kind.{Kind}
use Rattle.ticket.specs.declared.kinds.Kind.TheVariants.{
  CoverIn,
  CoverOut,
  Order,
  Yes,
  No,
  Recall,
  Return,
  Decline,
  Inquiry,
  Cut,
  Confirm,
  Tick,
}

abbrev pub most_cover : ℕ
most_cover = 1_000_000_000_000_000_000

abbrev pub most_order : ℕ
most_order = 99_999_999_999

abbrev cover_form : ℕ → Form
cover_form least = record { sender = true; payee = false; txid = false; iban = false; least = least; most = most_cover }

-- 02, slip 6: kinds 4 to 8 name the payer's BIC where an order names the payee's
abbrev about_form : ℕ → ℕ → Form
about_form least most = record { sender = true; payee = true; txid = true; iban = false; least = least; most = most }

abbrev empty_form : Form
empty_form = record { sender = false; payee = false; txid = false; iban = false; least = 0; most = 0 }

abbrev pub form_of : Kind → Form
form_of CoverIn = cover_form 1
form_of CoverOut = cover_form 1
form_of Order = record { sender = true; payee = true; txid = true; iban = true; least = 1; most = most_order }
form_of Yes = about_form 0 0
form_of No = about_form 0 0
form_of Recall = about_form 0 0
form_of Return = about_form 1 most_order
form_of Decline = about_form 0 0
form_of Inquiry = about_form 0 0
form_of Cut = empty_form
form_of Confirm = cover_form 0
form_of Tick = empty_form
