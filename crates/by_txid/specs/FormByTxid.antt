-- Which fields each kind lists where an order goes by its TxId alone: 01 'The ticket, 108 bytes', without 02, slip 6.
--     without_payer   a form but for bytes 27 to 37, which it doesn't list
--     form_by_txid     of each kind: kinds 4 to 8 list no payer
-- Assumes nothing.
use Rattle.std.specs.Prelude.{false}
use Rattle.ticket.specs.Form.{form_of}
use Rattle.ticket.specs.declared.forms.Form.{Form}
use Rattle.ticket.specs.declared.kinds.Kind.{Kind}
use Rattle.ticket.specs.declared.kinds.Kind.TheVariants.{
  CoverIn,
  CoverOut,
  Order,
  Yes,
  No,
  Recall,
  Return,
  Decline,
  Inquiry,
  Cut,
  Confirm,
  Tick,
}

abbrev pub without_payer : Form → Form
without_payer form =
    record {
      sender = form.sender;
      payee = false;
      txid = form.txid;
      iban = form.iban;
      least = form.least;
      most = form.most;
    }

abbrev pub form_by_txid : Kind → Form
form_by_txid CoverIn = form_of CoverIn
form_by_txid CoverOut = form_of CoverOut
form_by_txid Order = form_of Order
form_by_txid Yes = without_payer (form_of Yes)
form_by_txid No = without_payer (form_of No)
form_by_txid Recall = without_payer (form_of Recall)
form_by_txid Return = without_payer (form_of Return)
form_by_txid Decline = without_payer (form_of Decline)
form_by_txid Inquiry = without_payer (form_of Inquiry)
form_by_txid Cut = form_of Cut
form_by_txid Confirm = form_of Confirm
form_by_txid Tick = form_of Tick
