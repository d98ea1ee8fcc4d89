-- Refusals 7 and 8.
--     bic_if_listed         a BIC where it is listed, else zero bytes
--     txid_if_listed        a TxId padded with zero bytes where it is listed, else zero bytes
--     blank_unless_listed   anything where it is listed, else zero bytes
--     well_formed          each field as its kind's form has it
--     shape_of             refusal 7: the kind, or None where the ticket is malformed
--     account_of           refusal 8: Named, or Wrong
-- Assumes nothing.
use Rattle.std.specs.Prelude.{ℕ, Bool, false, ◌&&◌, ◌||◌, not, cond, List, eqb, length, None, Option, Some}
use Rattle.codes.specs.Bic.{is_bic}
use Rattle.iban.specs.Iban.{is_iban}
use Rattle.codes.specs.Txid.{is_txid}
use Rattle.fields.specs.Text.{blank, unpadded}
use Rattle.ticket.specs.TicketLayout as layout
use Rattle.ticket.specs.Kind.{kinded}
use Rattle.ticket.specs.Form.{form_of}
use Rattle.ticket.specs.declared.forms.Form.{Form}
use Rattle.ticket.specs.declared.shapes.Account.{Account}
use Rattle.ticket.specs.declared.shapes.Account.TheVariants.{Named, Wrong}
use Rattle.ticket.specs.declared.kinds.Kind.{Kind}

abbrev pub bic_if_listed : Bool → List ℕ → Bool
bic_if_listed listed s = cond listed (is_bic s) (blank s)

abbrev pub txid_if_listed : Bool → List ℕ → Bool
txid_if_listed listed s = cond listed (is_txid (unpadded s)) (blank s)

abbrev pub blank_unless_listed : Bool → List ℕ → Bool
blank_unless_listed listed s = listed || blank s

-- 01: fields a kind doesn't list are zero; so are bytes 2, 3 and 107
abbrev pub well_formed : Form → List ℕ → Bool
well_formed form t =
    blank_unless_listed false (layout.spare_field t)
    && blank_unless_listed (not (eqb form.most 0)) (layout.amount_field t)
    && bic_if_listed form.sender (layout.sender_of t)
    && bic_if_listed form.payee (layout.payee_of t)
    && txid_if_listed form.txid (layout.txid_field t)
    && blank_unless_listed form.iban (layout.iban_field t)
    && blank_unless_listed false (layout.last_field t)

abbrev pub shape_as : Option Kind → List ℕ → Option Kind
shape_as (Some kind) t = cond (well_formed (form_of kind) t) (Some kind) None
shape_as None t = None

-- 7. Ticket not 108 bytes, or kind, flag, BIC, TxId or unused field wrong (XT33). 02, slip 6: the payer's BIC too
abbrev pub shape_of : List ℕ → Option Kind
shape_of t = cond (eqb (length t) layout.ticket_length) (shape_as (kinded (layout.kind_byte t) (layout.flag_byte t)) t) None

-- 8. IBAN wrong (XD19)
abbrev pub account_of : Form → List ℕ → Account
account_of form t = cond form.iban (cond (is_iban (layout.iban_of t)) Named Wrong) Named
