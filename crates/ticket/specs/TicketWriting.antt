-- Tickets written down: the other way round from reading.
--     WrittenTicket       what is written: zero or no bytes where the kind doesn't list a field; in kinds 4 to 8 `payee` is the payer's BIC
--     ticket_bytes         its bytes
--     IfListed            a field that a kind lists passes its check, one that it doesn't has no bytes
--     WellFormedTicket    what is written is a ticket of a kind
--     cover_in_ticket ..    a ticket of each kind, as bytes: its time, and the fields that it lists, in the paper's order
-- Assumes nothing.
use Rattle.std.specs.Prelude.{ℕ, ◌^◌, ◌≤◌, ◌<◌, ◌≡◌, Bool, true, false, List, [], ◌∷◌, ◌++◌}
use Rattle.codes.specs.Bic.{is_bic}
use Rattle.iban.specs.Iban.{is_iban}
use Rattle.codes.specs.Txid.{is_txid}
use Rattle.fields.specs.Number.{bytes_of}
use Rattle.fields.specs.Text.{padded}
use Rattle.ticket.specs.Kind.{kind_number, flag_low, flag_high}
use Rattle.ticket.specs.Form.{form_of}
use Rattle.ticket.specs.declared.kinds.Kind.{Kind}
use Rattle.ticket.specs.declared.kinds.Kind.TheVariants.{
  CoverIn,
  CoverOut,
  Order,
  Yes,
  No,
  Recall,
  Return,
  Decline,
  Inquiry,
  Cut,
  Confirm,
  Tick,
}

pub record WrittenTicket : Type 0 where
  pub kind : ℕ
  pub flag : ℕ
  pub time : ℕ
  pub amount : ℕ
  pub sender : List ℕ
  pub payee : List ℕ
  pub txid : List ℕ
  pub iban : List ℕ

-- 01: byte 0 kind; 1 flag; 2-3 zero; 4-7 time; 8-15 amount; 16-26 sender BIC; 27-37 payee BIC (02, slip 6: in kinds 4 to 8 the
-- payer's); 38-72 TxId and 73-106 IBAN, both padded with zero bytes; 107 zero
abbrev pub ticket_bytes : WrittenTicket → List ℕ
ticket_bytes w =
    (w.kind ∷ w.flag ∷ 0 ∷ 0 ∷ [])
    ++ bytes_of 4 w.time
    ++ bytes_of 8 w.amount
    ++ padded 11 w.sender
    ++ padded 11 w.payee
    ++ padded 35 w.txid
    ++ padded 34 w.iban
    ++ (0 ∷ [])

abbrev pub IfListed : Bool → (List ℕ → Bool) → List ℕ → Type 0
IfListed true check s = check s ≡ true
IfListed false check s = s ≡ []

-- where a kind lists no amount, least and most are 0
pub record WellFormedTicket (k : Kind) (w : WrittenTicket) : Type 0 where
  pub kind : w.kind ≡ kind_number k
  pub low : flag_low k ≤ w.flag
  pub high : w.flag ≤ flag_high k
  pub time : w.time < 256 ^ 4
  pub least : (form_of k).least ≤ w.amount
  pub most : w.amount ≤ (form_of k).most
  pub sender : IfListed (form_of k).sender is_bic w.sender
  pub payee : IfListed (form_of k).payee is_bic w.payee
  pub txid : IfListed (form_of k).txid is_txid w.txid
  pub iban : IfListed (form_of k).iban is_iban w.iban

-- a kind that lists a sender and an amount
abbrev cover_written : Kind → ℕ → List ℕ → ℕ → WrittenTicket
cover_written k time sender n =
    record { kind = kind_number k; flag = 0; time = time; amount = n; sender = sender; payee = []; txid = []; iban = [] }

-- a kind that lists a sender, a payer and a TxId, with its flag and its amount
abbrev about_written : Kind → ℕ → List ℕ → ℕ → ℕ → List ℕ → List ℕ → WrittenTicket
about_written k time sender flag n payer txid =
    record { kind = kind_number k; flag = flag; time = time; amount = n; sender = sender; payee = payer; txid = txid; iban = [] }

-- a kind that lists nothing
abbrev empty_written : Kind → ℕ → WrittenTicket
empty_written k time =
    record { kind = kind_number k; flag = 0; time = time; amount = 0; sender = []; payee = []; txid = []; iban = [] }

abbrev pub order_written : ℕ → List ℕ → List ℕ → ℕ → List ℕ → List ℕ → WrittenTicket
order_written time sender payee n txid iban =
    record { kind = kind_number Order; flag = 0; time = time; amount = n; sender = sender; payee = payee; txid = txid; iban = iban }

abbrev pub cover_in_ticket : ℕ → List ℕ → ℕ → List ℕ
cover_in_ticket time sender n = ticket_bytes (cover_written CoverIn time sender n)

abbrev pub cover_out_ticket : ℕ → List ℕ → ℕ → List ℕ
cover_out_ticket time sender n = ticket_bytes (cover_written CoverOut time sender n)

abbrev pub order_ticket : ℕ → List ℕ → List ℕ → ℕ → List ℕ → List ℕ → List ℕ
order_ticket time sender payee n txid iban = ticket_bytes (order_written time sender payee n txid iban)

abbrev pub yes_ticket : ℕ → List ℕ → List ℕ → List ℕ → List ℕ
yes_ticket time sender payer txid = ticket_bytes (about_written Yes time sender 1 0 payer txid)

abbrev pub no_ticket : ℕ → List ℕ → List ℕ → List ℕ → List ℕ
no_ticket time sender payer txid = ticket_bytes (about_written No time sender 2 0 payer txid)

abbrev pub recall_ticket : ℕ → List ℕ → ℕ → List ℕ → List ℕ → List ℕ
recall_ticket time sender flag payer txid = ticket_bytes (about_written Recall time sender flag 0 payer txid)

abbrev pub return_ticket : ℕ → List ℕ → ℕ → List ℕ → List ℕ → List ℕ
return_ticket time sender n payer txid = ticket_bytes (about_written Return time sender 0 n payer txid)

abbrev pub decline_ticket : ℕ → List ℕ → ℕ → List ℕ → List ℕ → List ℕ
decline_ticket time sender flag payer txid = ticket_bytes (about_written Decline time sender flag 0 payer txid)

abbrev pub inquiry_ticket : ℕ → List ℕ → List ℕ → List ℕ → List ℕ
inquiry_ticket time sender payer txid = ticket_bytes (about_written Inquiry time sender 0 0 payer txid)

abbrev pub cut_ticket : ℕ → List ℕ
cut_ticket time = ticket_bytes (empty_written Cut time)

abbrev pub confirm_ticket : ℕ → List ℕ → ℕ → List ℕ
confirm_ticket time sender n = ticket_bytes (cover_written Confirm time sender n)

abbrev pub tick_ticket : ℕ → List ℕ
tick_ticket time = ticket_bytes (empty_written Tick time)
