-- The lists of inputs that 02, slip 6, speaks of: written for the rules by TxId alone, and the same with the payers named.
--     ticket_of       the ticket of input i
--     about_order     a ticket of 108 bytes and kind 4 to 8, by its kind byte, whatever else it holds
--     OrderTicket    an order ticket that passes 7, whatever refuses it later. Kind 3 has the same form in both rules
--     Old            no two order tickets that pass 7 share a TxId; tickets of kinds 4 to 8 have zero bytes from 27 to 37
--     OnePayer       the same, but order tickets of one sender may share a TxId, as one that is sent again after a refusal
--     with_payer      a ticket with a BIC in bytes 27 to 37
--     Named          the ticket with a well-formed BIC there: the sender's of the list's order ticket with that TxId, if one passes 7
--     Renamed        input by input the same, but for the payers that tickets of kinds 4 to 8 name
-- Assumes nothing.
use Rattle.std.specs.Prelude.{ℕ, ◌<◌, ◌≡◌, Bool, true, false, ◌&&◌, List, [], leb, eqb, length, get_or, Some}
use Rattle.std.proofs.lemmas.List.Edits.{sets}
use Rattle.codes.specs.Bic.{is_bic}
use Rattle.fields.specs.Text.{blank}
use Rattle.ticket.specs.TicketLayout.{ticket_length, kind_byte, sender_of, payee_of, txid_field}
use Rattle.ticket.specs.Shape.{shape_of}
use Rattle.ticket.specs.declared.kinds.Kind.TheVariants.{Order}
use Rattle.rules.specs.Inputs.{Input}

-- past the end, which nothing looks at
abbrev pub no_input : Input
no_input = record { ticket = []; buffer = [] }

abbrev pub input_of : List Input → ℕ → Input
input_of xs i = get_or xs i no_input

abbrev pub ticket_of : List Input → ℕ → List ℕ
ticket_of xs i = (input_of xs i).ticket

abbrev pub about_order : List ℕ → Bool
about_order t = eqb (length t) ticket_length && (leb 4 (kind_byte t) && leb (kind_byte t) 8)

abbrev pub OrderTicket : List ℕ → Type 0
OrderTicket t = shape_of t ≡ Some Order

-- two tickets that pass 7 share their TxId exactly where its padded bytes are the same. The same ticket twice shares it too
pub record Old (xs : List Input) : Type 0 where
  pub distinct : (i j : ℕ) → i < j → j < length xs → OrderTicket (ticket_of xs i) → OrderTicket (ticket_of xs j)
      → txid_field (ticket_of xs i) ≡ txid_field (ticket_of xs j) → ⊥
  pub zeros : (i : ℕ) → i < length xs → about_order (ticket_of xs i) ≡ true → blank (payee_of (ticket_of xs i)) ≡ true

pub record OnePayer (xs : List Input) : Type 0 where
  pub payer : (i j : ℕ) → i < length xs → j < length xs → OrderTicket (ticket_of xs i) → OrderTicket (ticket_of xs j)
      → txid_field (ticket_of xs i) ≡ txid_field (ticket_of xs j) → sender_of (ticket_of xs i) ≡ sender_of (ticket_of xs j)
  pub zeros : (i : ℕ) → i < length xs → about_order (ticket_of xs i) ≡ true → blank (payee_of (ticket_of xs i)) ≡ true

abbrev pub with_payer : List ℕ → List ℕ → List ℕ
with_payer t payer = sets t 27 payer

-- t is a ticket of the list xs
pub record Named (xs : List Input) (t u : List ℕ) : Type 0 where
  pub payer : List ℕ
  pub bic : is_bic payer ≡ true
  pub written : u ≡ with_payer t payer
  pub sender : (i : ℕ) → i < length xs → OrderTicket (ticket_of xs i) → txid_field (ticket_of xs i) ≡ txid_field t
      → payer ≡ sender_of (ticket_of xs i)

-- by whether the ticket is of kind 4 to 8
abbrev pub NamedIf : Bool → List Input → List ℕ → List ℕ → Type 0
NamedIf true xs t u = Named xs t u
NamedIf false xs t u = u ≡ t

pub record Renamed (xs ys : List Input) : Type 0 where
  pub long : length ys ≡ length xs
  pub ticket : (i : ℕ) → i < length xs → NamedIf (about_order (ticket_of xs i)) xs (ticket_of xs i) (ticket_of ys i)
  pub buffer : (i : ℕ) → i < length xs → (input_of ys i).buffer ≡ (input_of xs i).buffer
