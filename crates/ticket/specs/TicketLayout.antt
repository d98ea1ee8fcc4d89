-- Where each field of a ticket lies: 01 'The ticket, 108 bytes'. Numbers are big-endian; of a padded field the value is all
-- before the trailing zeros. On a list of bytes of any length.
-- Assumes nothing.
use Rattle.std.specs.Prelude.{ℕ, cond, List, eqb, get_or}
use Rattle.fields.specs.Number.{part, number_at}
use Rattle.fields.specs.Text.{unpadded}

abbrev pub ticket_length : ℕ
ticket_length = 108

abbrev pub kind_byte : List ℕ → ℕ
kind_byte t = get_or t 0 0

abbrev pub flag_byte : List ℕ → ℕ
flag_byte t = get_or t 1 0

abbrev pub spare_field : List ℕ → List ℕ
spare_field t = part 2 2 t

abbrev pub time_of : List ℕ → ℕ
time_of t = number_at 4 4 t

abbrev pub amount_field : List ℕ → List ℕ
amount_field t = part 8 8 t

abbrev pub amount_of : List ℕ → ℕ
amount_of t = number_at 8 8 t

abbrev pub sender_of : List ℕ → List ℕ
sender_of t = part 11 16 t

-- an order's payee; in kinds 4 to 8 the payer of the order that they name
abbrev pub payee_of : List ℕ → List ℕ
payee_of t = part 11 27 t

-- 02, slip 6: kinds 4 to 8 name the payer's BIC in bytes 27 to 37; an order's payer is its sender
abbrev pub payer_of : List ℕ → List ℕ
payer_of t = cond (eqb (kind_byte t) 3) (sender_of t) (payee_of t)

abbrev pub txid_field : List ℕ → List ℕ
txid_field t = part 35 38 t

abbrev pub txid_of : List ℕ → List ℕ
txid_of t = unpadded (txid_field t)

abbrev pub iban_field : List ℕ → List ℕ
iban_field t = part 34 73 t

abbrev pub iban_of : List ℕ → List ℕ
iban_of t = unpadded (iban_field t)

abbrev pub last_field : List ℕ → List ℕ
last_field t = part 1 107 t
