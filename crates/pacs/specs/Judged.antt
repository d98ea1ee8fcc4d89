-- What comes of the named elements of a message: a refusal from 24 on, or an order ticket.
--     in_order     those from row n on are exactly the rows from n on, and none of the five texts holds an element
--     element_at, text_at    the element at a row, and its text
--     is_euro      attributes are the one Ccy="EUR"
--     is_digit     a decimal digit
--     is_amount    1 to 9 digits, a point and two digits
--     digits_behind    a number with digits behind it
--     cents       the amount's number, in cents
--     filled      a BIC of eight bytes filled
--     amount_right, codes_right    25 and 7 don't apply
--     ticket_of    the order ticket
--     element_refusal ..    the numbers
--     Verdict     a refusal, or a ticket
--     judged      of the named elements, at a time
-- Assumes nothing.
use Rattle.std.specs.Prelude.{ℕ, suc, ◌+◌, ◌-◌, ◌*◌, Bool, false, ◌&&◌, ◌||◌, not, cond, List, [], ◌∷◌, ◌++◌, eqb, leb, length, get_or, take, drop, None}
use Rattle.fields.specs.Text.{text, same}
use Rattle.codes.specs.Bic.{is_bic}
use Rattle.codes.specs.Txid.{is_txid}
use Rattle.iban.specs.Iban.{is_iban}
use Rattle.ticket.specs.TicketRefusal.{shape_refusal, account_refusal}
use Rattle.ticket.specs.TicketWriting.{order_ticket}
use Rattle.ticket.specs.declared.shapes.Account.TheVariants.{Wrong}
use Rattle.xml.specs.Bytes.{all_of}
use Rattle.xml.specs.Tree.{Attribute}
use Rattle.pacs.specs.Named.{Named, is_text_row, sender_row, txid_row, amount_row, payee_row, iban_row, outside}

pub data Verdict : Type 0 where
  refused : ℕ → Verdict
  accepted : List ℕ → Verdict

-- 02, slip 3 (24): an element of a named path missing, twice in its parent or out of order, or a named text holding an element
abbrev pub in_order : ℕ → List Named → Bool
in_order n [] = eqb n outside
in_order n (m ∷ more) = eqb m.row n && (not (is_text_row n) || m.plain) && in_order (suc n) more

abbrev none : Named
none = record { row = 0; attributes = []; text = []; plain = false }

abbrev pub element_at : List Named → ℕ → Named
element_at ms r = get_or ms r none

abbrev pub text_at : List Named → ℕ → List ℕ
text_at ms r = (element_at ms r).text

-- 02, slip 3: its one attribute Ccy="EUR"
abbrev pub is_euro : List Attribute → Bool
is_euro [] = false
is_euro (a ∷ []) = same a.name (text "Ccy") && same a.value (text "EUR")
is_euro (a ∷ b ∷ more) = false

unfoldable pub is_digit : ℕ → Bool
is_digit b = leb 48 b && leb b 57

-- 02, slip 3: the amount has 1 to 9 digits, a point and two digits
abbrev pub is_amount : List ℕ → Bool
is_amount s =
    leb 4 (length s)
    && leb (length s) 12
    && all_of is_digit (take (length s - 3) s)
    && eqb (get_or s (length s - 3) 0) 0x2e
    && all_of is_digit (drop (length s - 2) s)

-- digits behind a number
abbrev pub digits_behind : ℕ → List ℕ → ℕ
digits_behind n [] = n
digits_behind n (b ∷ s) = digits_behind (10 * n + (b - 48)) s

abbrev pub cents : List ℕ → ℕ
cents s = digits_behind (digits_behind 0 (take (length s - 3) s)) (drop (length s - 2) s)

-- 02, slip 3: a short BIC filled. 01: with XXX
abbrev pub filled : List ℕ → List ℕ
filled s = cond (eqb (length s) 8) (s ++ text "XXX") s

-- 02, slip 3 (25): amount text or attributes wrong, or zero
abbrev pub amount_right : Named → Bool
amount_right m = is_euro m.attributes && is_amount m.text && not (eqb (cents m.text) 0)

-- 01 (7): BIC or TxId wrong
abbrev pub codes_right : List Named → Bool
codes_right ms = is_bic (filled (text_at ms sender_row)) && is_bic (filled (text_at ms payee_row)) && is_txid (text_at ms txid_row)

abbrev pub ticket_of : ℕ → List Named → List ℕ
ticket_of time ms =
    order_ticket
    time
    (filled (text_at ms sender_row))
    (filled (text_at ms payee_row))
    (cents (text_at ms amount_row))
    (text_at ms txid_row)
    (text_at ms iban_row)

-- the numbers, in the order in which they are looked at
abbrev pub element_refusal : ℕ
element_refusal = 24

abbrev pub amount_refusal : ℕ
amount_refusal = 25

abbrev pub code_refusal : ℕ
code_refusal = shape_refusal None

abbrev pub iban_refusal : ℕ
iban_refusal = account_refusal Wrong

-- 02, slip 3: 24, 25, in that order, then 7 and 8
unfoldable pub judged : ℕ → List Named → Verdict
judged time ms =
    cond (in_order 0 ms)
    (cond (amount_right (element_at ms amount_row))
    (cond (codes_right ms) (cond (is_iban (text_at ms iban_row)) (accepted (ticket_of time ms)) (refused iban_refusal)) (refused code_refusal))
    (refused amount_refusal))
    (refused element_refusal)
