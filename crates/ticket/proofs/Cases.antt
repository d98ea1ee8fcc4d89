-- Tickets as written in case D and beside it, read by computation. Assumes nothing.
use Rattle.std.specs.Prelude.{Err, Ok}
use mathlib.Core.Path.{◌≡◌, refl}
use mathlib.Core.List.{List, []}
use Prim.Native.Nat.{ℕ}
use native.Mathlib.Omega.{arith}
use Rattle.codes.specs.Bic.{is_bic}
use Rattle.iban.specs.Iban.{is_iban}
use Rattle.fields.specs.Text.{text}
use Rattle.codes.specs.Txid.{is_txid}
use Rattle.ticket.specs.TicketReading.{reading}
use Rattle.ticket.specs.TicketWriting.{
  WrittenTicket,
  ticket_bytes,
  WellFormedTicket,
  order_written,
  cover_in_ticket,
  order_ticket,
  yes_ticket,
  recall_ticket,
  inquiry_ticket,
  tick_ticket,
}
use Rattle.ticket.specs.declared.kinds.Kind.TheVariants.{CoverIn, Order, Yes, Inquiry, Tick}

abbrev a : List ℕ
a = text "AAAALV22XXX"

abbrev b : List ℕ
b = text "BBBBLV22XXX"

abbrev iban : List ℕ
iban = text "LV80BANK0000435195001"

-- a cover in with a BIC where kinds 4 to 8 name the payer
abbrev cover_with_payer : WrittenTicket
cover_with_payer = record { kind = 1; flag = 0; time = 0; amount = 1000; sender = a; payee = b; txid = []; iban = [] }

pub cover-in-reads : reading (cover_in_ticket 0 a 1000) ≡ Ok (record { kind = CoverIn; time = 0; amount = 1000 })
unfolding reading is_bic
cover-in-reads = refl

pub order-reads : reading (order_ticket 5 a b 400 (text "T1") iban) ≡ Ok (record { kind = Order; time = 5; amount = 400 })
unfolding reading is_bic is_txid is_iban
order-reads = refl

pub yes-reads : reading (yes_ticket 24 b a (text "T1")) ≡ Ok (record { kind = Yes; time = 24; amount = 0 })
unfolding reading is_bic is_txid
yes-reads = refl

pub inquiry-reads : reading (inquiry_ticket 30 a a (text "T1")) ≡ Ok (record { kind = Inquiry; time = 30; amount = 0 })
unfolding reading is_bic is_txid
inquiry-reads = refl

pub tick-reads : reading (tick_ticket 31) ≡ Ok (record { kind = Tick; time = 31; amount = 0 })
unfolding reading
tick-reads = refl

-- the order is well formed
pub order-well-formed : WellFormedTicket Order (order_written 5 a b 400 (text "T1") iban)
unfolding is_bic is_txid is_iban
order-well-formed =
    record {
      kind = refl;
      low = omega arith;
      high = omega arith;
      time = omega arith;
      least = omega arith;
      most = omega arith;
      sender = refl;
      payee = refl;
      txid = refl;
      iban = refl;
    }

-- and what is not is refused: a sender of eight bytes, a recall's flag 5, a wrong IBAN, no amount
pub short-sender : reading (cover_in_ticket 0 (text "AAAALV22") 1000) ≡ Err 7
unfolding reading is_bic
short-sender = refl

pub recall-flag-5 : reading (recall_ticket 9 a 5 a (text "T1")) ≡ Err 7
unfolding reading
recall-flag-5 = refl

-- 02, slip 6: 7 also covers a malformed BIC of the payer: none, one of eight bytes, small letters; a cover in names no payer
pub no-payer : reading (yes_ticket 24 b [] (text "T1")) ≡ Err 7
unfolding reading is_bic is_txid
no-payer = refl

pub short-payer : reading (yes_ticket 24 b (text "AAAALV22") (text "T1")) ≡ Err 7
unfolding reading is_bic is_txid
short-payer = refl

pub small-payer : reading (inquiry_ticket 30 a (text "aaaalv22xxx") (text "T1")) ≡ Err 7
unfolding reading is_bic is_txid
small-payer = refl

pub cover-with-payer : reading (ticket_bytes cover_with_payer) ≡ Err 7
unfolding reading is_bic
cover-with-payer = refl

pub wrong-iban : reading (order_ticket 5 a b 400 (text "T1") (text "LV81BANK0000435195001")) ≡ Err 8
unfolding reading is_bic is_txid is_iban
wrong-iban = refl

pub no-amount : reading (cover_in_ticket 0 a 0) ≡ Err 9
unfolding reading is_bic
no-amount = refl
