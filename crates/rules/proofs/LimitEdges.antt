-- Edges of the limits as rows: of days, of report buffers, and of books that hold nearly all orders that a book can hold.
--     lent_row     the refusal of a first ticket with a report buffer
--     order_row    an order given to a book that holds n orders: its refusal, and how many are held then
-- Assumes nothing.
use Prim.Native.Nat.{ℕ, zero, suc, ◌-◌}
use Prim.Native.String.{String}
use mathlib.Core.List.{List, [], ◌∷◌, ◌++◌}
use lib.ListN.{replicate}
use Rattle.fields.specs.Text.{text, padded}
use Rattle.fields.proofs.CaseRows.{Row}
use Rattle.ticket.specs.TicketWriting.{cover_in_ticket, order_ticket, cut_ticket, confirm_ticket, tick_ticket}
use Rattle.dayfile.specs.FileWriting.{file_bytes, bank, bank_opening}
use Rattle.rules.specs.Book.{unused_order, no_cover, book_of}
use Rattle.rules.specs.Step.{step_of, outcome}
use Rattle.rules.specs.Program.{decimal}
use Rattle.rules.specs.declared.Recall.TheVariants.{None}
use Rattle.rules.specs.declared.Status.TheVariants.{Settled}
use Rattle.rules.specs.declared.Order.{Order}
use Rattle.rules.specs.declared.Cover.{Cover}
use Rattle.rules.specs.declared.Book.{Book}
use Rattle.rules.proofs.Names.{bic_a, bic_b, tx1, tx2, iban_d, two_banks, day}

abbrev pub lent_row : String → ℕ → ℕ → Row
lent_row name n due =
    record {
      shows = name;
      rule = λ buffer. (outcome (book_of (two_banks [])) (tick_ticket 0) buffer).refusal ∷ [];
      given = replicate n 0;
      due = due ∷ [];
    }

-- a settled order of one cent, A to B, with the TxId "TX" and its number
abbrev pub held_order : ℕ → Order
held_order i =
    record { txid = padded 35 (text "TX" ++ decimal i); payer = 0; payee = 1; amount = 1; time = 0; status = Settled None 0 }

-- n of them from number i on
abbrev pub held_from : ℕ → ℕ → List Order
held_from i zero = []
held_from i (suc n) = held_order i ∷ held_from (suc i) n

abbrev pub only_available : ℕ → Cover
only_available n = record { available = n; reserved = 0; held = 0; debit = 0 }

-- A lodged 1000 cents and n orders were settled
abbrev pub holding : ℕ → Book
holding n =
    record {
      clock = 0;
      covers = only_available (1000 - n) ∷ only_available n ∷ replicate 30 no_cover;
      orders = held_from 0 n ++ replicate (256 - n) unused_order;
      count = n;
      roster = (book_of (two_banks [])).roster;
    }

abbrev pub order_row : String → ℕ → List ℕ → ℕ → ℕ → Row
order_row name n txid refusal held =
    record {
      shows = name;
      rule = λ t. let s = step_of (holding n) t in s.refusal ∷ s.book.count ∷ [];
      given = order_ticket 1 bic_a bic_b 1 txid iban_d;
      due = refusal ∷ held ∷ [];
    }

abbrev pub limits : List Row
limits =
    lent_row "a report buffer of 6,527 bytes is refused by 6" 6_527 6
    ∷ lent_row "a report buffer of 6,528 bytes is enough" 6_528 0
    ∷ order_row "the 256th order is accepted" 255 (text "NEW") 0 256
    ∷ order_row "the 257th order is refused by 15" 256 (text "NEW") 15 256
    ∷ order_row "the 257th order with a TxId that is held is refused by 13" 256 (text "TX255") 13 256
    ∷ day "an order of 99,999,999,999 is accepted, one cent more refused by 10"
    (two_banks
    (cover_in_ticket 0 bic_a 200_000_000_000
    ∷ order_ticket 5 bic_a bic_b 99_999_999_999 tx1 iban_d
    ∷ order_ticket 6 bic_a bic_b 100_000_000_000 tx2 iban_d
    ∷ []))
    "T 0 0 0 0\nT 1 0 1 1\nR 1 1 0 99999999999\nT 2 10 0 0\nC 0 100000000001 99999999999 0\nC 1 0 0 0\n"
    ∷ day "10^18 in all by cover in, reserved counted: all of it, and one cent more refused by 22"
    (two_banks
    (cover_in_ticket 0 bic_a 999_999_999_999_999_999
    ∷ order_ticket 1 bic_a bic_b 400 tx1 iban_d
    ∷ cover_in_ticket 2 bic_b 2
    ∷ cover_in_ticket 3 bic_b 1
    ∷ cover_in_ticket 4 bic_a 1
    ∷ []))
    "T 0 0 0 0\nT 1 0 1 1\nR 1 1 0 400\nT 2 22 0 0\nT 3 0 0 0\nT 4 22 0 0\nC 0 999999999999999599 400 0\nC 1 1 0 0\n"
    ∷ day "10^18 in all by a confirmed debit: all of it, and one cent more refused by 22"
    (file_bytes
    (bank_opening bic_a 100 ∷ bank bic_b ∷ [])
    []
    (cover_in_ticket 0 bic_a 30
    ∷ cut_ticket 1
    ∷ cover_in_ticket 2 bic_b 999_999_999_999_999_901
    ∷ confirm_ticket 3 bic_a 70
    ∷ confirm_ticket 4 bic_a 69
    ∷ []))
    "T 0 0 0 0\nT 1 0 1 0\nR 0 10 65535 70\nT 2 0 0 0\nT 3 22 0 0\nT 4 0 0 0\nC 0 99 0 0\nC 1 999999999999999901 0 0\n"
    ∷ []
