-- Edges of the steps as rows. Assumes nothing.
use mathlib.Core.List.{List, [], ◌∷◌, ◌++◌}
use Rattle.fields.specs.Text.{text}
use Rattle.fields.proofs.CaseRows.{Row}
use Rattle.ticket.specs.TicketWriting.{
  cover_in_ticket,
  cover_out_ticket,
  order_ticket,
  yes_ticket,
  no_ticket,
  recall_ticket,
  return_ticket,
  decline_ticket,
  inquiry_ticket,
  cut_ticket,
  confirm_ticket,
  tick_ticket,
}
use Rattle.dayfile.specs.FileWriting.{file_bytes, bank, bank_opening, linked, direct, onward}
use Rattle.rules.proofs.Names.{bic_a, bic_b, bic_c, bic_l, bic_z, tx1, tx2, tx3, iban_d, small_iban_d, two_banks, day_of, day}

abbrev pub edges : List Row
edges =
    day "a second before its time-out an order still waits"
    (two_banks
    (cover_in_ticket 0 bic_a 1000
    ∷ order_ticket 5 bic_a bic_b 400 tx1 iban_d
    ∷ tick_ticket 24
    ∷ []))
    "T 0 0 0 0\nT 1 0 1 1\nR 1 1 0 400\nT 2 0 0 0\nC 0 600 400 0\nC 1 0 0 0\n"
    ∷ day "in that second it expires: the inquiry repeats it"
    (two_banks
    (cover_in_ticket 0 bic_a 1000
    ∷ order_ticket 5 bic_a bic_b 400 tx1 iban_d
    ∷ inquiry_ticket 25 bic_a bic_a tx1
    ∷ []))
    "T 0 0 0 0\nT 1 0 1 1\nR 1 1 0 400\nT 2 0 3 0\nR 0 4 0 400\nR 1 4 0 400\nR 0 4 0 400\nC 0 1000 0 0\nC 1 0 0 0\n"
    ∷ day "near the top of 32 bits an order waits its 20 seconds"
    (two_banks
    (cover_in_ticket 0 bic_a 1000
    ∷ order_ticket 4294967280 bic_a bic_b 400 tx1 iban_d
    ∷ tick_ticket 4294967295
    ∷ []))
    "T 0 0 0 0\nT 1 0 1 1\nR 1 1 0 400\nT 2 0 0 0\nC 0 600 400 0\nC 1 0 0 0\n"
    ∷ day "at the top of 32 bits it expires"
    (two_banks
    (cover_in_ticket 0 bic_a 1000
    ∷ order_ticket 4294967275 bic_a bic_b 400 tx1 iban_d
    ∷ tick_ticket 4294967295
    ∷ []))
    "T 0 0 0 0\nT 1 0 1 1\nR 1 1 0 400\nT 2 0 2 0\nR 0 4 0 400\nR 1 4 0 400\nC 0 1000 0 0\nC 1 0 0 0\n"
    ∷ day "a linked system has no time-out and is not told of its own yes"
    (file_bytes
    (bank bic_a ∷ linked bic_l ∷ [])
    (direct bic_l 1 ∷ [])
    (cover_in_ticket 0 bic_a 1000
    ∷ order_ticket 5 bic_a bic_l 400 tx1 iban_d
    ∷ tick_ticket 100
    ∷ inquiry_ticket 150 bic_a bic_a tx1
    ∷ yes_ticket 200 bic_l bic_a tx1
    ∷ []))
    "T 0 0 0 0\nT 1 0 1 1\nR 1 1 0 400\nT 2 0 0 0\nT 3 0 1 0\nR 1 8 0 400\nT 4 0 1 0\nR 0 2 0 400\nC 0 600 0 0\nC 1 400 0 0\n"
    ∷ day "a no is told to the payer only"
    (two_banks
    (cover_in_ticket 0 bic_a 1000
    ∷ order_ticket 5 bic_a bic_b 400 tx1 iban_d
    ∷ no_ticket 6 bic_b bic_a tx1
    ∷ []))
    "T 0 0 0 0\nT 1 0 1 1\nR 1 1 0 400\nT 2 0 1 0\nR 0 3 0 400\nC 0 1000 0 0\nC 1 0 0 0\n"
    ∷ day_of "a return moves available cover, and frees no reservation"
    (two_banks
    (cover_in_ticket 0 bic_a 1000
    ∷ order_ticket 5 bic_a bic_b 400 tx1 iban_d
    ∷ order_ticket 6 bic_a bic_b 300 tx2 iban_d
    ∷ yes_ticket 7 bic_b bic_a tx1
    ∷ recall_ticket 8 bic_a 1 bic_a tx1
    ∷ inquiry_ticket 9 bic_a bic_a tx1
    ∷ return_ticket 10 bic_b 400 bic_a tx1
    ∷ []))
    (text "T 0 0 0 0\nT 1 0 1 1\nR 1 1 0 400\nT 2 0 1 1\nR 1 1 1 300\nT 3 0 2 0\nR 0 2 0 400\nR 1 2 0 400\n"
    ++ text "T 4 0 1 0\nR 1 5 0 400\nT 5 0 2 0\nR 0 2 0 400\nR 1 8 0 400\nT 6 0 1 0\nR 0 6 0 400\nC 0 700 300 0\nC 1 0 0 0\n")
    ∷ day_of "a return without available cover is refused by 20, and one of what there is accepted"
    (two_banks
    (cover_in_ticket 0 bic_a 1000
    ∷ order_ticket 5 bic_a bic_b 400 tx1 iban_d
    ∷ yes_ticket 6 bic_b bic_a tx1
    ∷ cover_out_ticket 7 bic_b 1
    ∷ recall_ticket 8 bic_a 1 bic_a tx1
    ∷ return_ticket 9 bic_b 400 bic_a tx1
    ∷ return_ticket 10 bic_b 399 bic_a tx1
    ∷ []))
    (text "T 0 0 0 0\nT 1 0 1 1\nR 1 1 0 400\nT 2 0 2 0\nR 0 2 0 400\nR 1 2 0 400\nT 3 0 0 0\n"
    ++ text "T 4 0 1 0\nR 1 5 0 400\nT 5 20 0 0\nT 6 0 1 0\nR 0 6 0 399\nC 0 999 0 0\nC 1 0 0 0\n")
    ∷ day_of "a decline ends the recall"
    (two_banks
    (cover_in_ticket 0 bic_a 1000
    ∷ order_ticket 5 bic_a bic_b 400 tx1 iban_d
    ∷ yes_ticket 6 bic_b bic_a tx1
    ∷ recall_ticket 7 bic_a 1 bic_a tx1
    ∷ decline_ticket 8 bic_b 1 bic_a tx1
    ∷ inquiry_ticket 9 bic_a bic_a tx1
    ∷ recall_ticket 10 bic_a 1 bic_a tx1
    ∷ []))
    (text "T 0 0 0 0\nT 1 0 1 1\nR 1 1 0 400\nT 2 0 2 0\nR 0 2 0 400\nR 1 2 0 400\nT 3 0 1 0\nR 1 5 0 400\n"
    ++ text "T 4 0 1 0\nR 0 7 0 400\nT 5 0 2 0\nR 0 2 0 400\nR 0 7 0 400\nT 6 18 0 0\nC 0 600 0 0\nC 1 400 0 0\n")
    ∷ day "a cut counts no reserved cover"
    (file_bytes
    (bank_opening bic_a 100 ∷ bank_opening bic_b 0 ∷ [])
    (direct bic_b 1 ∷ [])
    (cover_in_ticket 0 bic_a 150
    ∷ order_ticket 1 bic_a bic_b 80 tx1 iban_d
    ∷ cut_ticket 2
    ∷ cut_ticket 3
    ∷ confirm_ticket 4 bic_a 30
    ∷ []))
    "T 0 0 0 0\nT 1 0 1 1\nR 1 1 0 80\nT 2 0 1 0\nR 0 10 65535 30\nT 3 21 0 0\nT 4 0 0 0\nC 0 100 80 0\nC 1 0 0 0\n"
    ∷ day "payer and payee may be the same"
    (file_bytes
    (bank bic_a ∷ [])
    (direct bic_a 0 ∷ [])
    (cover_in_ticket 0 bic_a 100
    ∷ order_ticket 1 bic_a bic_a 60 tx1 iban_d
    ∷ yes_ticket 2 bic_a bic_a tx1
    ∷ recall_ticket 3 bic_a 1 bic_a tx1
    ∷ return_ticket 4 bic_a 60 bic_a tx1
    ∷ []))
    "T 0 0 0 0\nT 1 0 1 1\nR 0 1 0 60\nT 2 0 2 0\nR 0 2 0 60\nR 0 2 0 60\nT 3 0 1 0\nR 0 5 0 60\nT 4 0 1 0\nR 0 6 0 60\nC 0 100 0 0\n"
    ∷ day "rows followed are counted for an accepted order alone"
    (file_bytes
    (bank bic_a ∷ bank bic_b ∷ [])
    (direct bic_b 1 ∷ onward bic_c 0 ∷ onward bic_a 1 ∷ [])
    (cover_in_ticket 0 bic_a 100
    ∷ order_ticket 1 bic_a bic_a 60 tx1 iban_d
    ∷ order_ticket 2 bic_a bic_a 60 tx2 iban_d
    ∷ order_ticket 3 bic_a bic_l 10 tx3 iban_d
    ∷ order_ticket 4 bic_a bic_b 10 tx1 iban_d
    ∷ []))
    "T 0 0 0 0\nT 1 0 1 3\nR 1 1 0 60\nT 2 20 0 0\nT 3 14 0 0\nT 4 13 0 0\nC 0 40 60 0\nC 1 0 0 0\n"
    ∷ day "a time before the clock is refused by 11 and touches nothing"
    (two_banks
    (cover_in_ticket 10 bic_a 1000
    ∷ cover_in_ticket 9 bic_a 1
    ∷ cover_in_ticket 10 bic_c 1
    ∷ yes_ticket 11 bic_a bic_a tx1
    ∷ order_ticket 12 bic_a bic_b 1 tx1 iban_d
    ∷ yes_ticket 13 bic_a bic_a tx1
    ∷ []))
    "T 0 0 0 0\nT 1 11 0 0\nT 2 12 0 0\nT 3 16 0 0\nT 4 0 1 1\nR 1 1 0 1\nT 5 17 0 0\nC 0 999 1 0\nC 1 0 0 0\n"
    ∷ day "a refused ticket sets the clock"
    (two_banks (cover_in_ticket 10 bic_z 1 ∷ tick_ticket 9 ∷ []))
    "T 0 12 0 0\nT 1 11 0 0\nC 0 0 0 0\nC 1 0 0 0\n"
    ∷ day "a cut moves no reserved cover, and held somewhere refuses the next by 21"
    (file_bytes
    (bank_opening bic_a 100 ∷ bank_opening bic_b 0 ∷ [])
    (direct bic_b 1 ∷ [])
    (cover_in_ticket 0 bic_a 250
    ∷ order_ticket 1 bic_a bic_b 80 tx1 iban_d
    ∷ cut_ticket 2
    ∷ cut_ticket 3
    ∷ confirm_ticket 4 bic_a 70
    ∷ cut_ticket 5
    ∷ []))
    "T 0 0 0 0\nT 1 0 1 1\nR 1 1 0 80\nT 2 0 1 0\nR 0 11 65535 70\nT 3 21 0 0\nT 4 0 0 0\nT 5 0 0 0\nC 0 100 80 0\nC 1 0 0 0\n"
    ∷ day "an open debit is confirmed by all of it, and one cent more is refused by 21"
    (file_bytes
    (bank_opening bic_a 100 ∷ [])
    []
    (cover_in_ticket 0 bic_a 30 ∷ cut_ticket 1 ∷ confirm_ticket 2 bic_a 71 ∷ confirm_ticket 3 bic_a 70 ∷ []))
    "T 0 0 0 0\nT 1 0 1 0\nR 0 10 65535 70\nT 2 21 0 0\nT 3 0 0 0\nC 0 100 0 0\n"
    ∷ day "a confirm with neither held nor open debit is refused by 21"
    (file_bytes (bank_opening bic_a 100 ∷ []) [] (confirm_ticket 0 bic_a 0 ∷ []))
    "T 0 21 0 0\nC 0 0 0 0\n"
    -- 02, slip 1
    ∷ day "one small letter, first or last behind the check digits, is refused by 8, and the capital there accepted"
    (two_banks
    (cover_in_ticket 0 bic_a 1000
    ∷ order_ticket 5 bic_a bic_b 100 tx1 (text "LV80bANK0000435195001")
    ∷ order_ticket 5 bic_a bic_b 100 tx1 iban_d
    ∷ order_ticket 5 bic_a bic_b 100 tx2 (text "LV31BANK000043519500a")
    ∷ order_ticket 5 bic_a bic_b 100 tx2 (text "LV31BANK000043519500A")
    ∷ []))
    "T 0 0 0 0\nT 1 8 0 0\nT 2 0 1 1\nR 1 1 0 100\nT 3 8 0 0\nT 4 0 1 1\nR 1 1 1 100\nC 0 800 200 0\nC 1 0 0 0\n"
    ∷ day "an IBAN with digits alone behind the country is accepted"
    (two_banks (cover_in_ticket 0 bic_a 1000 ∷ order_ticket 5 bic_a bic_b 400 tx1 (text "DE89370400440532013000") ∷ []))
    "T 0 0 0 0\nT 1 0 1 1\nR 1 1 0 400\nC 0 600 400 0\nC 1 0 0 0\n"
    ∷ day_of "a small letter is looked at after 7 and before 9 to 11, and the clock stays"
    (two_banks
    (cover_in_ticket 10 bic_a 1000
    ∷ order_ticket 10 bic_a bic_b 400 tx1 iban_d
    ∷ order_ticket 40 bic_a bic_b 400 (text "TX 2") small_iban_d
    ∷ order_ticket 40 bic_a bic_b 0 tx2 small_iban_d
    ∷ order_ticket 40 bic_a bic_b 100_000_000_000 tx2 small_iban_d
    ∷ order_ticket 9 bic_a bic_b 400 tx2 small_iban_d
    ∷ order_ticket 40 bic_a bic_b 400 tx2 small_iban_d
    ∷ yes_ticket 29 bic_b bic_a tx1
    ∷ []))
    (text "T 0 0 0 0\nT 1 0 1 1\nR 1 1 0 400\nT 2 7 0 0\nT 3 8 0 0\nT 4 8 0 0\nT 5 8 0 0\nT 6 8 0 0\n"
    ++ text "T 7 0 2 0\nR 0 2 0 400\nR 1 2 0 400\nC 0 600 0 0\nC 1 400 0 0\n")
    ∷ []
