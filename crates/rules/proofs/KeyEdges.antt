-- Edges of TxIds that belong to their sender as rows (02, slip 6): which pair of payer and TxId is held, and which isn't. Assumes nothing.
use Prim.Native.Nat.{ℕ}
use Prim.Native.String.{String}
use mathlib.Core.List.{List, [], ◌∷◌, ◌++◌}
use Rattle.fields.specs.Text.{text}
use Rattle.fields.proofs.CaseRows.{Row}
use Rattle.ticket.specs.TicketWriting.{
  ticket_bytes,
  cover_in_ticket,
  order_ticket,
  yes_ticket,
  no_ticket,
  recall_ticket,
  return_ticket,
  decline_ticket,
  inquiry_ticket,
  tick_ticket,
}
use Rattle.dayfile.specs.FileWriting.{file_bytes, bank, direct}
use Rattle.rules.proofs.Names.{bic_a, bic_b, bic_z, tx1, iban_d, day_of}

-- two banks with a route to each, which lodge 1,000 each: what comes then, and what is printed of it behind the lines of these
abbrev lodged_both : String → List ℕ → List ℕ → List (List ℕ) → List ℕ → Row
lodged_both name one other tickets due =
    day_of name
    (file_bytes
    (bank one ∷ bank other ∷ [])
    (direct one 0 ∷ direct other 1 ∷ [])
    (cover_in_ticket 0 one 1000 ∷ cover_in_ticket 0 other 1000 ∷ tickets))
    (text "T 0 0 0 0\nT 1 0 0 0\n" ++ due)

-- A orders 400 for B at 5, and B 300 for A at 6, both with one TxId
abbrev shared : String → List (List ℕ) → List ℕ → Row
shared name tickets due =
    lodged_both name bic_a bic_b
    (order_ticket 5 bic_a bic_b 400 tx1 iban_d ∷ order_ticket 6 bic_b bic_a 300 tx1 iban_d ∷ tickets)
    (text "T 2 0 1 1\nR 1 1 0 400\nT 3 0 1 1\nR 0 1 1 300\n" ++ due)

-- another branch of A
abbrev branch_a : List ℕ
branch_a = text "AAAALV22ABC"

-- a cover in of A with a BIC in bytes 27 to 37
abbrev cover_with_payer : List ℕ
cover_with_payer =
    ticket_bytes (record { kind = 1; flag = 0; time = 5; amount = 1; sender = bic_a; payee = bic_a; txid = []; iban = [] })

abbrev pub key_edges : List Row
key_edges =
    shared "two payers with one TxId: a yes to one and a no to the other, each from its payee, and each inquiry repeats its own"
    (yes_ticket 7 bic_b bic_a tx1
    ∷ no_ticket 8 bic_a bic_b tx1
    ∷ inquiry_ticket 9 bic_a bic_a tx1
    ∷ inquiry_ticket 10 bic_b bic_b tx1
    ∷ [])
    (text "T 4 0 2 0\nR 0 2 0 400\nR 1 2 0 400\nT 5 0 1 0\nR 1 3 1 300\nT 6 0 1 0\nR 0 2 0 400\nT 7 0 1 0\nR 1 3 1 300\n"
    ++ text "C 0 600 0 0\nC 1 1400 0 0\n")
    ∷ shared "of two orders with one TxId each expires in its own second"
    (tick_ticket 25 ∷ inquiry_ticket 25 bic_b bic_b tx1 ∷ tick_ticket 26 ∷ [])
    (text "T 4 0 2 0\nR 0 4 0 400\nR 1 4 0 400\nT 5 0 1 0\nR 1 9 1 300\nT 6 0 2 0\nR 1 4 1 300\nR 0 4 1 300\nC 0 1000 0 0\n"
    ++ text "C 1 1000 0 0\n")
    ∷ shared "one payer's TxId a second time is refused by 13, whoever else has it, and though its own order has ended"
    (order_ticket 7 bic_a bic_a 1 tx1 iban_d
    ∷ no_ticket 8 bic_b bic_a tx1
    ∷ order_ticket 9 bic_a bic_b 1 tx1 iban_d
    ∷ order_ticket 10 bic_b bic_a 1 tx1 iban_d
    ∷ [])
    (text "T 4 13 0 0\nT 5 0 1 0\nR 0 3 0 400\nT 6 13 0 0\nT 7 13 0 0\nC 0 1000 0 0\nC 1 700 300 0\n")
    ∷ shared "the pair is held and another sends: 17, for each kind from 4 to 8"
    (yes_ticket 7 bic_a bic_a tx1
    ∷ no_ticket 7 bic_b bic_b tx1
    ∷ recall_ticket 7 bic_b 1 bic_a tx1
    ∷ return_ticket 7 bic_a 1 bic_a tx1
    ∷ decline_ticket 7 bic_b 1 bic_b tx1
    ∷ inquiry_ticket 7 bic_a bic_b tx1
    ∷ [])
    (text "T 4 17 0 0\nT 5 17 0 0\nT 6 17 0 0\nT 7 17 0 0\nT 8 17 0 0\nT 9 17 0 0\nC 0 600 400 0\nC 1 700 300 0\n")
    ∷ shared "one of two orders with one TxId is recalled and returned, and the other stays as it is"
    (yes_ticket 7 bic_b bic_a tx1
    ∷ recall_ticket 8 bic_a 1 bic_a tx1
    ∷ decline_ticket 9 bic_a 1 bic_b tx1
    ∷ return_ticket 9 bic_b 400 bic_a tx1
    ∷ yes_ticket 9 bic_a bic_b tx1
    ∷ [])
    (text "T 4 0 2 0\nR 0 2 0 400\nR 1 2 0 400\nT 5 0 1 0\nR 1 5 0 400\nT 6 18 0 0\nT 7 0 1 0\nR 0 6 0 400\n"
    ++ text "T 8 0 2 0\nR 1 2 1 300\nR 0 2 1 300\nC 0 1300 0 0\nC 1 700 0 0\n")
    ∷ lodged_both "the TxId with another payer is refused by 16, for each kind from 4 to 8; with its own, from the wrong sender, by 17"
    bic_a bic_b
    (order_ticket 5 bic_a bic_b 400 tx1 iban_d
    ∷ yes_ticket 6 bic_b bic_b tx1
    ∷ no_ticket 6 bic_b bic_b tx1
    ∷ recall_ticket 6 bic_a 1 bic_b tx1
    ∷ return_ticket 6 bic_b 1 bic_b tx1
    ∷ decline_ticket 6 bic_b 1 bic_b tx1
    ∷ inquiry_ticket 6 bic_a bic_b tx1
    ∷ inquiry_ticket 6 bic_b bic_a tx1
    ∷ yes_ticket 6 bic_b bic_a tx1
    ∷ [])
    (text "T 2 0 1 1\nR 1 1 0 400\nT 3 16 0 0\nT 4 16 0 0\nT 5 16 0 0\nT 6 16 0 0\nT 7 16 0 0\nT 8 16 0 0\nT 9 17 0 0\n"
    ++ text "T 10 0 2 0\nR 0 2 0 400\nR 1 2 0 400\nC 0 600 0 0\nC 1 1400 0 0\n")
    ∷ lodged_both "a payer that is no participant is refused by 16, a sender that is none by 12" bic_a bic_b
    (order_ticket 5 bic_a bic_b 400 tx1 iban_d ∷ yes_ticket 6 bic_b bic_z tx1 ∷ inquiry_ticket 6 bic_z bic_z tx1 ∷ [])
    (text "T 2 0 1 1\nR 1 1 0 400\nT 3 16 0 0\nT 4 12 0 0\nC 0 600 400 0\nC 1 1000 0 0\n")
    ∷ lodged_both "no payer, one of eight bytes and one of small letters are refused by 7, and so is a cover in that has one" bic_a bic_b
    (order_ticket 5 bic_a bic_b 400 tx1 iban_d
    ∷ yes_ticket 6 bic_b [] tx1
    ∷ yes_ticket 6 bic_b (text "AAAALV22") tx1
    ∷ inquiry_ticket 6 bic_a (text "aaaaLV22XXX") tx1
    ∷ cover_with_payer
    ∷ [])
    (text "T 2 0 1 1\nR 1 1 0 400\nT 3 7 0 0\nT 4 7 0 0\nT 5 7 0 0\nT 6 7 0 0\nC 0 600 400 0\nC 1 1000 0 0\n")
    ∷ lodged_both "payer and payee the same, and another's order with the TxId beside it" bic_a bic_b
    (order_ticket 5 bic_a bic_a 400 tx1 iban_d
    ∷ order_ticket 5 bic_b bic_b 300 tx1 iban_d
    ∷ yes_ticket 6 bic_a bic_a tx1
    ∷ yes_ticket 6 bic_a bic_b tx1
    ∷ no_ticket 6 bic_b bic_b tx1
    ∷ [])
    (text "T 2 0 1 1\nR 0 1 0 400\nT 3 0 1 1\nR 1 1 1 300\nT 4 0 2 0\nR 0 2 0 400\nR 0 2 0 400\nT 5 17 0 0\n"
    ++ text "T 6 0 1 0\nR 1 3 1 300\nC 0 1000 0 0\nC 1 1000 0 0\n")
    ∷ lodged_both "two pairs that are alike where XXX is left off and BIC and TxId are joined are two orders" bic_a branch_a
    (order_ticket 5 bic_a branch_a 400 (text "ABCTX1") iban_d
    ∷ order_ticket 6 branch_a bic_a 300 tx1 iban_d
    ∷ inquiry_ticket 7 bic_a bic_a tx1
    ∷ no_ticket 7 bic_a branch_a tx1
    ∷ yes_ticket 7 branch_a bic_a (text "ABCTX1")
    ∷ [])
    (text "T 2 0 1 1\nR 1 1 0 400\nT 3 0 1 1\nR 0 1 1 300\nT 4 16 0 0\nT 5 0 1 0\nR 1 3 1 300\n"
    ++ text "T 6 0 2 0\nR 0 2 0 400\nR 1 2 0 400\nC 0 600 0 0\nC 1 1400 0 0\n")
    ∷ []
