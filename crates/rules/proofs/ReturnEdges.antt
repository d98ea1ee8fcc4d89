-- Edges of returns less a charge as rows (02, slip 2): what may be returned, what moves, what is told and repeated. Assumes nothing.
use Prim.Native.Nat.{ℕ}
use Prim.Native.String.{String}
use mathlib.Core.List.{List, [], ◌∷◌, ◌++◌}
use Rattle.fields.specs.Text.{text}
use Rattle.fields.proofs.CaseRows.{Row}
use Rattle.ticket.specs.TicketWriting.{
  cover_in_ticket,
  cover_out_ticket,
  order_ticket,
  yes_ticket,
  recall_ticket,
  return_ticket,
  decline_ticket,
  inquiry_ticket,
}
use Rattle.dayfile.specs.FileWriting.{file_bytes, bank, direct}
use Rattle.rules.proofs.Names.{bic_a, bic_b, tx1, iban_d, two_banks, day_of}

-- an order of 400 from A to B is settled and recalled: what comes then, and what is printed of it behind the lines of these
abbrev recalled : String → List (List ℕ) → String → Row
recalled name tickets due =
    day_of name
    (two_banks
    (cover_in_ticket 0 bic_a 1000
    ∷ order_ticket 5 bic_a bic_b 400 tx1 iban_d
    ∷ yes_ticket 6 bic_b bic_a tx1
    ∷ recall_ticket 7 bic_a 1 bic_a tx1
    ∷ tickets))
    (text "T 0 0 0 0\nT 1 0 1 1\nR 1 1 0 400\nT 2 0 2 0\nR 0 2 0 400\nR 1 2 0 400\nT 3 0 1 0\nR 1 5 0 400\n" ++ text due)

abbrev pub return_edges : List Row
return_edges =
    recalled "a return of 1 cent: the charge stays with the payee, and an inquiry repeats what was returned"
    (return_ticket 8 bic_b 1 bic_a tx1 ∷ inquiry_ticket 9 bic_a bic_a tx1 ∷ [])
    "T 4 0 1 0\nR 0 6 0 1\nT 5 0 1 0\nR 0 6 0 1\nC 0 601 0 0\nC 1 399 0 0\n"
    ∷ recalled "a return of one cent less than the order: the rest can't be returned, declined or recalled"
    (return_ticket 8 bic_b 399 bic_a tx1
    ∷ inquiry_ticket 9 bic_a bic_a tx1
    ∷ return_ticket 10 bic_b 1 bic_a tx1
    ∷ decline_ticket 11 bic_b 1 bic_a tx1
    ∷ recall_ticket 12 bic_a 1 bic_a tx1
    ∷ [])
    "T 4 0 1 0\nR 0 6 0 399\nT 5 0 1 0\nR 0 6 0 399\nT 6 18 0 0\nT 7 18 0 0\nT 8 18 0 0\nC 0 999 0 0\nC 1 1 0 0\n"
    ∷ recalled "a return of one cent more than the order is refused by 19, and one of all of it accepted"
    (return_ticket 8 bic_b 401 bic_a tx1 ∷ return_ticket 9 bic_b 400 bic_a tx1 ∷ inquiry_ticket 10 bic_a bic_a tx1 ∷ [])
    "T 4 19 0 0\nT 5 0 1 0\nR 0 6 0 400\nT 6 0 1 0\nR 0 6 0 400\nC 0 1000 0 0\nC 1 0 0 0\n"
    ∷ recalled "20 looks at the return's amount: of 300 available 301 are refused and 300 accepted"
    (cover_out_ticket 8 bic_b 100 ∷ return_ticket 9 bic_b 301 bic_a tx1 ∷ return_ticket 10 bic_b 300 bic_a tx1 ∷ [])
    "T 4 0 0 0\nT 5 20 0 0\nT 6 0 1 0\nR 0 6 0 300\nC 0 900 0 0\nC 1 0 0 0\n"
    ∷ recalled "above the order and above what is available is 19"
    (cover_out_ticket 8 bic_b 100 ∷ return_ticket 9 bic_b 401 bic_a tx1 ∷ return_ticket 10 bic_b 400 bic_a tx1 ∷ [])
    "T 4 0 0 0\nT 5 19 0 0\nT 6 20 0 0\nC 0 600 0 0\nC 1 300 0 0\n"
    ∷ day_of "payer and payee the same: nothing moves, and 19 and 20 are looked at all the same"
    (file_bytes
    (bank bic_a ∷ [])
    (direct bic_a 0 ∷ [])
    (cover_in_ticket 0 bic_a 100
    ∷ order_ticket 1 bic_a bic_a 60 tx1 iban_d
    ∷ yes_ticket 2 bic_a bic_a tx1
    ∷ recall_ticket 3 bic_a 1 bic_a tx1
    ∷ cover_out_ticket 4 bic_a 70
    ∷ return_ticket 5 bic_a 61 bic_a tx1
    ∷ return_ticket 6 bic_a 31 bic_a tx1
    ∷ return_ticket 7 bic_a 30 bic_a tx1
    ∷ inquiry_ticket 8 bic_a bic_a tx1
    ∷ []))
    (text "T 0 0 0 0\nT 1 0 1 1\nR 0 1 0 60\nT 2 0 2 0\nR 0 2 0 60\nR 0 2 0 60\nT 3 0 1 0\nR 0 5 0 60\n"
    ++ text "T 4 0 0 0\nT 5 19 0 0\nT 6 20 0 0\nT 7 0 1 0\nR 0 6 0 30\nT 8 0 1 0\nR 0 6 0 30\nC 0 30 0 0\n")
    ∷ []
