-- Edges of the settlement desk as rows: 02, slip 7. Assumes nothing.
use Prim.Native.Nat.{ℕ, zero, suc, ◌+◌, ◌-◌, ◌/◌, ◌%◌, ◌^◌}
use mathlib.Core.Path.{refl}
use mathlib.Core.List.{List, [], ◌∷◌, ◌++◌}
use lib.ListN.{take, drop}
use Rattle.fields.specs.Text.{text, joined}
use Rattle.fields.proofs.CaseRows.{Row, AllMet, all-met}
use Rattle.codes.specs.Bic.{is_bic}
use Rattle.report.specs.ReportLayout.{reports_bytes}
use Rattle.report.specs.declared.Report.{Report}
use Rattle.ticket.specs.TicketWriting.{confirm_ticket}
use Rattle.dayfile.specs.FileWriting.{participants_bytes, bank, bank_opening, linked}
use Rattle.dayfile.specs.declared.roster.Participant.{Participant}
use Rattle.desk.specs.Settlement.{
  DeskInput,
  settlement,
  notice_for,
  drawn_from,
  credit_to,
  credits,
  transfers,
  confirms,
  rows_right,
  reports_right,
  balances_right,
  checked,
}
use Rattle.desk.specs.Desk.{desk_input}
use Rattle.desk.proofs.DeskRows.{bic_a, bic_b, both, cut_report, expiry, balances_bytes, given, desk_row, roomy_row, refused_row}

-- debit of A 100, credit of B 70
abbrev debit_a : Report
debit_a = cut_report 0 10 100

abbrev credit_b : Report
credit_b = cut_report 1 11 70

abbrev two : List Report
two = debit_a ∷ credit_b ∷ []

abbrev pub paid_in_full : DeskInput
paid_in_full = given two both (100 ∷ []) 70

-- (0,32,100) (64,65,70) (65,1,70) (32,64,100), tickets 100 and 70
abbrev fully : List ℕ
fully = 0 ∷ 0 ∷ 32 ∷ 100 ∷ 64 ∷ 65 ∷ 70 ∷ 65 ∷ 1 ∷ 70 ∷ 32 ∷ 64 ∷ 100 ∷ 999 ∷ 100 ∷ 70 ∷ []

abbrev most : ℕ
most = 1_000_000_000_000_000_000

abbrev most_debit : ℕ
most_debit = 1_000_000_000_000_000

-- banks of n different BICs: the last two letters differ
abbrev letters : ℕ → List ℕ
letters k = text "AAAALV22X" ++ ((65 + k / 26) ∷ (65 + k % 26) ∷ [])

abbrev banks : ℕ → List Participant
banks zero = []
banks (suc k) = banks k ++ (bank (letters k) ∷ [])

-- reports as they stand, of bytes
abbrev of_bytes : List ℕ → DeskInput
of_bytes reports = desk_input reports 60 (participants_bytes both) (balances_bytes (100 ∷ []) 70)

abbrev of_rows : List ℕ → DeskInput
of_rows rows = desk_input (reports_bytes two) 60 rows (balances_bytes (100 ∷ []) 70)

abbrev of_balances : List ℕ → DeskInput
of_balances balances = desk_input (reports_bytes two) 60 (participants_bytes both) balances

abbrev pub desk_edges : List Row
desk_edges =
    roomy_row "a debit of 100 and a credit of 70, paid in full" paid_in_full fully
    ∷ desk_row "buffers of just the bytes that are written" paid_in_full 40 216 fully
    ∷ desk_row "a byte short for the transfers" paid_in_full 39 216 (27 ∷ 999 ∷ [])
    ∷ desk_row "a byte short for the tickets" paid_in_full 40 215 (27 ∷ 999 ∷ [])
    ∷ roomy_row "an account with nothing: nothing drawn, a ticket of 0, and the credit in full" (given two both [] 70)
    (0 ∷ 64 ∷ 65 ∷ 70 ∷ 65 ∷ 1 ∷ 70 ∷ 999 ∷ 0 ∷ 70 ∷ [])
    ∷ desk_row "that debit alone: no transfer, one ticket of 0" (given (debit_a ∷ []) both [] 0) 0 108 (0 ∷ 999 ∷ 0 ∷ [])
    ∷ roomy_row "an account of 99: 99 drawn" (given two both (99 ∷ []) 70)
    (0 ∷ 0 ∷ 32 ∷ 99 ∷ 64 ∷ 65 ∷ 70 ∷ 65 ∷ 1 ∷ 70 ∷ 32 ∷ 64 ∷ 99 ∷ 999 ∷ 99 ∷ 70 ∷ [])
    ∷ roomy_row "an account of 101: 100 drawn" (given two both (101 ∷ []) 70) fully
    ∷ refused_row "a house account of 69, although the member's has plenty" (given two both (most ∷ []) 69)
    ∷ refused_row "a cut report to participant 2 of 2" (given (cut_report 2 11 70 ∷ []) both (100 ∷ []) 70)
    ∷ refused_row "a debit and a credit to one participant" (given (debit_a ∷ cut_report 0 11 70 ∷ []) both (100 ∷ []) 70)
    ∷ refused_row "two credits of nothing to one participant" (given (cut_report 0 11 0 ∷ cut_report 0 11 0 ∷ []) both (100 ∷ []) 70)
    ∷ roomy_row "a debit of 10^15" (given (cut_report 0 10 most_debit ∷ []) both (5 ∷ []) 0) (0 ∷ 0 ∷ 32 ∷ 5 ∷ 32 ∷ 64 ∷ 5 ∷ 999 ∷ 5 ∷ [])
    ∷ refused_row "a debit of a cent more" (given (cut_report 0 10 (most_debit + 1) ∷ []) both (5 ∷ []) 0)
    ∷ roomy_row "credits of 10^18 together, all that the house has" (given (cut_report 0 11 (most - 1) ∷ cut_report 1 11 1 ∷ []) both [] most)
    (0 ∷ 64 ∷ 65 ∷ most ∷ 65 ∷ 0 ∷ (most - 1) ∷ 65 ∷ 1 ∷ 1 ∷ 999 ∷ (most - 1) ∷ 1 ∷ [])
    ∷ refused_row "credits of a cent more together" (given (cut_report 0 11 most ∷ cut_report 1 11 1 ∷ []) both [] most)
    ∷ refused_row "credits whose sum passes 64 bits and would leave 0"
    (given (cut_report 0 11 (2 ^ 64 - 1) ∷ cut_report 1 11 1 ∷ []) both [] most)
    ∷ roomy_row "a member's balance of 10^18, which a credit takes above" (given (credit_b ∷ []) both (0 ∷ most ∷ []) 70)
    (0 ∷ 64 ∷ 65 ∷ 70 ∷ 65 ∷ 1 ∷ 70 ∷ 999 ∷ 70 ∷ [])
    ∷ refused_row "a balance of a cent more" (given two both ((most + 1) ∷ []) 70)
    ∷ refused_row "a balance of a cent more at number 31, which nobody has"
    (desk_input (reports_bytes two) 60 (participants_bytes both)
    (take 248 (balances_bytes (100 ∷ []) 70) ++ (13 ∷ 224 ∷ 182 ∷ 179 ∷ 167 ∷ 100 ∷ 0 ∷ 1 ∷ []) ++ drop 256 (balances_bytes (100 ∷ []) 70)))
    ∷ roomy_row "a balance of 10^18 there"
    (desk_input (reports_bytes two) 60 (participants_bytes both)
    (take 248 (balances_bytes (100 ∷ []) 70) ++ (13 ∷ 224 ∷ 182 ∷ 179 ∷ 167 ∷ 100 ∷ 0 ∷ 0 ∷ []) ++ drop 256 (balances_bytes (100 ∷ []) 70)))
    fully
    ∷ refused_row "a house account of a cent more than 10^18" (given two both (100 ∷ []) (most + 1))
    ∷ roomy_row "a house account of 10^18" (given two both (100 ∷ []) most) fully
    ∷ refused_row "a report 2 among them" (given (two ++ (cut_report 0 2 400 ∷ [])) both (100 ∷ []) 70)
    ∷ roomy_row "an expiry to participant 200 is passed over" (given (expiry 200 3 400 ∷ two) both (100 ∷ []) 70) fully
    ∷ roomy_row "expiries before and behind, to one that is told of the cut too"
    (given (expiry 0 7 400 ∷ debit_a ∷ expiry 0 8 (2 ^ 64 - 1) ∷ credit_b ∷ expiry 1 0 1 ∷ []) both (100 ∷ []) 70) fully
    ∷ refused_row "23 bytes of reports" (of_bytes (take 23 (reports_bytes two)))
    ∷ refused_row "25 bytes of reports" (of_bytes (reports_bytes two ++ (4 ∷ [])))
    ∷ refused_row "no rows" (desk_input [] 60 [] (balances_bytes [] 0))
    ∷ refused_row "rows of 47 bytes" (of_rows (take 47 (participants_bytes both)))
    ∷ refused_row "a row that 4 refuses: the same BIC twice" (of_rows (participants_bytes (bank bic_a ∷ bank bic_a ∷ [])))
    ∷ refused_row "a row that 4 refuses: an opening above 10^15" (of_rows (participants_bytes (bank_opening bic_a (most_debit + 1) ∷ bank bic_b ∷ [])))
    ∷ refused_row "33 rows" (desk_input [] 60 (participants_bytes (banks 33)) (balances_bytes [] 0))
    ∷ desk_row "32 rows, and no report" (desk_input [] 60 (participants_bytes (banks 32)) (balances_bytes [] 0)) 0 0 (0 ∷ 999 ∷ [])
    ∷ refused_row "balances of 263 bytes" (of_balances (take 263 (balances_bytes (100 ∷ []) 70)))
    ∷ refused_row "balances of 265 bytes" (of_balances (balances_bytes (100 ∷ []) 70 ++ (0 ∷ [])))
    ∷ desk_row "no report: nothing is written, and buffers of length 0 will do" (given [] both (100 ∷ []) 70) 0 0 (0 ∷ 999 ∷ [])
    ∷ roomy_row "a credit of 0: no transfer, a ticket of 0" (given (cut_report 1 11 0 ∷ []) both (100 ∷ []) 70) (0 ∷ 999 ∷ 0 ∷ [])
    ∷ roomy_row "a debit of 0: no transfer, a ticket of 0" (given (cut_report 0 10 0 ∷ []) both (100 ∷ []) 70) (0 ∷ 999 ∷ 0 ∷ [])
    ∷ roomy_row "the reports in another order" (given (credit_b ∷ debit_a ∷ []) both (100 ∷ []) 70) fully
    ∷ roomy_row "members without the wish, and a linked system" (given two (bank bic_a ∷ linked bic_b ∷ []) (100 ∷ []) 70) fully
    ∷ roomy_row "a credit of A and a debit of B: tickets as the numbers go" (given (cut_report 1 10 100 ∷ cut_report 0 11 70 ∷ []) both (0 ∷ 30 ∷ []) 70)
    (0 ∷ 1 ∷ 33 ∷ 30 ∷ 64 ∷ 65 ∷ 70 ∷ 65 ∷ 0 ∷ 70 ∷ 33 ∷ 64 ∷ 30 ∷ 999 ∷ 70 ∷ 30 ∷ [])
    ∷ refused_row "what is drawn doesn't help the house pay" (given two both (100 ∷ []) 0)
    ∷ []

pub desk-edges-met : AllMet desk_edges
unfolding is_bic notice_for drawn_from credit_to credits transfers confirms rows_right reports_right balances_right checked
desk-edges-met = all-met desk_edges refl

-- the tickets whole
abbrev whole_tickets : List Row
whole_tickets =
    record {
      shows = "the tickets: confirms of A and of B at the cut's time";
      rule = λ s. joined (settlement paid_in_full 40 216).tickets;
      given = [];
      due = joined (confirm_ticket 60 bic_a 100 ∷ confirm_ticket 60 bic_b 70 ∷ []);
    }
    ∷ []

pub tickets-met : AllMet whole_tickets
unfolding is_bic notice_for drawn_from credit_to credits transfers confirms rows_right reports_right balances_right checked
tickets-met = all-met whole_tickets refl
