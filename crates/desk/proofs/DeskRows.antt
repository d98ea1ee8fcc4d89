-- Rows of the desk's cases: participants, reports and balances written down, and what a settlement of them is, as numbers.
--     cut_report     a report 10 or 11 to a participant; expiry: a report 4
--     given         what the desk is given: reports, participants, balances by number, the house's
--     numbers_of     a settlement as numbers: refusal, the transfers' three numbers each, and behind them 999 and the tickets' amounts
--     desk_row       a row: what is given, the lengths of both buffers, and these numbers
-- Assumes nothing.
use Prim.Native.Nat.{ℕ, zero, suc}
use Prim.Native.String.{String}
use mathlib.Core.List.{List, [], ◌∷◌, ◌++◌, map}
use Rattle.fields.specs.Number.{bytes_of}
use Rattle.fields.specs.Text.{text, joined}
use Rattle.fields.proofs.CaseRows.{Row}
use Rattle.report.specs.ReportLayout.{reports_bytes}
use Rattle.report.specs.declared.Report.{Report}
use Rattle.ticket.specs.TicketLayout.{amount_of}
use Rattle.dayfile.specs.FileWriting.{participants_bytes, bank_opening}
use Rattle.dayfile.specs.declared.roster.Participant.{Participant}
use Rattle.desk.specs.Settlement.{DeskInput, Settlement, settlement}
use Rattle.desk.specs.Desk.{desk_input}
use Rattle.desk.specs.declared.Transfer.{Transfer}

abbrev pub bic_a : List ℕ
bic_a = text "AAAALV22XXX"

abbrev pub bic_b : List ℕ
bic_b = text "BBBBLV22XXX"

-- A has an opening cover of 500, B of 0
abbrev pub both : List Participant
both = bank_opening bic_a 500 ∷ bank_opening bic_b 0 ∷ []

abbrev pub cut_report : ℕ → ℕ → ℕ → Report
cut_report to code n = record { to = to; code = code; order = 65_535; amount = n }

abbrev pub expiry : ℕ → ℕ → ℕ → Report
expiry to order n = record { to = to; code = 4; order = order; amount = n }

-- the balances of the first numbers, nothing for those behind them, and the house's
abbrev balances_to : ℕ → List ℕ → List ℕ
balances_to zero ns = []
balances_to (suc k) [] = 0 ∷ balances_to k []
balances_to (suc k) (n ∷ ns) = n ∷ balances_to k ns

abbrev pub balances_bytes : List ℕ → ℕ → List ℕ
balances_bytes ns house = joined (map (bytes_of 8) (balances_to 32 ns ++ (house ∷ [])))

-- the cut is at 60
abbrev pub given : List Report → List Participant → List ℕ → ℕ → DeskInput
given rs ps ns house = desk_input (reports_bytes rs) 60 (participants_bytes ps) (balances_bytes ns house)

abbrev transfers_numbers : List Transfer → List ℕ
transfers_numbers [] = []
transfers_numbers (t ∷ ts) = t.from ∷ t.to ∷ t.amount ∷ transfers_numbers ts

abbrev pub numbers_of : Settlement → List ℕ
numbers_of s = s.refusal ∷ transfers_numbers s.transfers ++ (999 ∷ map amount_of s.tickets)

abbrev pub desk_row : String → DeskInput → ℕ → ℕ → List ℕ → Row
desk_row shows x transfers_room tickets_room due =
    record { shows = shows; rule = λ s. numbers_of (settlement x transfers_room tickets_room); given = []; due = due }

-- buffers that hold whatever is written
abbrev pub roomy_row : String → DeskInput → List ℕ → Row
roomy_row shows x due = desk_row shows x 640 3_456 due

-- refused by 27: no transfer, no ticket
abbrev pub refused_row : String → DeskInput → Row
refused_row shows x = roomy_row shows x (27 ∷ 999 ∷ [])
