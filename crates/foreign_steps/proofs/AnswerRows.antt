-- The answers of `zolfigar_steps` as rows: of a refused file, of one with no tickets, and on both sides of each edge of the room for the
-- first ticket. Assumes nothing.
use Rattle.std.specs.Prelude.{ℕ, List, [], ◌∷◌}
use Prim.Native.String.{String}
use mathlib.Core.Path.{refl}
use Rattle.fields.specs.Text.{text}
use Rattle.fields.proofs.CaseRows.{Row, AllMet, all-met}
use Rattle.codes.specs.Bic.{is_bic}
use Rattle.codes.specs.Txid.{is_txid}
use Rattle.iban.specs.Iban.{is_iban}
use Rattle.ticket.specs.TicketReading.{reading}
use Rattle.ticket.specs.TicketWriting.{cover_in_ticket, tick_ticket}
use Rattle.dayfile.specs.DayFile.{day_file}
use Rattle.dayfile.specs.Route.{followed}
use Rattle.dayfile.specs.FileWriting.{file_bytes, bank}
use Rattle.rules.specs.Find.{sender_in, order_in, route_in, way_in, any_open}
use Rattle.rules.specs.Cover.{total}
use Rattle.rules.specs.Tick.{tick}
use Rattle.rules.specs.Step.{step_of}
use Rattle.rules.proofs.Names.{bic_a, two_banks}
use Rattle.course.specs.Running.{ran}
use Rattle.foreign_steps.specs.Stepped.{steps_answer}

-- a file, with so many bytes for answers and for reports
abbrev answer_row : String → List ℕ → ℕ → ℕ → ℕ → Row
answer_row shows file answers reports due =
    record { shows = shows; rule = λ f. steps_answer f answers reports ∷ []; given = file; due = due ∷ [] }

abbrev one_ticket : List ℕ
one_ticket = two_banks (tick_ticket 0 ∷ [])

abbrev two_tickets : List ℕ
two_tickets = two_banks (cover_in_ticket 0 bic_a 1000 ∷ tick_ticket 5 ∷ [])

abbrev pub answer_rows : List Row
answer_rows =
    answer_row "a file shorter than its header is refused by 1" (text "short") 0 0 1_025
    ∷ answer_row "with room too" (text "short") 4 6_528 1_025
    ∷ answer_row "no participants: refused by 2" (file_bytes [] [] (tick_ticket 0 ∷ [])) 0 0 1_026
    ∷ answer_row "a ticket of one byte: refused by 3" (file_bytes (bank bic_a ∷ []) [] ((0 ∷ []) ∷ [])) 4 6_528 1_027
    ∷ answer_row "the same BIC twice: refused by 4" (file_bytes (bank bic_a ∷ bank bic_a ∷ []) [] []) 4 6_528 1_028
    ∷ answer_row "no tickets and no room" (two_banks []) 0 0 0
    ∷ answer_row "no tickets and room for one" (two_banks []) 4 6_528 0
    ∷ answer_row "a byte of the first answer is missing" one_ticket 3 6_528 2_048
    ∷ answer_row "a byte of the first reports is missing" one_ticket 4 6_527 2_048
    ∷ answer_row "no room at all" one_ticket 0 0 2_048
    ∷ answer_row "room for the first of one" one_ticket 4 6_528 1
    ∷ answer_row "room for the first of two" two_tickets 7 6_528 1
    ∷ answer_row "room for both" two_tickets 8 6_528 2
    ∷ []

pub answers-met : AllMet answer_rows
unfolding is_bic is_iban is_txid reading day_file followed sender_in order_in route_in way_in any_open total tick step_of ran
answers-met = all-met answer_rows refl
