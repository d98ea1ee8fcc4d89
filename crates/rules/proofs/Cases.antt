-- The marked cases of 01 'At the edges' and those that 02 adds as rows, and all cases under one statement. Assumes nothing.
use mathlib.Core.Path.{refl}
use mathlib.Core.List.{List, [], ◌∷◌, ◌++◌}
use Rattle.fields.specs.Text.{text}
use Rattle.fields.proofs.CaseRows.{Row, AllMet, all-met}
use Rattle.codes.specs.Bic.{is_bic}
use Rattle.iban.specs.Iban.{is_iban}
use Rattle.codes.specs.Txid.{is_txid}
use Rattle.iban.proofs.Cases as iban
use Rattle.codes.proofs.Cases as codes
use Rattle.ticket.specs.TicketReading.{reading}
use Rattle.ticket.specs.TicketWriting.{cover_in_ticket, order_ticket, yes_ticket, inquiry_ticket, cut_ticket, confirm_ticket}
use Rattle.dayfile.specs.DayFile.{day_file}
use Rattle.dayfile.specs.Route.{followed}
use Rattle.dayfile.specs.FileWriting.{file_bytes, bank_opening}
use Rattle.rules.specs.Find.{sender_in, order_in, route_in, way_in, any_open}
use Rattle.rules.specs.Cover.{total}
use Rattle.rules.specs.Tick.{tick}
use Rattle.rules.specs.Step.{step_of, handed}
use Rattle.rules.specs.Program.{decimal, numbers, output}
use Rattle.rules.proofs.Names.{bic_a, bic_b, tx1, iban_d, small_iban_d, two_banks, day}
use Rattle.rules.proofs.Edges.{edges}
use Rattle.rules.proofs.LimitEdges.{limits}
use Rattle.rules.proofs.ReturnEdges.{return_edges}
use Rattle.rules.proofs.RecallEdges.{recall_edges}
use Rattle.rules.proofs.KeyEdges.{key_edges}

abbrev pub marked_cases : List Row
marked_cases =
    day "D: a yes at 24 to an order of 5"
    (two_banks
    (cover_in_ticket 0 bic_a 1000
    ∷ order_ticket 5 bic_a bic_b 400 tx1 iban_d
    ∷ yes_ticket 24 bic_b bic_a tx1
    ∷ inquiry_ticket 30 bic_a bic_a tx1
    ∷ []))
    "T 0 0 0 0\nT 1 0 1 1\nR 1 1 0 400\nT 2 0 2 0\nR 0 2 0 400\nR 1 2 0 400\nT 3 0 1 0\nR 0 2 0 400\nC 0 600 0 0\nC 1 400 0 0\n"
    ∷ day "E: a yes at 25"
    (two_banks
    (cover_in_ticket 0 bic_a 1000
    ∷ order_ticket 5 bic_a bic_b 400 tx1 iban_d
    ∷ yes_ticket 25 bic_b bic_a tx1
    ∷ inquiry_ticket 30 bic_a bic_a tx1
    ∷ []))
    "T 0 0 0 0\nT 1 0 1 1\nR 1 1 0 400\nT 2 18 2 0\nR 0 4 0 400\nR 1 4 0 400\nT 3 0 1 0\nR 0 4 0 400\nC 0 1000 0 0\nC 1 0 0 0\n"
    ∷ day "an IBAN that begins LV81 is refused by 8"
    (two_banks
    (cover_in_ticket 0 bic_a 1000
    ∷ order_ticket 5 bic_a bic_b 400 tx1 (text "LV81BANK0000435195001")
    ∷ []))
    "T 0 0 0 0\nT 1 8 0 0\nC 0 1000 0 0\nC 1 0 0 0\n"
    -- 02, slip 1
    ∷ day "case D's IBAN with BANK in small letters is refused by 8, the same ticket with capitals accepted"
    (two_banks
    (cover_in_ticket 0 bic_a 1000
    ∷ order_ticket 5 bic_a bic_b 400 tx1 small_iban_d
    ∷ order_ticket 5 bic_a bic_b 400 tx1 iban_d
    ∷ []))
    "T 0 0 0 0\nT 1 8 0 0\nT 2 0 1 1\nR 1 1 0 400\nC 0 600 400 0\nC 1 0 0 0\n"
    ∷ day "an order equal to available is accepted"
    (two_banks (cover_in_ticket 0 bic_a 1000 ∷ order_ticket 5 bic_a bic_b 1000 tx1 iban_d ∷ []))
    "T 0 0 0 0\nT 1 0 1 1\nR 1 1 0 1000\nC 0 0 1000 0\nC 1 0 0 0\n"
    ∷ day "one cent more is refused by 20"
    (two_banks (cover_in_ticket 0 bic_a 1000 ∷ order_ticket 5 bic_a bic_b 1001 tx1 iban_d ∷ []))
    "T 0 0 0 0\nT 1 20 0 0\nC 0 1000 0 0\nC 1 0 0 0\n"
    ∷ day "confirm 0 of an open debit is accepted"
    (file_bytes (bank_opening bic_a 100 ∷ []) [] (cover_in_ticket 0 bic_a 30 ∷ cut_ticket 1 ∷ confirm_ticket 2 bic_a 0 ∷ []))
    "T 0 0 0 0\nT 1 0 1 0\nR 0 10 65535 70\nT 2 0 0 0\nC 0 30 0 0\n"
    ∷ day "held 50 confirmed by 49 is refused by 21"
    (file_bytes (bank_opening bic_a 100 ∷ []) [] (cover_in_ticket 0 bic_a 150 ∷ cut_ticket 1 ∷ confirm_ticket 2 bic_a 49 ∷ []))
    "T 0 0 0 0\nT 1 0 1 0\nR 0 11 65535 50\nT 2 21 0 0\nC 0 100 0 50\n"
    ∷ day "yes twice, the second refused by 18"
    (two_banks
    (cover_in_ticket 0 bic_a 1000
    ∷ order_ticket 5 bic_a bic_b 400 tx1 iban_d
    ∷ yes_ticket 6 bic_b bic_a tx1
    ∷ yes_ticket 7 bic_b bic_a tx1
    ∷ []))
    "T 0 0 0 0\nT 1 0 1 1\nR 1 1 0 400\nT 2 0 2 0\nR 0 2 0 400\nR 1 2 0 400\nT 3 18 0 0\nC 0 600 0 0\nC 1 400 0 0\n"
    ∷ day "a refused file prints its refusal alone" (text "short") "F 1\n"
    ∷ []

-- the rows of `iban`, those of `codes` and these, under one statement
abbrev pub cases : List Row
cases = iban.cases ++ codes.cases ++ marked_cases ++ edges ++ limits ++ return_edges ++ recall_edges ++ key_edges

pub cases-met : AllMet cases
unfolding is_bic is_iban is_txid reading day_file followed sender_in order_in route_in way_in any_open total tick step_of
    handed decimal numbers output
cases-met = all-met cases refl
