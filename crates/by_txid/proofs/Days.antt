-- Days by TxId alone and by payer and TxId, computed: an old list, and what the premises of the law keep out. Assumes nothing.
use mathlib.Core.Path.{◌≡◌, refl, sym, ◌∙◌, ap}
use mathlib.Core.List.{List, [], ◌∷◌, ◌++◌, map}
use Prim.Native.Nat.{ℕ}
use Prim.Native.String.{String}
use native.Mathlib.Omega.{arith}
use lib.ListN.{replicate}
use Rattle.codes.specs.Bic.{is_bic}
use Rattle.codes.specs.Txid.{is_txid}
use Rattle.iban.specs.Iban.{is_iban}
use Rattle.fields.specs.Text.{text}
use Rattle.fields.proofs.CaseRows.{Row, AllMet, all-met}
use Rattle.ticket.specs.TicketReading.{reading}
use Rattle.ticket.specs.TicketWriting.{
  cover_in_ticket,
  order_ticket,
  yes_ticket,
  no_ticket,
  recall_ticket,
  return_ticket,
  decline_ticket,
  inquiry_ticket,
}
use Rattle.dayfile.specs.DayFile.{day_file}
use Rattle.dayfile.specs.Route.{followed}
use Rattle.rules.specs.Book.{book_of}
use Rattle.rules.specs.Tick.{Step, tick}
use Rattle.rules.specs.Find.{sender_in, order_in, route_in, way_in, any_open}
use Rattle.rules.specs.Cover.{total}
use Rattle.rules.specs.Refusal.{least_buffer}
use Rattle.rules.specs.Step.{step_of, handed}
use Rattle.rules.specs.Inputs.{Input, book_from}
use Rattle.rules.specs.Program.{decimal, numbers, tickets_from, day_lines}
use Rattle.rules.specs.Sound.{Sound}
use Rattle.rules.specs.declared.Book.{Book}
use Rattle.rules.proofs.Inputs.{inputs-sound}
use Rattle.rules.proofs.Names.{bic_a, bic_b, tx1, tx2, tx3, iban_d, two_banks}
use Rattle.rules.proofs.StepSound.{file-sound}
use Rattle.by_txid.specs.ReadingBy.{reading_by}
use Rattle.by_txid.specs.StepBy.{order_by_txid, handed_by_txid, steps_with}
use Rattle.by_txid.specs.OldLists.{Old, Renamed}
use Rattle.by_txid.specs.Renaming.{renaming}
use Rattle.by_txid.proofs.OldTest.{old-by-test}
use Rattle.by_txid.proofs.PayersNamed.{payers-named}
use Rattle.by_txid.proofs.Theorem.{old-one-payer}

-- a file's tickets, each with a buffer that passes 6
abbrev lent : List ℕ → Input
lent t = record { ticket = t; buffer = replicate least_buffer 0 }

abbrev inputs_of : List ℕ → List Input
inputs_of file = map lent (tickets_from file 0 (day_file file).tickets)

-- the lines of the clearing program, by a step and with the tickets as they are or with the payers named
abbrev lines_by : (Book → List ℕ → List ℕ → Step) → (List Input → List Input) → List ℕ → List ℕ
lines_by step names file = day_lines (book_of file) (steps_with step (book_of file) (names (inputs_of file)))

abbrev as_it_is : List Input → List Input
as_it_is xs = xs

abbrev by_txid : String → List ℕ → List ℕ → Row
by_txid name file due = record { shows = name; rule = lines_by handed_by_txid as_it_is; given = file; due = due }

abbrev by_pair : String → List ℕ → List ℕ → Row
by_pair name file due = record { shows = name; rule = lines_by handed as_it_is; given = file; due = due }

abbrev named : String → List ℕ → List ℕ → Row
named name file due = record { shows = name; rule = lines_by handed renaming; given = file; due = due }

-- a ticket of kinds 4 to 8 with zero bytes from 27 to 37 names nobody
abbrev nobody : List ℕ
nobody = []

abbrev old_day : List ℕ
old_day =
    two_banks
    (cover_in_ticket 0 bic_a 1000
    ∷ cover_in_ticket 0 bic_b 500
    ∷ order_ticket 5 bic_a bic_b 400 tx1 iban_d
    ∷ order_ticket 6 bic_b bic_a 100 tx2 iban_d
    ∷ yes_ticket 7 bic_b nobody tx1
    ∷ no_ticket 8 bic_a nobody tx2
    ∷ recall_ticket 9 bic_a 1 nobody tx1
    ∷ return_ticket 10 bic_b 300 nobody tx1
    ∷ inquiry_ticket 11 bic_a nobody tx1
    ∷ inquiry_ticket 12 bic_a nobody tx3
    ∷ recall_ticket 13 bic_a 9 nobody tx1
    ∷ decline_ticket 14 bic_b 1 nobody tx2
    ∷ [])

abbrev old_lines : List ℕ
old_lines =
    text "T 0 0 0 0\nT 1 0 0 0\nT 2 0 1 1\nR 1 1 0 400\nT 3 0 1 1\nR 0 1 1 100\nT 4 0 2 0\nR 0 2 0 400\nR 1 2 0 400\n"
    ++ text "T 5 0 1 0\nR 1 3 1 100\nT 6 0 1 0\nR 1 5 0 400\nT 7 0 1 0\nR 0 6 0 300\nT 8 0 1 0\nR 0 6 0 300\n"
    ++ text "T 9 16 0 0\nT 10 7 0 0\nT 11 17 0 0\nC 0 900 0 0\nC 1 600 0 0\n"

-- an order that is refused by 20 and sent again
abbrev sent_again : List ℕ
sent_again =
    two_banks
    (cover_in_ticket 0 bic_a 1000
    ∷ order_ticket 1 bic_a bic_b 1001 tx1 iban_d
    ∷ order_ticket 2 bic_a bic_b 100 tx1 iban_d
    ∷ yes_ticket 3 bic_b nobody tx1
    ∷ [])

abbrev sent_again_lines : List ℕ
sent_again_lines = text "T 0 0 0 0\nT 1 20 0 0\nT 2 0 1 1\nR 1 1 0 100\nT 3 0 2 0\nR 0 2 0 100\nR 1 2 0 100\nC 0 900 0 0\nC 1 100 0 0\n"

-- an order of A to B, and one of B to a payee, both with one TxId
abbrev two_payers : List ℕ → List ℕ
two_payers payee =
    two_banks
    (cover_in_ticket 0 bic_a 1000
    ∷ cover_in_ticket 0 bic_b 500
    ∷ order_ticket 1 bic_a bic_b 100 tx1 iban_d
    ∷ order_ticket 1 bic_b payee 100 tx1 iban_d
    ∷ [])

-- an order of A, and a yes of its payee that names a payer
abbrev answered : List ℕ → List ℕ
answered payer = two_banks (cover_in_ticket 0 bic_a 1000 ∷ order_ticket 1 bic_a bic_b 100 tx1 iban_d ∷ yes_ticket 2 bic_b payer tx1 ∷ [])

abbrev settled_lines : List ℕ
settled_lines = text "T 0 0 0 0\nT 1 0 1 1\nR 1 1 0 100\nT 2 0 2 0\nR 0 2 0 100\nR 1 2 0 100\nC 0 900 0 0\nC 1 100 0 0\n"

abbrev days : List Row
days =
    by_txid "an old list by TxId alone" old_day old_lines
    ∷ named "and with the payers named, by payer and TxId" old_day old_lines
    ∷ by_txid "an order that is sent again, by TxId alone" sent_again sent_again_lines
    ∷ named "and with the payers named" sent_again sent_again_lines
    -- what is no such list
    ∷ by_txid "of two payers with one TxId the second is refused by 13 by TxId alone" (two_payers bic_a)
    (text "T 0 0 0 0\nT 1 0 0 0\nT 2 0 1 1\nR 1 1 0 100\nT 3 13 0 0\nC 0 900 100 0\nC 1 500 0 0\n")
    ∷ named "and accepted by payer and TxId" (two_payers bic_a)
    (text "T 0 0 0 0\nT 1 0 0 0\nT 2 0 1 1\nR 1 1 0 100\nT 3 0 1 1\nR 0 1 1 100\nC 0 900 100 0\nC 1 400 100 0\n")
    ∷ by_txid "of two payers of one payee as well" (two_payers bic_b)
    (text "T 0 0 0 0\nT 1 0 0 0\nT 2 0 1 1\nR 1 1 0 100\nT 3 13 0 0\nC 0 900 100 0\nC 1 500 0 0\n")
    ∷ named "and accepted by payer and TxId, the payer its own payee" (two_payers bic_b)
    (text "T 0 0 0 0\nT 1 0 0 0\nT 2 0 1 1\nR 1 1 0 100\nT 3 0 1 1\nR 1 1 1 100\nC 0 900 100 0\nC 1 400 100 0\n")
    ∷ by_txid "a yes that names the payer is refused by 7 by TxId alone" (answered bic_a)
    (text "T 0 0 0 0\nT 1 0 1 1\nR 1 1 0 100\nT 2 7 0 0\nC 0 900 100 0\nC 1 0 0 0\n")
    ∷ by_pair "and accepted by payer and TxId" (answered bic_a) settled_lines
    ∷ by_txid "one that names nobody is accepted by TxId alone" (answered nobody) settled_lines
    ∷ by_pair "and refused by 7 by payer and TxId" (answered nobody)
    (text "T 0 0 0 0\nT 1 0 1 1\nR 1 1 0 100\nT 2 7 0 0\nC 0 900 100 0\nC 1 0 0 0\n")
    ∷ by_pair "one that names another is refused by 16 by payer and TxId" (answered bic_b)
    (text "T 0 0 0 0\nT 1 0 1 1\nR 1 1 0 100\nT 2 16 0 0\nC 0 900 100 0\nC 1 0 0 0\n")
    ∷ []

pub days-met : AllMet days
unfolding is_bic is_iban is_txid reading reading_by day_file followed sender_in order_in order_by_txid route_in way_in any_open total tick step_of
    handed decimal numbers
days-met = all-met days refl

-- the first of these days is one that the law speaks of
pub old-day : Old (inputs_of old_day)
unfolding is_bic is_txid day_file
old-day = old-by-test (inputs_of old_day) refl

-- the law is false from a book that isn't fresh: an order of an earlier list has a TxId that no order ticket of this list has, so any BIC
-- may be named, and by payer and TxId it isn't held
abbrev earlier : List Input
earlier = lent (cover_in_ticket 0 bic_a 1000) ∷ lent (order_ticket 1 bic_a bic_b 100 tx1 iban_d) ∷ []

abbrev begun : Book
begun = book_from (book_of (two_banks [])) earlier

abbrev later : List Input
later = lent (yes_ticket 2 bic_b nobody tx1) ∷ []

abbrev refusals : List Step → List ℕ
refusals [] = []
refusals (s ∷ ss) = s.refusal ∷ refusals ss

held-by-txid : refusals (steps_with handed_by_txid begun later) ≡ 0 ∷ []
unfolding is_bic is_iban is_txid reading reading_by day_file followed sender_in order_in order_by_txid route_in way_in any_open total tick step_of handed
held-by-txid = refl

not-held-by-pair : refusals (steps_with handed begun (renaming later)) ≡ 16 ∷ []
unfolding is_bic is_iban is_txid reading day_file followed sender_in order_in route_in way_in any_open total tick step_of handed
not-held-by-pair = refl

old-later : Old later
unfolding is_bic is_txid
old-later = old-by-test later refl

abbrev FromAnyBook : Type 0
FromAnyBook = (b : Book) → Sound b → (xs ys : List Input) → Old xs → Renamed xs ys → steps_with handed_by_txid b xs ≡ steps_with handed b ys

pub fresh-needed : FromAnyBook → ⊥
fresh-needed law =
    let same-steps = law begun (inputs-sound (book_of (two_banks [])) (file-sound (two_banks [])) earlier) later (renaming later) old-later
    (payers-named later (old-one-payer later old-later)) in
    let both : ◌≡◌ {A = List ℕ} (0 ∷ []) (16 ∷ []) = sym held-by-txid ∙ ap refusals same-steps ∙ not-held-by-pair in
    let numbers : ◌≡◌ {A = ℕ} 0 16 = cc in
    omega arith
