-- Edges of recalls that come too late as rows (02, slip 5): when 26 is given, what it leaves, and what has no limit. Assumes nothing.
use Prim.Native.Nat.{ℕ, ◌-◌}
use Prim.Native.String.{String}
use mathlib.Core.List.{List, [], ◌∷◌, ◌++◌}
use Rattle.fields.specs.Text.{text}
use Rattle.fields.proofs.CaseRows.{Row}
use Rattle.ticket.specs.TicketWriting.{
  cover_in_ticket,
  order_ticket,
  yes_ticket,
  recall_ticket,
  return_ticket,
  decline_ticket,
  inquiry_ticket,
}
use Rattle.dayfile.specs.FileWriting.{file_bytes, bank, linked, direct}
use Rattle.rules.proofs.Names.{bic_a, bic_b, bic_l, tx1, tx2, iban_d, two_banks, day_of}

-- an order of 400 from A to B is settled at a time, in its last second: what comes then, and what is printed of it behind the lines of
-- these
abbrev after_yes_at : ℕ → String → List (List ℕ) → String → Row
after_yes_at time name tickets due =
    day_of name
    (two_banks (cover_in_ticket 0 bic_a 1000 ∷ order_ticket (time - 19) bic_a bic_b 400 tx1 iban_d ∷ yes_ticket time bic_b bic_a tx1 ∷ tickets))
    (text "T 0 0 0 0\nT 1 0 1 1\nR 1 1 0 400\nT 2 0 2 0\nR 0 2 0 400\nR 1 2 0 400\n" ++ text due)

abbrev settled : String → List (List ℕ) → String → Row
settled = after_yes_at 24

abbrev pub recall_edges : List Row
recall_edges =
    settled "a recall 863,999 seconds after the settlement is accepted"
    (recall_ticket 864_023 bic_a 1 bic_a tx1 ∷ [])
    "T 3 0 1 0\nR 1 5 0 400\nC 0 600 0 0\nC 1 400 0 0\n"
    ∷ settled "one 864,000 seconds after it is refused by 26 and marks nothing: another gets 26 again, and an inquiry tells 2 to the payer"
    (recall_ticket 864_024 bic_a 1 bic_a tx1
    ∷ recall_ticket 864_025 bic_a 1 bic_a tx1
    ∷ inquiry_ticket 864_026 bic_a bic_a tx1
    ∷ return_ticket 864_027 bic_b 400 bic_a tx1
    ∷ decline_ticket 864_028 bic_b 1 bic_a tx1
    ∷ [])
    "T 3 26 0 0\nT 4 26 0 0\nT 5 0 1 0\nR 0 2 0 400\nT 6 18 0 0\nT 7 18 0 0\nC 0 600 0 0\nC 1 400 0 0\n"
    ∷ day_of "the time counts from the settlement: an order waited 864,000 seconds for a linked system"
    (file_bytes
    (bank bic_a ∷ linked bic_l ∷ [])
    (direct bic_l 1 ∷ [])
    (cover_in_ticket 0 bic_a 1000
    ∷ order_ticket 5 bic_a bic_l 400 tx1 iban_d
    ∷ order_ticket 6 bic_a bic_l 300 tx2 iban_d
    ∷ yes_ticket 864_005 bic_l bic_a tx1
    ∷ yes_ticket 864_006 bic_l bic_a tx2
    ∷ recall_ticket 1_728_004 bic_a 1 bic_a tx1
    ∷ recall_ticket 1_728_006 bic_a 1 bic_a tx2
    ∷ []))
    (text "T 0 0 0 0\nT 1 0 1 1\nR 1 1 0 400\nT 2 0 1 1\nR 1 1 1 300\nT 3 0 1 0\nR 0 2 0 400\nT 4 0 1 0\nR 0 2 1 300\n"
    ++ text "T 5 0 1 0\nR 1 5 0 400\nT 6 26 0 0\nC 0 300 0 0\nC 1 700 0 0\n")
    ∷ settled "late and by the wrong party is 17"
    (recall_ticket 864_024 bic_b 1 bic_a tx1 ∷ recall_ticket 864_024 bic_a 1 bic_a tx1 ∷ [])
    "T 3 17 0 0\nT 4 26 0 0\nC 0 600 0 0\nC 1 400 0 0\n"
    ∷ settled "late and already asked is 18"
    (recall_ticket 864_023 bic_a 1 bic_a tx1 ∷ recall_ticket 864_024 bic_a 1 bic_a tx1 ∷ [])
    "T 3 0 1 0\nR 1 5 0 400\nT 4 18 0 0\nC 0 600 0 0\nC 1 400 0 0\n"
    ∷ settled "a return long after a recall made in time, and then a late recall is 18"
    (recall_ticket 25 bic_a 1 bic_a tx1 ∷ return_ticket 5_000_000 bic_b 400 bic_a tx1 ∷ recall_ticket 5_000_001 bic_a 1 bic_a tx1 ∷ [])
    "T 3 0 1 0\nR 1 5 0 400\nT 4 0 1 0\nR 0 6 0 400\nT 5 18 0 0\nC 0 1000 0 0\nC 1 0 0 0\n"
    ∷ settled "a decline long after a recall made in time, and then a late recall is 18"
    (recall_ticket 25 bic_a 1 bic_a tx1 ∷ decline_ticket 5_000_000 bic_b 1 bic_a tx1 ∷ recall_ticket 5_000_001 bic_a 1 bic_a tx1 ∷ [])
    "T 3 0 1 0\nR 1 5 0 400\nT 4 0 1 0\nR 0 7 0 400\nT 5 18 0 0\nC 0 600 0 0\nC 1 400 0 0\n"
    ∷ after_yes_at 4_294_103_295 "settled at 4,294,103,295, a recall in the last second is late"
    (recall_ticket 4_294_967_295 bic_a 1 bic_a tx1 ∷ [])
    "T 3 26 0 0\nC 0 600 0 0\nC 1 400 0 0\n"
    ∷ after_yes_at 4_294_103_296 "settled a second later, it is in time: settlement and 864,000 together leave 32 bits"
    (recall_ticket 4_294_967_295 bic_a 1 bic_a tx1 ∷ [])
    "T 3 0 1 0\nR 1 5 0 400\nC 0 600 0 0\nC 1 400 0 0\n"
    ∷ settled "26 leaves what a tick leaves: another order expires in the second of the late recall"
    (order_ticket 864_010 bic_a bic_b 100 tx2 iban_d ∷ recall_ticket 864_030 bic_a 1 bic_a tx1 ∷ [])
    "T 3 0 1 1\nR 1 1 1 100\nT 4 26 2 0\nR 0 4 1 100\nR 1 4 1 100\nC 0 600 0 0\nC 1 400 0 0\n"
    ∷ []
