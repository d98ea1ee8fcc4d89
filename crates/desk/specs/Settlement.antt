-- What the desk makes of what it is given: 02, slip 7, by section 6.1 of source document 002.
--     DeskInput     what it is given besides the two buffers: the cut's reports and time, participant rows, balances, as bytes
--     size, report_count, balance_of   how many rows and reports there are; the balance of number k, the house's being number 32
--     notice_for     the cut report to participant p
--     drawn_from     what is drawn from its account
--     credit_to      what is credited to it
--     credits       all credits together
--     moved_to       transfers above zero of the first n participants, by number, from a place to a place
--     transfers     all transfers, in their order
--     confirms_to    the confirm tickets of the first n participants, by number; confirms: of all
--     rows_right, reports_right, balances_right, credits_right, room_right    what 27 asks, group by group
--     checked       27; checked_refusal its number
--     Settlement    refusal, transfers and confirm tickets
--     settlement    of what is given, with so many bytes in the buffers
-- Assumes nothing.
use Rattle.std.specs.Prelude.{ℕ, zero, suc, ◌*◌, ◌/◌, ◌%◌, Bool, ◌&&◌, cond, List, [], ◌∷◌, ◌++◌, leb, eqb, length}
use Rattle.fields.specs.Number.{part, number_at}
use Rattle.fields.specs.UpTo.{all_to, sum_to}
use Rattle.report.specs.ReportLayout.{report_length, report_at}
use Rattle.report.specs.declared.Report.{Report}
use Rattle.ticket.specs.TicketLayout.{ticket_length}
use Rattle.ticket.specs.TicketWriting.{confirm_ticket}
use Rattle.dayfile.specs.FileLimits.{most_participants, participant_length}
use Rattle.dayfile.specs.Check.{participants_ok}
use Rattle.desk.specs.Places.{place_of, house_number}
use Rattle.desk.specs.TransferLayout.{transfer_length}
use Rattle.desk.specs.CutReports.{notice_to, is_told, report_right, drawn_by, credit_in, confirmed_by}
use Rattle.desk.specs.declared.Place.{Place}
use Rattle.desk.specs.declared.Place.TheVariants.{Account, SubAccount, House, HouseSubAccount}
use Rattle.desk.specs.declared.Transfer.{Transfer}
use Rattle.desk.specs.declared.Checked.{Checked}
use Rattle.desk.specs.declared.Checked.TheVariants.{Right, Wrong}

pub record DeskInput : Type 0 where
  pub reports : List ℕ
  pub time : ℕ
  pub rows : List ℕ
  pub balances : List ℕ

abbrev pub size : DeskInput → ℕ
size x = length x.rows / participant_length

abbrev pub report_count : DeskInput → ℕ
report_count x = length x.reports / report_length

abbrev pub balance_at : List ℕ → ℕ → ℕ
balance_at balances k = number_at 8 (8 * k) balances

abbrev pub balance_of : DeskInput → ℕ → ℕ
balance_of x k = balance_at x.balances k

unfoldable pub notice_for : DeskInput → ℕ → Report
notice_for x p = notice_to p (report_at x.reports) (report_count x)

unfoldable pub drawn_from : DeskInput → ℕ → ℕ
drawn_from x p = drawn_by (notice_for x p) (balance_of x p)

unfoldable pub credit_to : DeskInput → ℕ → ℕ
credit_to x p = credit_in (notice_for x p)

unfoldable pub credits : DeskInput → ℕ
credits x = sum_to (credit_to x) (size x)

-- 02, slip 7: the transfers above zero
abbrev pub above_zero : Transfer → List Transfer
above_zero t = cond (eqb t.amount 0) [] (t ∷ [])

abbrev pub moved : Place → Place → (ℕ → ℕ) → ℕ → Transfer
moved from to amount p = record { from = place_of from p; to = place_of to p; amount = amount p }

-- members by number
abbrev pub moved_to : Place → Place → (ℕ → ℕ) → ℕ → List Transfer
moved_to from to amount zero = []
moved_to from to amount (suc p) = moved_to from to amount p ++ above_zero (moved from to amount p)

-- 02, slip 7. Step one: each debit is drawn from the member's account into its sub-account, and the house puts the total of credits into
-- its own sub-account. Step two empties the house sub-account into the accounts of credited members and pays the members' sub-accounts to
-- the house
unfoldable pub transfers : DeskInput → List Transfer
transfers x =
    moved_to Account SubAccount (drawn_from x) (size x)
    ++ (moved_to House HouseSubAccount (λ p. credits x) 1
    ++ (moved_to HouseSubAccount Account (credit_to x) (size x) ++ moved_to SubAccount House (drawn_from x) (size x)))

-- 02, slip 7: by number a confirm ticket per cut report for what was drawn or paid, zero too, at the cut's time
abbrev pub confirm_for : DeskInput → ℕ → List ℕ
confirm_for x p = confirm_ticket x.time (part 11 (participant_length * p) x.rows) (confirmed_by (notice_for x p) (balance_of x p))

abbrev pub confirms_to : DeskInput → ℕ → List (List ℕ)
confirms_to x zero = []
confirms_to x (suc p) = confirms_to x p ++ cond (is_told (notice_for x p)) (confirm_for x p ∷ []) []

unfoldable pub confirms : DeskInput → List (List ℕ)
confirms x = confirms_to x (size x)

-- 27: rows not whole or that 2 or 4 refuses
unfoldable pub rows_right : List ℕ → Bool
rows_right rows =
    let n = length rows / participant_length in
    eqb (length rows % participant_length) 0 && leb 1 n && leb n most_participants && participants_ok 0 n rows

-- 27: reports not whole, or one of them wrong
unfoldable pub reports_right : ℕ → List ℕ → Bool
reports_right size reports =
    eqb (length reports % report_length) 0 && all_to (report_right size (report_at reports)) (length reports / report_length)

-- 02, slip 7: a balance or the credits together above 10^18
abbrev pub most_balance : ℕ
most_balance = 1_000_000_000_000_000_000

-- 33 balances of 8 bytes, each within the limit, of a number that no participant has too
unfoldable pub balances_right : List ℕ → Bool
balances_right balances = eqb (length balances) (8 * 33) && all_to (λ k. leb (balance_at balances k) most_balance) 33

-- 27: the credits together above 10^18, or a house account below them
abbrev pub credits_right : ℕ → ℕ → Bool
credits_right credits house = leb credits most_balance && leb credits house

-- 27: a buffer too short for what is written
abbrev pub room_right : ℕ → ℕ → ℕ → ℕ → Bool
room_right transfers tickets transfers_room tickets_room =
    leb (transfer_length * transfers) transfers_room && leb (ticket_length * tickets) tickets_room

abbrev pub input_right : DeskInput → Bool
input_right x =
    rows_right x.rows
    && reports_right (size x) x.reports
    && balances_right x.balances
    && credits_right (credits x) (balance_of x house_number)

unfoldable pub checked : DeskInput → ℕ → ℕ → Checked
checked x transfers_room tickets_room =
    cond (input_right x && room_right (length (transfers x)) (length (confirms x)) transfers_room tickets_room) Right Wrong

abbrev pub checked_refusal : Checked → ℕ
checked_refusal Right = 0
checked_refusal Wrong = 27

pub record Settlement : Type 0 where
  pub refusal : ℕ
  pub transfers : List Transfer
  pub tickets : List (List ℕ)

-- 27: then nothing is written
abbrev pub settlement_as : DeskInput → Checked → Settlement
settlement_as x Right = record { refusal = checked_refusal Right; transfers = transfers x; tickets = confirms x }
settlement_as x Wrong = record { refusal = checked_refusal Wrong; transfers = []; tickets = [] }

abbrev pub settlement : DeskInput → ℕ → ℕ → Settlement
settlement x transfers_room tickets_room = settlement_as x (checked x transfers_room tickets_room)
