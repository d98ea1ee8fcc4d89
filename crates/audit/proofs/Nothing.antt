-- The claim of events alone, as 01 'Demand 3, word by word' has it: of a day file, of what was seen since it was opened, and of the book
-- at the end. Nothing was before: sums begin at 0, there is no order and no cut was told. Events are newest first.
-- `Fresh.antt` has that `Claim` says this where a history starts from the fresh book of a day file.
-- Assumes nothing.
use Prim.Native.Nat.{ℕ, ◌+◌, ◌-◌, ◌≤◌, ◌<◌}
use mathlib.Core.Path.{◌≡◌}
use mathlib.Core.Bool.{Bool, true, false, ◌&&◌, cond}
use mathlib.Core.List.{List, [], ◌∷◌, ◌++◌}
use lib.Dec.{leb, ltb, eqb}
use lib.ListN.{length}
use Rattle.fields.specs.Text.{same}
use Rattle.fields.specs.UpTo.{sum_to}
use Rattle.ticket.specs.TicketLayout.{time_of, amount_of, sender_of, payer_of, txid_of}
use Rattle.report.specs.Ending.{endings_in}
use Rattle.report.specs.declared.Report.{Report}
use Rattle.dayfile.specs.DayFile.{day_file}
use Rattle.dayfile.specs.declared.roster.Roster.{Roster}
use Rattle.rules.specs.Book.{order_of, cover_of}
use Rattle.rules.specs.Status.{is_waiting}
use Rattle.rules.specs.Cover.{whole}
use Rattle.rules.specs.declared.Book.{Book}
use Rattle.rules.specs.Tick.{time_limit}
use Rattle.audit.specs.History.{Event, is_kind, is_sent_by}
use Rattle.audit.specs.Sums.{amount_if, cover_in, cover_out, last_cut_in, settled_to, settled_from, return_by, return_to, first_with}
use Rattle.audit.specs.Orders.{is_order, to_bank, is_none, is_first4, sets_clock, tells_parties}
use Rattle.audit.specs.Claim.{AllCarry, code_of}

abbrev pub Each : (Event → List Event → Type 0) → List Event → Type 0
Each P [] = Unit {0}
Each P (e ∷ before) = P e before × Each P before

abbrev pub sum_over : (Event → List Event → ℕ) → List Event → ℕ
sum_over f [] = 0
sum_over f (e ∷ before) = f e before + sum_over f before

abbrev pub last_cut : ℕ → List Event → ℕ
last_cut p [] = 0
last_cut p (e ∷ before) = last_cut_in p (last_cut p before) e.reports

abbrev pub debit : Roster → ℕ → Event → List Event → ℕ
debit ps p e before = amount_if (is_kind 10 e && is_sent_by ps p e && eqb (last_cut p before) 10) e

abbrev pub credit : Roster → ℕ → Event → List Event → ℕ
credit ps p e before = amount_if (is_kind 10 e && is_sent_by ps p e && eqb (last_cut p before) 11) e

abbrev pub goes_out : Roster → ℕ → Event → List Event → ℕ
goes_out ps p e before = cover_out ps p e + credit ps p e before + settled_from p e + return_by ps p e

abbrev pub comes_in : Roster → ℕ → Event → List Event → ℕ
comes_in ps p e before = cover_in ps p e + debit ps p e before + settled_to ps p e + return_to p e

abbrev pub outgoing : Roster → ℕ → List Event → ℕ
outgoing ps p es = sum_over (goes_out ps p) es

abbrev pub incoming : Roster → ℕ → List Event → ℕ
incoming ps p es = sum_over (comes_in ps p) es

abbrev pub order_count : List Event → ℕ
order_count [] = 0
order_count (e ∷ before) = cond (is_order e) (order_count before + 1) (order_count before)

abbrev pub opens : ℕ → Event → List Event → Bool
opens i e before = is_order e && eqb (order_count before) i

abbrev pub of_order : {A : Type 0} → A → (Event → A) → ℕ → List Event → A
of_order none f i [] = none
of_order none f i (e ∷ before) = cond (opens i e before) (f e) (of_order none f i before)

abbrev pub order_amount : ℕ → List Event → ℕ
order_amount = of_order 0 (λ e. amount_of e.ticket)

abbrev pub order_time : ℕ → List Event → ℕ
order_time = of_order 0 (λ e. time_of e.ticket)

abbrev pub order_txid : ℕ → List Event → List ℕ
order_txid = of_order [] (λ e. txid_of e.ticket)

abbrev pub order_payer : ℕ → List Event → List ℕ
order_payer = of_order [] (λ e. sender_of e.ticket)

abbrev pub is_paid_by : Roster → ℕ → ℕ → List Event → Bool
is_paid_by ps p = of_order false (is_sent_by ps p)

abbrev pub is_for_bank : Roster → ℕ → List Event → Bool
is_for_bank ps = of_order false (λ e. to_bank ps (first_with 1 e.reports))

abbrev pub all_endings : ℕ → List Event → List Report
all_endings i [] = []
all_endings i (e ∷ before) = endings_in i e.reports ++ all_endings i before

abbrev pub waits : ℕ → List Event → Bool
waits i es = ltb i (order_count es) && is_none (all_endings i es)

abbrev pub waiting_part : Roster → ℕ → List Event → ℕ → ℕ
waiting_part ps p es i = cond (waits i es && is_paid_by ps p i es) (order_amount i es) 0

abbrev pub waiting_total : Roster → ℕ → List Event → ℕ
waiting_total ps p es = sum_to (waiting_part ps p es) (order_count es)

abbrev pub lets_expire : ℕ → Event → List Event → Bool
lets_expire i e before = is_none (all_endings i before) && is_first4 (endings_in i e.reports)

abbrev pub must_expire : Roster → ℕ → Event → List Event → Bool
must_expire ps i e before =
    sets_clock e && (waits i before && is_for_bank ps i before && leb time_limit (time_of e.ticket - order_time i before))

abbrev pub asks_about : ℕ → Event → List Event → Bool
asks_about i e before =
    is_kind 8 e
    && ltb i (order_count before)
    && same (order_payer i before) (payer_of e.ticket)
    && same (order_txid i before) (txid_of e.ticket)

abbrev pub own_endings : ℕ → Event → List Event → ℕ
own_endings i e before = length (endings_in i e.reports) - cond (asks_about i e before) 1 0

abbrev pub ending_tickets : ℕ → List Event → ℕ
ending_tickets i es = sum_over (λ e before. cond (eqb (own_endings i e before) 0) 0 1) es

abbrev pub roster_in : List ℕ → Roster
roster_in file = (day_file file).roster

pub record ClaimOfEvents (file : List ℕ) (es : List Event) (b : Book) : Type 0 where
  pub told : Each (λ e before. tells_parties (roster_in file) e ≡ true) es
  pub cover : (p : ℕ) → p < (roster_in file).size
      → whole (cover_of b.covers p) + outgoing (roster_in file) p es ≡ incoming (roster_in file) p es
  pub reserved : (p : ℕ) → p < (roster_in file).size → (cover_of b.covers p).reserved ≡ waiting_total (roster_in file) p es
  pub held : b.count ≡ order_count es
  pub waiting : (i : ℕ) → i < order_count es → is_waiting (order_of b.orders i).status ≡ waits i es
  pub expiry : Each (λ e before. (i : ℕ) → lets_expire i e before ≡ must_expire (roster_in file) i e before) es
  pub known : Each (λ e before. (i : ℕ) → order_count before ≤ i → endings_in i e.reports ≡ []) es
  pub once : (i : ℕ) → i < order_count es → ending_tickets i es ≡ cond (waits i es) 0 1
  pub alike : (i : ℕ) → i < order_count es → AllCarry (code_of (all_endings i es)) (order_amount i es) (all_endings i es)
