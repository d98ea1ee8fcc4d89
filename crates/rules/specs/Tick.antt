-- The clock and the expiries, which come first: 01 'Once past refusals 6 to 11'.
--     Step       what a ticket does: refusal, reports, rows followed, book afterwards
--     time_limit  how long an order waits for a bank
--     due        an order expires: Waiting, its payee a bank, clock minus time at least that
--     expired    the book when order i has expired
--     sweep_to    the first n orders looked at, in arrival order
--     tick       the step of a tick
-- Assumes nothing.
use Rattle.std.specs.Prelude.{ℕ, zero, suc, ◌-◌, Bool, ◌&&◌, cond, List, [], ◌∷◌, ◌++◌, leb, set}
use Rattle.report.specs.declared.Report.{Report}
use Rattle.rules.specs.Book.{order_of, is_bank}
use Rattle.rules.specs.Status.{is_waiting, with_status}
use Rattle.rules.specs.Cover.{transferred}
use Rattle.rules.specs.Tell.{tell_order}
use Rattle.rules.specs.declared.decision.Move.TheVariants.{Release}
use Rattle.rules.specs.declared.decision.Transfer.{Transfer}
use Rattle.rules.specs.declared.Status.TheVariants.{Expired}
use Rattle.rules.specs.declared.Order.{Order}
use Rattle.rules.specs.declared.Book.{Book}

pub record Step : Type 0 where
  pub refusal : ℕ
  pub reports : List Report
  pub rows : ℕ
  pub book : Book

-- 01: clock minus time at least 20
abbrev pub time_limit : ℕ
time_limit = 20

abbrev pub due : ℕ → Order → Bool → Bool
due clock o bank = is_waiting o.status && bank && leb time_limit (clock - o.time)

-- the order's amount goes from its payer's reserved to available
abbrev pub freed : Order → Transfer
freed o = record { who = o.payer; how = Release; amount = o.amount }

abbrev pub expired : Book → ℕ → Order → Book
expired b i o =
    record {
      clock = b.clock;
      covers = transferred (freed o) b.covers;
      orders = set b.orders i (with_status o Expired);
      count = b.count;
      roster = b.roster;
    }

-- report 4 to payer, then payee
abbrev pub expire_told : Step → ℕ → Order → Step
expire_told w i o =
    record {
      refusal = 0;
      reports = w.reports ++ (tell_order o.payer 4 i o ∷ tell_order o.payee 4 i o ∷ []);
      rows = 0;
      book = expired w.book i o;
    }

abbrev pub sweep_one : Step → ℕ → Order → Step
sweep_one w i o = cond (due w.book.clock o (is_bank w.book.roster o.payee)) (expire_told w i o) w

abbrev pub sweep_to : Book → ℕ → Step
sweep_to b zero = record { refusal = 0; reports = []; rows = 0; book = b }
sweep_to b (suc i) = let w = sweep_to b i in sweep_one w i (order_of w.book.orders i)

-- a ticket first sets the clock to its time
abbrev pub at_time : Book → ℕ → Book
at_time b time = record { clock = time; covers = b.covers; orders = b.orders; count = b.count; roster = b.roster }

unfoldable pub tick : Book → ℕ → Step
tick b time = sweep_to (at_time b time) b.count
