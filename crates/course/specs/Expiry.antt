-- What becomes of an order that the clock is held against. Expiries are looked for from a mark on, up to the first order younger than 20
-- seconds. No order below the mark waits for a bank (`Passed`), so sweeping those changes nothing (`passed_none`); the times of orders
-- never fall, so behind a young order none is due (`rest-young`).
--     expiry_of   expired, freed and told if it is due; else nothing changes. expiry_in: of order i of a book
--     lapsed      the book after it
--     Passed      none of the first m orders waits for a bank
-- Assumes nothing.
use Rattle.std.specs.Prelude.{ℕ, ◌<◌, ◌≡◌, Bool, false, ◌&&◌, cond, set}
use Rattle.rules.specs.Book.{order_of, is_bank}
use Rattle.rules.specs.Status.{is_waiting, with_status}
use Rattle.rules.specs.Cover.{transferred}
use Rattle.rules.specs.Tell.{tell_order}
use Rattle.rules.specs.Tick.{due, freed}
use Rattle.rules.specs.Decision.{nobody}
use Rattle.rules.specs.declared.decision.Told.TheVariants.{Nobody, Two}
use Rattle.rules.specs.declared.Status.TheVariants.{Expired}
use Rattle.rules.specs.declared.Order.{Order}
use Rattle.rules.specs.declared.Book.{Book}
use Rattle.course.specs.declared.Expiry.{Expiry}

abbrev pub expires : ℕ → Order → Expiry
expires i o =
    record {
      order = with_status o Expired;
      freed = freed o;
      told = Two (tell_order o.payer 4 i o) (tell_order o.payee 4 i o);
    }

abbrev pub stays : Order → Expiry
stays o = record { order = o; freed = nobody; told = Nobody }

abbrev pub expiry_of : ℕ → ℕ → Order → Bool → Expiry
expiry_of clock i o bank = cond (due clock o bank) (expires i o) (stays o)

-- of order i of a book
abbrev pub expiry_in : Book → ℕ → Expiry
expiry_in b i = let o = order_of b.orders i in expiry_of b.clock i o (is_bank b.roster o.payee)

-- the book after it
abbrev pub lapsed : Book → ℕ → Expiry → Book
lapsed b i x =
    record {
      clock = b.clock;
      covers = transferred x.freed b.covers;
      orders = set b.orders i x.order;
      count = b.count;
      roster = b.roster;
    }

-- order i waits for a bank
abbrev pub awaits : Book → ℕ → Bool
awaits b i = let o = order_of b.orders i in is_waiting o.status && is_bank b.roster o.payee

-- none of the first m orders does
pub record Passed (m : ℕ) (b : Book) : Type 0 where
  pub none : (i : ℕ) → i < m → awaits b i ≡ false
