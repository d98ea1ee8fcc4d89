-- The clock and the expiries keep a book sound; roster, count and clock are not theirs to change. Assumes nothing.
use mathlib.Core.Path.{◌≡◌, refl}
use mathlib.Core.Bool.{Bool, true, false, ◌&&◌, cond}
use Prim.Native.Nat.{ℕ, zero, suc, ◌-◌, ◌≤◌}
use native.Mathlib.Omega.{arith}
use lib.Dec.{leb}
use Rattle.fields.proofs.Tests.{and_left}
use Rattle.rules.specs.Book.{order_of, is_bank}
use Rattle.rules.specs.Status.{is_waiting}
use Rattle.rules.specs.Tick.{Step, due, expire_told, sweep_to, at_time, tick}
use Rattle.rules.specs.Sound.{Sound}
use Rattle.rules.specs.declared.Status.TheVariants.{Expired}
use Rattle.rules.specs.declared.Order.{Order}
use Rattle.rules.specs.declared.Book.{Book}
use Rattle.rules.proofs.SoundKeeping.{later-sound, freed-sound}

pub record Swept (b : Book) (w : Step) : Type 0 where
  pub sound : Sound w.book
  pub count : w.book.count ≡ b.count
  pub clock : w.book.clock ≡ b.clock
  pub roster : w.book.roster ≡ b.roster

-- a due order waits
pub due-waits : (clock : ℕ) (o : Order) (bank : Bool) → due clock o bank ≡ true → is_waiting o.status ≡ true
due-waits clock o bank e = and_left (is_waiting o.status) bank (and_left (is_waiting o.status && bank) (leb 20 (clock - o.time)) e)

pub swept : (b : Book) → Sound b → (i : ℕ) → i ≤ b.count → Swept b (sweep_to b i)
swept b s zero h = record { sound = s; count = refl; clock = refl; roster = refl }
swept b s (suc i) h = go (swept b s i (omega arith)) (due w.book.clock o (is_bank w.book.roster o.payee)) refl
  where
    w : Step
    w = sweep_to b i

    o : Order
    o = order_of w.book.orders i

    go : Swept b w → (d : Bool) → due w.book.clock o (is_bank w.book.roster o.payee) ≡ d → Swept b (cond d (expire_told w i o) w)
    go r true e =
        record {
          sound =
              freed-sound w.book r.sound i (let c = r.count in omega arith) Expired refl tt
              (due-waits w.book.clock o (is_bank w.book.roster o.payee) e);
          count = r.count;
          clock = r.clock;
          roster = r.roster;
        }
    go r false e = r

pub tick-swept : (b : Book) → Sound b → (time : ℕ) → b.clock ≤ time → Swept (at_time b time) (tick b time)
unfolding tick
tick-swept b s time l = swept (at_time b time) (later-sound b s time l) b.count (omega arith)
