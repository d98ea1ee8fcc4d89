-- What a move needs so that no sum or difference of it leaves 64 bits. The functions of `moves` ask for it, and every decision in a sound
-- book has it (`judged-applicable`).
--     Room          of each move
--     Applicable    of a decision: its numbers are in range, and there is room for what it moves
-- Assumes nothing.
use Rattle.std.specs.Prelude.{ℕ, ◌+◌, ◌≤◌, ◌<◌, ◌≡◌, true, ◌⊎◌, length}
use Rattle.dayfile.specs.FileLimits.{most_participants}
use Rattle.rules.specs.Book.{most_orders, order_of, cover_of}
use Rattle.rules.specs.Status.{is_waiting}
use Rattle.rules.specs.Cover.{transferred, most_total}
use Rattle.rules.specs.Decision.{nobody}
use Rattle.rules.specs.declared.decision.Told.TheVariants.{Nobody}
use Rattle.rules.specs.declared.decision.Decision.{Decision}
use Rattle.rules.specs.declared.Book.{Book}
use Rattle.rules.specs.declared.decision.Move.{Move}
use Rattle.rules.specs.declared.decision.Move.TheVariants.{Stay, Give, Draw, Reserve, Release, Spend, Credit, Debit}
use Rattle.rules.specs.declared.Cover.{Cover}

-- the largest number of 64 bits
abbrev pub most_number : ℕ
most_number = 18_446_744_073_709_551_615

abbrev pub Room : Move → ℕ → Cover → Type 0
Room Stay n c = Unit {0}
Room Give n c = c.available + n ≤ most_number
Room Draw n c = n ≤ c.available
Room Reserve n c = (n ≤ c.available) × (c.reserved + n ≤ most_number)
Room Release n c = (n ≤ c.reserved) × (c.available + n ≤ most_number)
Room Spend n c = n ≤ c.reserved
Room Credit n c = Unit {0}
Room Debit n c = c.available + n ≤ most_number

-- what a decision needs of the book that it is applied to
pub record Applicable (b : Book) (d : Decision) : Type 0 where
  pub number : d.number < most_orders
  pub txid : length d.order.txid ≡ 35
  -- as many orders are in use as before, or one more, which is the one written
  pub count : (d.count ≡ b.count) ⊎ ((d.number ≡ b.count) × (d.count ≡ b.count + 1))
  pub first : d.first.who < most_participants
  pub second : d.second.who < most_participants
  pub first_most : d.first.amount ≤ most_total
  pub second_most : d.second.amount ≤ most_total
  pub first_room : Room d.first.how d.first.amount (cover_of b.covers d.first.who)
  pub second_room : Room d.second.how d.second.amount (cover_of (transferred d.first b.covers) d.second.who)
  -- an order in use that waits when it is written is the one that was there
  pub waits : d.number < b.count → is_waiting d.order.status ≡ true → d.order ≡ order_of b.orders d.number
  pub rows : d.rows < 256
  -- a cut moves no cover by itself, and tells by the cut alone
  pub cuts : d.cuts ≡ true → (d.first ≡ nobody) × (d.second ≡ nobody) × (d.told ≡ Nobody)
