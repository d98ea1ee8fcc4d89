-- What every book that tickets can reach has, and what the code's sums, differences and indexes rest on. Every step keeps it, whatever
-- the ticket (`handed-sound`). With it a step's reports fit 12 bytes and are at most 544 (`handed-few`), so the buffer of refusal 6 holds
-- them, and they read back from it (`buffer-reads-back`).
--     waiting_amount   what an order adds to the reserved cover of participant p: its amount, if p pays it and it waits
--     waiting_sum      what all orders in use add
--     StatusSound     what a status keeps: the settlement is no earlier than the order and no later than the clock, and what was
--                     returned is from 1 cent to the order's amount
--     same_key         two orders share payer and TxId
--     OrdersSound     the orders
--     CoversSound     the cover, each participant's reserved being what is due
--     Sound           the book
-- Assumes nothing.
use Rattle.std.specs.Prelude.{ℕ, ◌≤◌, ◌<◌, ◌≡◌, Bool, true, false, ◌&&◌, cond, List, ◌⊎◌, eqb, length}
use Rattle.codes.specs.Txid.{is_txid}
use Rattle.fields.specs.Text.{same, unpadded}
use Rattle.fields.specs.UpTo.{sum_to}
use Rattle.ticket.specs.Form.{most_order}
use Rattle.dayfile.specs.FileLimits.{most_participants}
use Rattle.dayfile.specs.Guarantee.{Guaranteed}
use Rattle.rules.specs.Book.{most_orders, no_cover, unused_order, order_of, cover_of}
use Rattle.rules.specs.Status.{is_waiting}
use Rattle.rules.specs.Cover.{total, most_total}
use Rattle.rules.specs.declared.Status.{Status}
use Rattle.rules.specs.declared.Status.TheVariants as status
use Rattle.rules.specs.declared.Order.{Order}
use Rattle.rules.specs.declared.Cover.{Cover}
use Rattle.rules.specs.declared.Book.{Book}

abbrev pub waiting_amount : ℕ → Order → ℕ
waiting_amount p o = cond (is_waiting o.status && eqb o.payer p) o.amount 0

abbrev pub waiting_sum : ℕ → List Order → ℕ → ℕ
waiting_sum count os p = sum_to (λ i. waiting_amount p (order_of os i)) count

-- 02, slip 5: order's time, settlement and clock never fall; slip 2: any amount from 1 cent to the order's
abbrev pub StatusSound : ℕ → ℕ → ℕ → Status → Type 0
StatusSound amount time clock status.Waiting = Unit {0}
StatusSound amount time clock status.Refused = Unit {0}
StatusSound amount time clock status.Expired = Unit {0}
StatusSound amount time clock (status.Returned at n) = (time ≤ at) × (at ≤ clock) × (1 ≤ n) × (n ≤ amount)
StatusSound amount time clock (status.Settled mark at) = (time ≤ at) × (at ≤ clock)

-- payer and TxId together
abbrev pub same_key : Order → Order → Bool
same_key o o' = eqb o.payer o'.payer && same o.txid o'.txid

pub record OrdersSound (size clock n : ℕ) (os : List Order) : Type 0 where
  pub long : length os ≡ most_orders
  pub count : n ≤ most_orders
  -- each order in use: its parties are participants; its amount, its TxId and what its status keeps are such as tickets may have
  pub payer : (i : ℕ) → i < n → (order_of os i).payer < size
  pub payee : (i : ℕ) → i < n → (order_of os i).payee < size
  pub least : (i : ℕ) → i < n → 1 ≤ (order_of os i).amount
  pub most : (i : ℕ) → i < n → (order_of os i).amount ≤ most_order
  pub padded : (i : ℕ) → i < n → length (order_of os i).txid ≡ 35
  pub txid : (i : ℕ) → i < n → is_txid (unpadded (order_of os i).txid) ≡ true
  pub status : (i : ℕ) → i < n → StatusSound (order_of os i).amount (order_of os i).time clock (order_of os i).status
  -- 02, slip 6: two orders in a book never share both; times never fall in arrival order, and none is after the clock
  pub distinct : (i j : ℕ) → i < j → j < n → same_key (order_of os i) (order_of os j) ≡ false
  pub ordered : (i j : ℕ) → i < j → j < n → (order_of os i).time ≤ (order_of os j).time
  pub early : (i : ℕ) → i < n → (order_of os i).time ≤ clock
  -- a slot that is not in use is as the fresh book made it
  pub unused : (i : ℕ) → n ≤ i → i < most_orders → order_of os i ≡ unused_order

pub record CoversSound (size : ℕ) (due : ℕ → ℕ) (cs : List Cover) : Type 0 where
  pub long : length cs ≡ most_participants
  pub reserved : (p : ℕ) → p < size → (cover_of cs p).reserved ≡ due p
  -- nobody has both held and open debit
  pub either : (p : ℕ) → p < size → ((cover_of cs p).held ≡ 0) ⊎ ((cover_of cs p).debit ≡ 0)
  -- who is no participant has no cover
  pub outside : (p : ℕ) → size ≤ p → p < most_participants → cover_of cs p ≡ no_cover

pub record Sound (b : Book) : Type 0 where
  pub roster : Guaranteed b.roster
  pub orders : OrdersSound b.roster.size b.clock b.count b.orders
  -- a participant's reserved is the sum of its waiting orders
  pub covers : CoversSound b.roster.size (waiting_sum b.count b.orders) b.covers
  -- all cover together is limited
  pub limited : total b ≤ most_total
