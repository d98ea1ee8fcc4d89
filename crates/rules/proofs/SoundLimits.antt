-- What a sound book hands the code: its sums fit, its differences are no numbers below zero, its indexes are within the arrays.
-- Assumes nothing.
use mathlib.Core.Path.{◌≡◌}
use mathlib.Core.Bool.{true}
use Prim.Native.Nat.{ℕ, ◌≤◌, ◌<◌}
use native.Mathlib.Omega.{arith}
use Rattle.fields.proofs.UpTo.{sum-part}
use Rattle.dayfile.specs.FileLimits.{most_participants}
use Rattle.rules.specs.Book.{most_orders, order_of, cover_of}
use Rattle.rules.specs.Status.{is_waiting}
use Rattle.rules.specs.Cover.{whole, total_of, total, most_total}
use Rattle.rules.specs.Sound.{Sound}
use Rattle.rules.specs.declared.Book.{Book}
use Rattle.rules.proofs.OrdersKeeping.{sum-holds}

module _ (b : Book) (s : Sound b) where
  limit : total_of b.roster.size b.covers ≤ most_total
  unfolding total
  limit = s.limited

  -- a participant's cover, and the sum over the first ones, is within the limit on all
  pub whole-limited : (p : ℕ) → p < b.roster.size → whole (cover_of b.covers p) ≤ most_total
  whole-limited p h = let a = sum-part (λ q. whole (cover_of b.covers q)) b.roster.size p h in let l = limit in omega arith

  pub available-limited : (p : ℕ) → p < b.roster.size → (cover_of b.covers p).available ≤ most_total
  available-limited p h = let a = whole-limited p h in omega arith

  -- a participant's number is below 32
  pub participant-below : (p : ℕ) → p < b.roster.size → p < most_participants
  participant-below p h = let l = s.roster.size in omega arith

  -- an order's number is below 256
  pub order_below : (i : ℕ) → i < b.count → i < most_orders
  order_below i h = let l = s.orders.count in omega arith

  -- a waiting order's amount is reserved
  pub waiting-reserved : (i : ℕ) → i < b.count → is_waiting (order_of b.orders i).status ≡ true
      → (order_of b.orders i).amount ≤ (cover_of b.covers (order_of b.orders i).payer).reserved
  waiting-reserved i h w =
      rw (s.covers.reserved (order_of b.orders i).payer (s.orders.payer i h)) (sum-holds b.count b.orders i h w)
