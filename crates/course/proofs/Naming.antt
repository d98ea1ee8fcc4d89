-- The keys of the orders after a decision: all but the one written keep theirs. Assumes nothing.
use mathlib.Core.Path.{◌≡◌, ◌∙◌, ap}
use mathlib.Core.Logic.{⊎_elim}
use Prim.Native.Nat.{ℕ, ◌<◌}
use lib.ListN.{length}
use lib.Seq.{get_or-set_same, get_or-set_other}
use Rattle.rules.specs.Book.{most_orders, no_order, order_of, key_of}
use Rattle.rules.specs.Decision.{applied}
use Rattle.rules.specs.declared.decision.Decision.{Decision}
use Rattle.rules.specs.declared.Book.{Book}
use Rattle.fields.proofs.Compared.{same_or_not}

-- as many orders are held as before, and the one written keeps its key
pub record KeepsKey (b : Book) (d : Decision) : Type 0 where
  pub count : d.count ≡ b.count
  pub key : key_of d.order ≡ key_of (order_of b.orders d.number)

-- the keys of the orders after it
module _ (b : Book) (d : Decision) (long : length b.orders ≡ most_orders) (few : d.number < most_orders) where
  written : order_of (applied b d).orders d.number ≡ d.order
  written = get_or-set_same b.orders d.number d.order no_order (rw long few)

  pub other_key : (i : ℕ) → (i ≡ d.number → ⊥) → key_of (order_of (applied b d).orders i) ≡ key_of (order_of b.orders i)
  other_key i n = ap key_of (get_or-set_other b.orders d.number i d.order no_order n)

  pub applied-key : key_of (order_of (applied b d).orders d.number) ≡ key_of d.order
  applied-key = ap key_of written

  pub kept-key : KeepsKey b d → (i : ℕ) → key_of (order_of (applied b d).orders i) ≡ key_of (order_of b.orders i)
  kept-key k i =
      ⊎_elim
      (λ (e : i ≡ d.number). rw e (applied-key ∙ k.key))
      (λ (n : i ≡ d.number → ⊥). other_key i n)
      (same_or_not i d.number)
