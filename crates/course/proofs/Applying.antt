-- What applying a decision leaves: below a number still no order waits for a bank; the covers. Assumes nothing.
use mathlib.Core.Path.{◌≡◌, refl, sym, ◌∙◌}
use mathlib.Core.Bool.{Bool, true, false, ◌&&◌}
use mathlib.Core.List.{List}
use mathlib.Core.Logic.{⊎_elim}
use Prim.Native.Nat.{ℕ, ◌+◌, ◌≤◌, ◌<◌}
use native.Mathlib.Omega.{arith}
use lib.ListN.{length}
use lib.Seq.{get_or-set_same, get_or-set_other}
use Rattle.rules.specs.Book.{most_orders, no_order, order_of, is_bank}
use Rattle.rules.specs.Status.{is_waiting}
use Rattle.rules.specs.Cover.{transferred}
use Rattle.rules.specs.Tell.{listed}
use Rattle.rules.specs.Cut.{cut_to}
use Rattle.rules.specs.Decision.{covers_after, applied}
use Rattle.rules.specs.declared.decision.Told.{Told}
use Rattle.rules.specs.declared.decision.Told.TheVariants.{Nobody, One, Two}
use Rattle.rules.specs.declared.decision.Decision.{Decision}
use Rattle.rules.specs.declared.Order.{Order}
use Rattle.rules.specs.declared.Cover.{Cover}
use Rattle.rules.specs.declared.Book.{Book}
use Rattle.fields.proofs.Compared.{same_or_not}
use Rattle.course.specs.Room.{Applicable}
use Rattle.course.specs.Expiry.{Passed}

module _ (b : Book) (d : Decision) (fits : Applicable b d) (long : length b.orders ≡ most_orders) where
  written : order_of (applied b d).orders d.number ≡ d.order
  written = get_or-set_same b.orders d.number d.order no_order (rw long fits.number)

  others : (i : ℕ) → (i ≡ d.number → ⊥) → order_of (applied b d).orders i ≡ order_of b.orders i
  others i n = get_or-set_other b.orders d.number i d.order no_order n

  pub passed-applied : (m : ℕ) → m ≤ b.count → Passed m b → Passed m (applied b d)
  passed-applied m h p =
      record {
        none = λ i l.
            ⊎_elim
            (λ (e : i ≡ d.number). rw (e, written) (this d.order refl (rw e at l)))
            (λ (k : i ≡ d.number → ⊥). rw (others i k) (p.none i l))
            (same_or_not i d.number);
      }
    where
      -- the order written waits only if it is the one that was there
      this : (o : Order) → d.order ≡ o → d.number < m → (is_waiting o.status && is_bank b.roster o.payee) ≡ false
      this o e l = go (is_waiting o.status) refl
        where
          go : (w : Bool) → is_waiting o.status ≡ w → (w && is_bank b.roster o.payee) ≡ false
          go true q =
              let same : o ≡ order_of b.orders d.number = sym e ∙ fits.waits (omega arith) (rw (← e) at q) in
              let was = p.none d.number l in
              let waits : is_waiting (order_of b.orders d.number).status ≡ true = rw same at q in
              rw same (rw waits at was)
          go false q = refl

-- the covers after both moves; a cut comes after them
module _ (b : Book) (d : Decision) (fits : Applicable b d) where
  abbrev pub covers : List Cover
  covers = transferred d.second (transferred d.first b.covers)

  pub covers-uncut : d.cuts ≡ false → covers_after b d ≡ covers
  covers-uncut e = rw e

  pub covers-cut : d.cuts ≡ true → covers_after b d ≡ cut_to b.roster covers b.roster.size
  covers-cut e = rw e

  -- as many orders as before, or one more
  pub count-grows : b.count ≤ d.count
  count-grows = ⊎_elim (λ (e : d.count ≡ b.count). omega arith)
      (λ (e : (d.number ≡ b.count) × (d.count ≡ b.count + 1)). let q = e.1 in omega arith) fits.count

pub listed-few : (told : Told) → length (listed told) ≤ 2
listed-few Nobody = omega arith
listed-few (One r) = omega arith
listed-few (Two r q) = omega arith
