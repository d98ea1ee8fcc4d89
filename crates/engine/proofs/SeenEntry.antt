-- What was seen of a ticket is how it is entered: refused, or its fields with what is sought for it. Assumes nothing.
--     Sighted         it is the ticket's, and what was found is what is sought
--     sight-read      of a ticket that passes
--     sight-refused   of one that 7 to 11 refuse
--     else_refused    what is not read is refused, by its number
use Rattle.std.specs.Prelude.{◌≡◌, ℕ, Bool, true, false, cond, eqb, List, Result, Ok, Err}
use mathlib.Core.Path.{refl, sym, ◌∙◌, ap, subst}
use native.Mathlib.Omega.{arith}
use borrow.Author.Tests.{eqb-true}
use Rattle.rules.specs.Find.{sender_in, order_in, route_in}
use Rattle.rules.specs.declared.Book.{Book}
use Rattle.course.specs.Entry.{entry_of}
use Rattle.course.specs.Seeking.{sought_sender, sought_order}
use Rattle.course.specs.declared.Entry.{Entry}
use Rattle.sight.specs.Sight.{seen_as, sight_of}
use Rattle.sight.specs.declared.Seen.{Seen}
use Rattle.turns.specs.Facts.{sought_route}
use Rattle.engine.specs.Turns.{entry_by}

abbrev seen_in : Seen → Result Seen ℕ → Seen
seen_in y (Ok x) = x
seen_in y (Err n) = y

abbrev number_in : Result Seen ℕ → ℕ
number_in (Ok x) = 0
number_in (Err n) = n

abbrev is_read : Result Seen ℕ → ℕ
is_read (Ok x) = 1
is_read (Err n) = 0

pub else_refused : (x : Result Seen ℕ) → ((y : Seen) → x ≡ Ok y → ⊥) → x ≡ Err (number_in x)
else_refused (Ok y) none = absurd (none y refl)
else_refused (Err n) none = refl

pub record Sighted (b : Book) (t : List ℕ) (y : Seen) : Type 0 where
  pub is : entry_by y ≡ entry_of b.clock t
  pub sends : y.sender ≡ sought_sender b (entry_by y) t
  pub names : y.order ≡ sought_order b (entry_by y) t
  pub leads : y.route ≡ sought_route b (entry_by y) t

module _ (b : Book) (t : List ℕ) where
  abbrev e : Entry
  e = entry_of b.clock t

  abbrev seen : Seen
  seen = seen_as e (sender_in b.roster t) (order_in b.roster b.orders b.count t) (route_in b.roster t)

  pub sight-read : {y : Seen}
      → sight_of b.clock t (sender_in b.roster t) (order_in b.roster b.orders b.count t) (route_in b.roster t) ≡ Ok y
      → Sighted b t y
  sight-read {y} = go (eqb e.refusal 0) refl
    where
      passed : e.refusal ≡ 0 → entry_by seen ≡ e
      passed q = λ i. record { refusal = sym q i; kind = e.kind; time = e.time; amount = e.amount }

      as_seen : e.refusal ≡ 0 → Sighted b t seen
      as_seen q = record { is = passed q; sends = refl; names = refl; leads = refl }

      go : (z : Bool) → eqb e.refusal 0 ≡ z → cond z (Ok seen) (Err e.refusal) ≡ Ok y → Sighted b t y
      go true q r = subst (Sighted b t) (ap (seen_in seen) r) (as_seen (eqb-true e.refusal 0 q))
      go false q r = let none : ◌≡◌ {A = ℕ} 0 1 = ap is_read r in absurd (omega arith)

  pub sight-refused : {n : ℕ}
      → sight_of b.clock t (sender_in b.roster t) (order_in b.roster b.orders b.count t) (route_in b.roster t) ≡ Err n
      → (e.refusal ≡ n) × (eqb n 0 ≡ false)
  sight-refused {n} = go (eqb e.refusal 0) refl
    where
      go : (z : Bool) → eqb e.refusal 0 ≡ z → cond z (Ok seen) (Err e.refusal) ≡ Err n
          → (e.refusal ≡ n) × (eqb n 0 ≡ false)
      go true q r = let none : ◌≡◌ {A = ℕ} 1 0 = ap is_read r in absurd (omega arith)
      go false q r = let same = ap number_in r in (same, ap (λ (m : ℕ). eqb m 0) (sym same) ∙ q)
