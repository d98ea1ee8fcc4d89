-- A sound book and the history that starts from it agree. Assumes nothing.
use mathlib.Core.Path.{◌≡◌, refl, ap, ◌∙◌}
use mathlib.Core.Bool.{Bool, true, false, cond}
use mathlib.Core.List.{[], ◌∷◌}
use mathlib.Core.Logic.{◌⊎◌, inl, inr}
use Prim.Native.Nat.{ℕ, ◌<◌}
use native.Mathlib.Omega.{arith}
use borrow.Author.Tests.{eqb-true, eq-eqb, lt-ltb, le-ltb}
use lib.Dec.{eqb}
use Rattle.report.specs.declared.Report.{Report}
use Rattle.rules.specs.Book.{order_of, cover_of}
use Rattle.rules.specs.Status.{is_waiting}
use Rattle.rules.specs.Sound.{Sound}
use Rattle.rules.specs.declared.Order.{Order}
use Rattle.rules.specs.declared.Cover.{Cover}
use Rattle.rules.specs.declared.Book.{Book}
use Rattle.audit.specs.History.{from}
use Rattle.audit.specs.Sums.{cut_before}
use Rattle.audit.specs.Orders.{end_code, ended_before, start_endings, is_none}
use Rattle.audit.specs.Claim.{AllCarry}
use Rattle.audit.proofs.Agreeing.{OrderAgrees, CoverAgrees, Agrees}

-- one ending if the wait has ended, with the code of how it did
module _ (i : ℕ) (o : Order) where
  ended-waiting : is_none (ended_before i o) ≡ is_waiting o.status
  ended-waiting = go (is_waiting o.status)
    where
      r : Report
      r = record { to = o.payer; code = end_code o.status; order = i; amount = o.amount }

      go : (x : Bool) → is_none (cond x [] (r ∷ [])) ≡ x
      go true = refl
      go false = refl

  ended-alike : AllCarry (end_code o.status) o.amount (ended_before i o)
  ended-alike = go (is_waiting o.status)
    where
      r : Report
      r = record { to = o.payer; code = end_code o.status; order = i; amount = o.amount }

      go : (x : Bool) → AllCarry (end_code o.status) o.amount (cond x [] (r ∷ []))
      go true = tt
      go false = (refl, refl, tt)

-- what is held or open is what counts as the cut's report
cut-held : (c : Cover) → (c.held ≡ 0) ⊎ (cut_before c ≡ 11)
cut-held c = go (eqb c.held 0) refl
  where
    go : (x : Bool) → eqb c.held 0 ≡ x → (c.held ≡ 0) ⊎ (cut_before c ≡ 11)
    go true e = inl (eqb-true c.held 0 e)
    go false e = inr (rw e)

cut-debit : (c : Cover) → (c.held ≡ 0) ⊎ (c.debit ≡ 0) → (c.debit ≡ 0) ⊎ (cut_before c ≡ 10)
cut-debit c (inr none) = inl none
cut-debit c (inl none) = go (eqb c.debit 0) refl
  where
    go : (x : Bool) → eqb c.debit 0 ≡ x → (c.debit ≡ 0) ⊎ (cut_before c ≡ 10)
    go true e = inl (eqb-true c.debit 0 e)
    go false e = inr (rw (eq-eqb c.held 0 none, e))

module _ (b : Book) (s : Sound b) where
  start-order : (i : ℕ) → i < b.count → OrderAgrees b.roster (from b) i (order_of b.orders i)
  start-order i l =
      let o = order_of b.orders i in
      let there = lt-ltb i b.count l in
      let endings : start_endings i b ≡ ended_before i o = rw there in
      record {
        amount = rw there;
        time = rw there;
        bic = rw there;
        txid = rw there;
        bank = rw (there, lt-ltb o.payee b.roster.size (s.orders.payee i l));
        payer = λ p k. rw there;
        waiting = ap is_none endings ∙ ended-waiting i o;
        once = ap (λ (x : Bool). cond {A = ℕ} x 0 1) (ap is_none endings ∙ ended-waiting i o);
        alike = rw endings (ended-alike i o);
      }

  start-cover : (p : ℕ) → p < b.roster.size → CoverAgrees b.roster (from b) p (cover_of b.covers p)
  start-cover p l =
      let c = cover_of b.covers p in
      record { adds = omega arith; held = cut-held c; debit = cut-debit c (s.covers.either p l) }

  pub start-agrees : Agrees b.roster (from b) b
  start-agrees =
      record {
        sound = s;
        roster = refl;
        count = refl;
        order = start-order;
        none = λ i l. rw (le-ltb i b.count l);
        cover = start-cover;
        expiry = tt;
        known = tt;
      }
