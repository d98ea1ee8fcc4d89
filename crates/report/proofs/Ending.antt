-- The laws of endings: of reports in two lists, and which reports are none. Assumes nothing.
use mathlib.Core.Path.{◌≡◌, refl, ap}
use mathlib.Core.Bool.{Bool, true, false, cond}
use mathlib.Core.List.{List, [], ◌∷◌, ◌++◌}
use Prim.Native.Nat.{ℕ}
use borrow.Author.Tests.{ne_eqb}
use Rattle.report.specs.Ending.{is_ending, endings_in}
use Rattle.report.specs.declared.Report.{Report}

pub endings-append : (i : ℕ) (rs ts : List Report) → endings_in i (rs ++ ts) ≡ endings_in i rs ++ endings_in i ts
endings-append i [] ts = refl
endings-append i (r ∷ rs) ts = go (is_ending i r) (endings-append i rs ts)
  where
    go : (b : Bool) → endings_in i (rs ++ ts) ≡ endings_in i rs ++ endings_in i ts
        → cond b (r ∷ endings_in i (rs ++ ts)) (endings_in i (rs ++ ts)) ≡ cond b (r ∷ endings_in i rs) (endings_in i rs) ++ endings_in i ts
    go true e = ap (λ (l : List Report). r ∷ l) e
    go false e = e

-- a report with another order's number
pub ending-other-order : (i : ℕ) (r : Report) → (r.order ≡ i → ⊥) → is_ending i r ≡ false
ending-other-order i r differs = simp (ne_eqb r.order i differs)

-- the endings in a list, by its first report
pub endings-without : (i : ℕ) (r : Report) (rs : List Report) → is_ending i r ≡ false → endings_in i (r ∷ rs) ≡ endings_in i rs
endings-without i r rs e = simp e
