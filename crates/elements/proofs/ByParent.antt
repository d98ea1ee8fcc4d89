-- The row of an element by its parent's row and its name.
--     row_is, row-found      it is 17, or below 16
--     skipped-holds          what is none of the named has none in it
--     childless              nor has a text's row, nor a number behind the rows
--     root-named             the root is the first
-- Assumes nothing.
use mathlib.Core.Path.{◌≡◌, refl, sym}
use mathlib.Core.Logic.{◌⊎◌, inl, inr, ⊎_elim}
use mathlib.Core.Bool.{Bool, true, false, ◌&&◌, cond}
use mathlib.Core.List.{List, [], ◌∷◌}
use Prim.Native.Nat.{ℕ, suc, ◌+◌, ◌≤◌, ◌<◌}
use native.Mathlib.Omega.{arith}
use borrow.Author.Tests.{ne_eqb}
use lib.Dec.{eqb}
use lib.ListN.{length}
use Rattle.fields.specs.Text.{text, same}
use Rattle.pacs.specs.Named.{Row, rows, row_among, row_of}

among : (i : ℕ) (rs : List Row) (p : ℕ) (n : List ℕ) → (row_among i rs p n ≡ 17) ⊎ (row_among i rs p n < i + length rs)
among i [] p n = inl refl
among i (r ∷ more) p n = go (eqb r.parent p && same r.name n) (among (suc i) more p n)
  where
    go : (b : Bool) → (row_among (suc i) more p n ≡ 17) ⊎ (row_among (suc i) more p n < suc i + length more)
        → (cond b i (row_among (suc i) more p n) ≡ 17) ⊎ (cond b i (row_among (suc i) more p n) < i + suc (length more))
    go true h = inr (omega arith)
    go false h =
        ⊎_elim
        (λ (e : row_among (suc i) more p n ≡ 17). inl e)
        (λ (l : row_among (suc i) more p n < suc i + length more). inr (omega arith))
        h

-- 17, or one of the rows
row_is : (p : ℕ) (n : List ℕ) → (row_of p n ≡ 17) ⊎ (row_of p n < 16)
unfolding row_of
row_is p n = among 0 rows p n

pub row-found : (p : ℕ) (n : List ℕ) (r : ℕ) → r ≡ row_of p n → (r ≡ row_of p n) × (r ≤ 17) × (r ≡ 16 → ⊥)
row-found p n r e =
    ⊎_elim
    (λ (s : row_of p n ≡ 17). (e, omega arith, omega arith))
    (λ (s : row_of p n < 16). (e, omega arith, omega arith))
    (row_is p n)

apart : (k p : ℕ) → (p ≡ k → ⊥) → eqb k p ≡ false
apart k p h = ne_eqb k p (λ (e : k ≡ p). h (sym e))

pub skipped-holds : (n : List ℕ) → 17 ≡ row_of 17 n
unfolding row_of
skipped-holds n = refl

pub childless : (p : ℕ) (n : List ℕ)
    → (p ≡ 6 → ⊥) → (p ≡ 1 → ⊥) → (p ≡ 16 → ⊥) → (p ≡ 0 → ⊥) → (p ≡ 2 → ⊥) → (p ≡ 3 → ⊥) → (p ≡ 4 → ⊥) → (p ≡ 7 → ⊥)
    → (p ≡ 10 → ⊥) → (p ≡ 11 → ⊥) → (p ≡ 13 → ⊥) → (p ≡ 14 → ⊥) → 17 ≡ row_of p n
unfolding row_of
childless p n h6 h1 h16 h0 h2 h3 h4 h7 h10 h11 h13 h14 =
    simp (
      apart 6 p h6,
      apart 1 p h1,
      apart 16 p h16,
      apart 0 p h0,
      apart 2 p h2,
      apart 3 p h3,
      apart 4 p h4,
      apart 7 p h7,
      apart 10 p h10,
      apart 11 p h11,
      apart 13 p h13,
      apart 14 p h14,
    )

-- nor has any number behind these
pub beyond-holds : (k : ℕ) (n : List ℕ) → 17 ≡ row_of (18 + k) n
beyond-holds k n =
    childless
    (18 + k)
    n
    (λ e. omega arith)
    (λ e. omega arith)
    (λ e. omega arith)
    (λ e. omega arith)
    (λ e. omega arith)
    (λ e. omega arith)
    (λ e. omega arith)
    (λ e. omega arith)
    (λ e. omega arith)
    (λ e. omega arith)
    (λ e. omega arith)
    (λ e. omega arith)

pub root-named : (n : List ℕ) → cond (same (text "LBFastCdtTrf") n) 0 17 ≡ row_of 16 n
unfolding row_of
root-named n = refl
