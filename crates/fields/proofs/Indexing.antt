-- Rows that hold the fields of a table: one written, and what a search among them finds. Assumes nothing.
use mathlib.Core.Path.{◌≡◌, refl, sym, ◌∙◌, ap, subst}
use mathlib.Core.Bool.{Bool, true, false}
use mathlib.Core.List.{List}
use mathlib.Core.Logic.{⊎_elim}
use Prim.Native.Nat.{ℕ, ◌+◌, ◌*◌, ◌≤◌, ◌<◌}
use native.Mathlib.Nat.{mul-le-mul_left, mul-suc, eq-or-lt_of_le}
use native.Mathlib.Omega.{arith}
use borrow.Author.Tests.{eqb-true, eqb-false, ltb-true, ltb-false}
use lib.Dec.{eqb, ltb}
use lib.ListN.{length}
use lib.Seq.{sets}
use Rattle.fields.specs.Number.{part}
use Rattle.fields.specs.Text.{same}
use Rattle.fields.specs.Search.{first_to}
use Rattle.fields.specs.Rows.{first_row, Indexed}
use Rattle.fields.proofs.Stores.{sets-part, part-before, part-after}
use Rattle.fields.proofs.Finding.{first-same}

-- a row before the n-th ends where the n-th begins, or before
pub row_within : (width j n : ℕ) → j < n → width * j + width ≤ width * n
row_within width j n h = subst (λ (m : ℕ). m ≤ width * n) (mul-suc width j) (mul-le-mul_left width h)

-- row j is written: it holds x, and the others what they held
module _ (rows : List ℕ) (width j : ℕ) (x : List ℕ) (as_wide : length x ≡ width) (fits : width * j + width ≤ length rows) where
  within : width * j + length x ≤ length rows
  within = omega arith

  row_written : part width (width * j) (sets rows (width * j) x) ≡ x
  row_written = ap (λ (w : ℕ). part w (width * j) (sets rows (width * j) x)) (sym as_wide) ∙ sets-part x rows (width * j) within

  row_other : (i : ℕ) → (i ≡ j → ⊥) → part width (width * i) (sets rows (width * j) x) ≡ part width (width * i) rows
  row_other i differs = go (ltb i j) refl
    where
      go : (b : Bool) → ltb i j ≡ b → part width (width * i) (sets rows (width * j) x) ≡ part width (width * i) rows
      go true e = part-before x rows (width * j) within width (width * i) (row_within width i j (ltb-true i j e))
      go false e =
          ⊎_elim
          (λ (q : j ≡ i). absurd (differs (sym q)))
          (λ (l : j < i). part-after x rows (width * j) within width (width * i) (omega (arith, row_within width j i l)))
          (eq-or-lt_of_le (ltb-false i j e))

  -- each of the first m rows is row j, or one that held its field
  put-indexed-at : (field : ℕ → List ℕ) (m : ℕ) → field j ≡ x
      → ((i : ℕ) → i < m → (i ≡ j → ⊥) → part width (width * i) rows ≡ field i) → Indexed width field m (sets rows (width * j) x)
  put-indexed-at field m new old = record { row = λ i l. go i l (eqb i j) refl }
    where
      go : (i : ℕ) → i < m → (b : Bool) → eqb i j ≡ b → part width (width * i) (sets rows (width * j) x) ≡ field i
      go i l true e =
          let q = eqb-true i j e in
          ap (λ (k : ℕ). part width (width * k) (sets rows (width * j) x)) q ∙ row_written ∙ sym (ap field q ∙ new)
      go i l false e = let differs = eqb-false i j e in row_other i differs ∙ old i l differs

-- a row more
pub put-indexed : {rows : List ℕ} {width n : ℕ} {field : ℕ → List ℕ} → Indexed width field n rows → (x : List ℕ) → length x ≡ width
    → width * n + width ≤ length rows → (field' : ℕ → List ℕ) → ((i : ℕ) → i < n → field' i ≡ field i) → field' n ≡ x
    → Indexed width field' (n + 1) (sets rows (width * n) x)
put-indexed {rows} {width} {n} h x as_wide fits field' kept new =
    put-indexed-at rows width n x as_wide fits field' (n + 1) new
    (λ i l differs. let below : i < n = omega arith in h.row i below ∙ sym (kept i below))

-- the first row that holds a field is the first of the table that is it
pub found-indexed : {rows : List ℕ} {width n : ℕ} {field : ℕ → List ℕ} → Indexed width field n rows → (x : List ℕ)
    → first_row width n x rows ≡ first_to (λ i. same (field i) x) n
found-indexed {rows} {width} {n} {field} h x =
    first-same (λ i. same (part width (width * i) rows) x) (λ i. same (field i) x) n (λ i l. ap (λ (s : List ℕ). same s x) (h.row i l))
