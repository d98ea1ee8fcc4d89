-- The rows of the fields of a table. Assumes nothing.
--     length-of, row-of    how many there are, and each of them
--     same-rows            fields that are the same have the same rows
--     first-of             what a search among them finds
--     distinct-of          they are distinct where the fields are
use Rattle.std.proofs.Common.{◌≡◌, ℕ, zero, suc, ◌<◌, false, List, [], ◌∷◌, ◌++◌, length, refl, sym, ap, ◌∙◌, ap₂, arith, length-append}
use Rattle.std.proofs.lemmas.List.{get_or_append_left}
use Rattle.std.proofs.Math.Seq.{get_or-append_seam}
use mathlib.Core.Logic.{⊎_elim}
use native.Mathlib.Nat.{not-suc-le-zero, eq-or-lt_of_le, le_of_suc-le-suc}
use Rattle.fields.specs.Text.{same}
use Rattle.fields.specs.Search.{first_to}
use Rattle.fields.proofs.Finding.{first-same}
use Rattle.index.specs.RowChains.{row_at, rows_of, first_with, Distinct}

module _ (field : ℕ → List ℕ) where
  pub length-of : (n : ℕ) → length (rows_of field n) ≡ n
  length-of zero = refl
  length-of (suc n) = length-append (rows_of field n) (field n ∷ []) ∙ (let e = length-of n in omega arith)

  pub row-of : (n i : ℕ) → i < n → row_at (rows_of field n) i ≡ field i
  row-of zero i l = absurd (not-suc-le-zero l)
  row-of (suc n) i l =
      ⊎_elim
      (λ (q : i ≡ n).
      ap (row_at (rows_of field (suc n))) (q ∙ sym (length-of n))
      ∙ get_or-append_seam (rows_of field n) (field n) [] []
      ∙ ap field (sym q))
      (λ (k : i < n). get_or_append_left (rows_of field n) (field n ∷ []) [] i (let e = length-of n in omega arith) ∙ row-of n i k)
      (eq-or-lt_of_le (le_of_suc-le-suc l))

  pub first-of : (n : ℕ) (x : List ℕ) → first_with x (rows_of field n) ≡ first_to (λ i. same (field i) x) n
  first-of n x =
      ap (first_to (λ i. same (row_at (rows_of field n) i) x)) (length-of n)
      ∙ first-same (λ i. same (row_at (rows_of field n) i) x) (λ i. same (field i) x) n
      (λ i l. ap (λ (s : List ℕ). same s x) (row-of n i l))

  pub distinct-of : (n : ℕ) → ((i j : ℕ) → i < j → j < n → same (field i) (field j) ≡ false) → Distinct (rows_of field n)
  distinct-of n differ =
      record {
        differ =
            λ i j l k.
            let below : j < n = let e = length-of n in omega arith in
            ap₂ same (row-of n i (omega arith)) (row-of n j below) ∙ differ i j l below;
      }

pub same-rows : (f g : ℕ → List ℕ) (n : ℕ) → ((i : ℕ) → i < n → f i ≡ g i) → rows_of f n ≡ rows_of g n
same-rows f g zero h = refl
same-rows f g (suc n) h =
    ap₂ (λ (rows : List (List ℕ)) (x : List ℕ). rows ++ x ∷ []) (same-rows f g n (λ i l. h i (omega arith))) (h n (omega arith))
