-- Rows in use as a list of rows, and rows compared. Assumes nothing.
--     same_is       the test of the same words is that of arrays
--     searchable    rows chained by their words are searched by the words of a field
use Rattle.std.proofs.Common.{◌≡◌, ℕ, ◌<◌, ◌≤◌, Bool, true, false, ◌&&◌, eqb, List, [], ◌∷◌, length, get_or, take, set, ◌+◌, refl, ap, sym, ◌∙◌, arith, length-take, get_or-take, mod-lt, lit<}
use lib.Pointwise.{pointwise}
use Rattle.fields.specs.Text.{same}
use Rattle.fields.specs.Search.{first_to}
use Rattle.fields.specs.Chains.{Chained}
use Rattle.fields.proofs.Same.{same_true, same_refl}
use Rattle.fields.proofs.Finding.{first-same}
use Rattle.fields.proofs.Chaining.{same-chained, enchained}
use lib.Seq.{get_or-set_same, get_or-set_other}
use Rattle.fields.proofs.Tests.{never}
use Rattle.index.specs.RowChains.{row_buckets, added_to, row_bucket, row_at, first_with, Distinct}
use Rattle.index.proofs.AlongChain.{Searchable}

pub same_is : (s t : List ℕ) → same s t ≡ pointwise eqb s t
same_is [] [] = refl
same_is [] (b ∷ t) = refl
same_is (a ∷ s) [] = refl
same_is (a ∷ s) (b ∷ t) = ap (λ (z : Bool). eqb a b && z) (same_is s t)

-- the first n rows are those in use
module _ (all : List (List ℕ)) {rows : List (List ℕ)} (n : ℕ) (used : take n all ≡ rows) {room : ℕ} (long : length all ≡ room) (few : n ≤ room) where
  pub count-is : length rows ≡ n
  count-is = ap length (sym used) ∙ (let e = length-take n all in omega arith)

  row-is : (i : ℕ) → i < n → row_at rows i ≡ row_at all i
  row-is i l = ap (λ (s : List (List ℕ)). row_at s i) (sym used) ∙ get_or-take n all i [] l

  -- a search among those in use is one among the first n
  pub first-is : (words : List ℕ) → first_with words rows ≡ first_to (λ i. same (row_at all i) words) n
  first-is words =
      ap (first_to (λ i. same (row_at rows i) words)) count-is
      ∙ first-same (λ i. same (row_at rows i) words) (λ i. same (row_at all i) words) n
      (λ i l. ap (λ (s : List ℕ). same s words) (row-is i l))

  pub searchable : {heads links : List ℕ} → Chained row_buckets (λ i. row_bucket (row_at all i)) n heads links → Distinct rows
      → (words : List ℕ)
      → Searchable row_buckets (row_bucket words) (λ i. row_bucket (row_at all i)) (λ i. same (row_at all i) words) n heads links
  searchable c apart words =
      record {
        chained = c;
        inside = mod-lt (added_to 0 words) (lit< tt);
        tells = λ i l e. ap row_bucket (same_true (row_at all i) words e);
        alone = λ i j l k e. go i j l k e (same (row_at all j) words) refl;
      }
    where
      go : (i j : ℕ) → i < j → j < n → same (row_at all i) words ≡ true → (b : Bool) → same (row_at all j) words ≡ b
          → same (row_at all j) words ≡ false
      go i j l k e false q = q
      go i j l k e true q =
          let far : same (row_at rows i) (row_at rows j) ≡ false = apart.differ i j l (let c = count-is in omega arith) in
          never
          (sym (ap (λ (s : List ℕ). same s (row_at all j)) (same_true _ _ e) ∙ ap (same words) (same_true _ _ q) ∙ same_refl words)
          ∙ sym (ap (λ (s : List ℕ). same s (row_at rows j)) (row-is i (omega arith)) ∙ ap (same (row_at all i)) (row-is j k))
          ∙ far)

-- a row more, in its bucket's chain
pub pushed-chained : (all : List (List ℕ)) (n : ℕ) {heads links : List ℕ}
    → Chained row_buckets (λ i. row_bucket (row_at all i)) n heads links → length heads ≡ row_buckets → n < length links
    → n < length all → (words : List ℕ) {b : ℕ} → b ≡ row_bucket words → b < row_buckets
    → Chained row_buckets (λ i. row_bucket (row_at (set all n words) i)) (n + 1) (set heads b (n + 1)) (set links n (get_or heads b 0))
pushed-chained all n {heads} {links} c headed linked room words {b} is inside =
    enchained
    (same-chained c (λ i l. ap row_bucket (sym (get_or-set_other all n i words [] (λ e. omega arith)))))
    headed linked (is ∙ ap row_bucket (sym (get_or-set_same all n words [] room))) inside refl refl
