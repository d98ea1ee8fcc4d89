-- What a test up to n tells of each number below it, what a table up to n holds, and sums up to n. Assumes nothing.
use mathlib.Core.Path.{◌≡◌, refl, sym, ◌∙◌, ap, ap₂}
use mathlib.Core.Bool.{Bool, true, false, ◌&&◌, ◌||◌, not}
use mathlib.Core.Logic.{◌⊎◌, ⊎_elim}
use Prim.Native.Nat.{ℕ, zero, suc, ◌+◌, ◌≤◌, ◌<◌}
use native.Mathlib.Nat.{not-suc-le-zero, eq-or-lt_of_le, le_of_suc-le-suc}
use native.Mathlib.Omega.{arith}
use lib.Arith.{le-zero}
use lib.ListN.{length, get_or, length-set, length-replicate, get_or-replicate}
use lib.Seq.{get_or-set_same, get_or-set_other}
use Rattle.fields.specs.UpTo.{all_to, any_to, rows_to, sum_to}
use Rattle.fields.proofs.Tests.{and_left, and_right, or_left, or_right}

-- each number below n is n - 1 or below that
last-or-before : {i n : ℕ} → i < suc n → (i ≡ n) ⊎ (i < n)
last-or-before h = eq-or-lt_of_le (le_of_suc-le-suc h)

pub all-at : (test : ℕ → Bool) (n i : ℕ) → all_to test n ≡ true → i < n → test i ≡ true
all-at test zero i e h = absurd (not-suc-le-zero h)
all-at test (suc n) i e h =
    ⊎_elim
    (λ (q : i ≡ n). ap test q ∙ and_right (all_to test n) (test n) e)
    (λ (l : i < n). all-at test n i (and_left (all_to test n) (test n) e) l)
    (last-or-before h)

pub none-at : (test : ℕ → Bool) (n i : ℕ) → any_to test n ≡ false → i < n → test i ≡ false
none-at test zero i e h = absurd (not-suc-le-zero h)
none-at test (suc n) i e h =
    ⊎_elim
    (λ (q : i ≡ n). ap test q ∙ or_right (any_to test n) (test n) e)
    (λ (l : i < n). none-at test n i (or_left (any_to test n) (test n) e) l)
    (last-or-before h)

-- and what tells that a test up to n is passed, or by none
pub all-to : (test : ℕ → Bool) (n : ℕ) → ((i : ℕ) → i < n → test i ≡ true) → all_to test n ≡ true
all-to test zero h = refl
all-to test (suc n) h = simp (all-to test n (λ i l. h i (omega arith)), h n (omega arith))

pub none-to : (test : ℕ → Bool) (n : ℕ) → ((i : ℕ) → i < n → test i ≡ false) → any_to test n ≡ false
none-to test zero h = refl
none-to test (suc n) h = simp (none-to test n (λ i l. h i (omega arith)), h n (omega arith))

-- each passes one test, and none another
pub all_apart : (p q : ℕ → Bool) (n : ℕ) → all_to (λ i. p i && not (q i)) n ≡ (all_to p n && not (any_to q n))
all_apart p q zero = refl
all_apart p q (suc n) = ap (λ (b : Bool). b && (p n && not (q n))) (all_apart p q n) ∙ go (all_to p n) (any_to q n) (p n) (q n)
  where
    go : (a b c d : Bool) → (a && not b && (c && not d)) ≡ (a && c && not (b || d))
    go false b c d = refl
    go true true true d = refl
    go true true false d = refl
    go true false true d = refl
    go true false false d = refl

module _ {A : Type 0} (size : ℕ) (none : A) (row : ℕ → A) where
  pub rows-length : (n : ℕ) → length (rows_to size none row n) ≡ size
  rows-length zero = length-replicate size none
  rows-length (suc n) = length-set (rows_to size none row n) n (row n) ∙ rows-length n

  pub row_at : (n i : ℕ) (d : A) → i < n → n ≤ size → get_or (rows_to size none row n) i d ≡ row i
  row_at zero i d h k = absurd (not-suc-le-zero h)
  row_at (suc n) i d h k =
      ⊎_elim
      (λ (q : i ≡ n). rw q (get_or-set_same (rows_to size none row n) n (row n) d (rw (rows-length n) k)))
      (λ (l : i < n). get_or-set_other (rows_to size none row n) n i (row n) d (λ q. omega arith) ∙ row_at n i d l (omega arith))
      (last-or-before h)

  -- a row past the first n is as the table was made
  pub row-past : (n i : ℕ) (d : A) → n ≤ i → i < size → get_or (rows_to size none row n) i d ≡ none
  row-past zero i d h k = get_or-replicate size i none d k
  row-past (suc n) i d h k = get_or-set_other (rows_to size none row n) n i (row n) d (λ q. omega arith) ∙ row-past n i d (omega arith) k

-- sums: of the same terms, with one term changed, and not below any term
pub sum_same : (f g : ℕ → ℕ) (n : ℕ) → ((i : ℕ) → i < n → f i ≡ g i) → sum_to f n ≡ sum_to g n
sum_same f g zero h = refl
sum_same f g (suc n) h = ap₂ ◌+◌ (sum_same f g n (λ i l. h i (omega arith))) (h n (omega arith))

pub sum-change : (f g : ℕ → ℕ) (n i : ℕ) → i < n → ((j : ℕ) → j < n → (j ≡ i → ⊥) → f j ≡ g j) → sum_to f n + g i ≡ sum_to g n + f i
sum-change f g zero i l h = absurd (not-suc-le-zero l)
sum-change f g (suc n) i l h =
    ⊎_elim
    (λ (q : i ≡ n).
    let e = sum_same f g n (λ j k. h j (omega arith) (λ r. omega arith)) in
    let a : f i ≡ f n = ap f q in
    let b : g i ≡ g n = ap g q in
    omega arith)
    (λ (k : i < n).
    let e = sum-change f g n i k (λ j m r. h j (omega arith) r) in
    let a = h n (omega arith) (λ r. omega arith) in
    omega arith)
    (last-or-before l)

pub sum-part : (f : ℕ → ℕ) (n i : ℕ) → i < n → f i ≤ sum_to f n
sum-part f zero i l = absurd (not-suc-le-zero l)
sum-part f (suc n) i l =
    ⊎_elim
    (λ (q : i ≡ n). let a : f i ≡ f n = ap f q in omega arith)
    (λ (k : i < n). let a = sum-part f n i k in omega arith)
    (last-or-before l)

pub sum-zero : (f : ℕ → ℕ) (n : ℕ) → ((i : ℕ) → i < n → f i ≡ 0) → sum_to f n ≡ 0
sum-zero f zero h = refl
sum-zero f (suc n) h = let a = sum-zero f n (λ i l. h i (omega arith)) in let b = h n (omega arith) in omega arith

pub sum-prefix : (f : ℕ → ℕ) (i n : ℕ) → i ≤ n → sum_to f i ≤ sum_to f n
sum-prefix f i zero h = rw (le-zero h) (omega arith)
sum-prefix f i (suc n) h =
    ⊎_elim
    (λ (q : i ≡ suc n). rw q (omega arith))
    (λ (l : i < suc n). let a = sum-prefix f i n (omega arith) in omega arith)
    (eq-or-lt_of_le h)

-- terms that are zero add nothing
pub sum-beyond : (f : ℕ → ℕ) (m n : ℕ) → m ≤ n → ((i : ℕ) → m ≤ i → i < n → f i ≡ 0) → sum_to f n ≡ sum_to f m
sum-beyond f m zero h z = ap (sum_to f) (sym (le-zero h))
sum-beyond f m (suc n) h z =
    ⊎_elim
    (λ (q : m ≡ suc n). ap (sum_to f) (sym q))
    (λ (l : m < suc n).
    let e = sum-beyond f m n (omega arith) (λ i a b. z i a (omega arith)) in
    let k = z n (omega arith) (omega arith) in omega arith)
    (eq-or-lt_of_le h)

-- the sum of two is the two sums
pub sum-add : (f g : ℕ → ℕ) (n : ℕ) → sum_to (λ i. f i + g i) n ≡ sum_to f n + sum_to g n
sum-add f g zero = refl
sum-add f g (suc n) = let e = sum-add f g n in omega arith
