-- Rows chained by buckets, so that a search looks at the rows of one bucket: a bucket's rows are chained, the last first. The head of a
-- bucket is its last row, the link of a row is the row before it in its bucket; both are one more than the row's number, 0 for none.
-- Heads and links are defined by the last row of a bucket, so that one row more is one equation for each (`enchained`).
--     last_to     one more than the last number below n that passes a test, 0 where none does
--     Chained    heads and links are those of the first n rows
-- Assumes nothing.
use Rattle.std.specs.Prelude.{ℕ, zero, suc, ◌<◌, ◌≡◌, Bool, cond, List, eqb, get_or}

abbrev pub last_to : (ℕ → Bool) → ℕ → ℕ
last_to test zero = 0
last_to test (suc n) = cond (test n) (suc n) (last_to test n)

pub record Chained (buckets : ℕ) (bucket_of : ℕ → ℕ) (n : ℕ) (heads links : List ℕ) : Type 0 where
  pub head : (h : ℕ) → h < buckets → get_or heads h 0 ≡ last_to (λ j. eqb (bucket_of j) h) n
  pub link : (i : ℕ) → i < n → get_or links i 0 ≡ last_to (λ j. eqb (bucket_of j) (bucket_of i)) i
