-- Rows of words, and the buckets by which they are chained: a row is in one of 509 buckets by its words.
--     added         a sum, above 64 bits left off
--     added_to      words added to a number, one after the other
--     row_bucket    the bucket of a row of words: what their sum leaves by 509
--     row_at        a row by its number, none past the end
--     rows_of       the rows of the first n fields of a table
--     first_with    the first row that holds a field
--     Distinct      no two rows hold the same
-- Assumes nothing.
use Rattle.std.specs.Prelude.{◌≡◌, ℕ, zero, suc, ◌+◌, ◌%◌, ◌^◌, ◌<◌, false, List, [], ◌∷◌, ◌++◌, length, get_or, Option}
use Rattle.fields.specs.Text.{same}
use Rattle.fields.specs.Search.{first_to}

abbrev pub row_buckets : ℕ
row_buckets = 509

abbrev pub added : ℕ → ℕ → ℕ
added m n = (m + n) % 2 ^ 64

abbrev pub added_to : ℕ → List ℕ → ℕ
added_to n [] = n
added_to n (w ∷ ws) = added_to (added n w) ws

abbrev pub row_bucket : List ℕ → ℕ
row_bucket ws = added_to 0 ws % row_buckets

abbrev pub row_at : List (List ℕ) → ℕ → List ℕ
row_at rows i = get_or rows i []

abbrev pub rows_of : (ℕ → List ℕ) → ℕ → List (List ℕ)
rows_of field zero = []
rows_of field (suc n) = rows_of field n ++ field n ∷ []

abbrev pub first_with : List ℕ → List (List ℕ) → Option ℕ
first_with field rows = first_to (λ i. same (row_at rows i) field) (length rows)

pub record Distinct (rows : List (List ℕ)) : Type 0 where
  pub differ : (i j : ℕ) → i < j → j < length rows → same (row_at rows i) (row_at rows j) ≡ false
