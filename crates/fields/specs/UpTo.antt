-- What holds of each number below n, of one of them, and a table with a row for each.
--     all_to     each number below n passes the test
--     any_to     one of them does
--     rows_to    a table of a size, its first n rows filled, the others as they were made
--     sum_to     the sum over them
-- Assumes nothing.
use Rattle.std.specs.Prelude.{ℕ, zero, suc, ◌+◌, Bool, true, false, ◌&&◌, ◌||◌, List, set, replicate}

abbrev pub all_to : (ℕ → Bool) → ℕ → Bool
all_to test zero = true
all_to test (suc n) = all_to test n && test n

abbrev pub any_to : (ℕ → Bool) → ℕ → Bool
any_to test zero = false
any_to test (suc n) = any_to test n || test n

abbrev pub rows_to : {A : Type 0} → ℕ → A → (ℕ → A) → ℕ → List A
rows_to size none row zero = replicate size none
rows_to size none row (suc n) = set (rows_to size none row n) n (row n)

abbrev pub sum_to : (ℕ → ℕ) → ℕ → ℕ
sum_to f zero = 0
sum_to f (suc n) = sum_to f n + f n
