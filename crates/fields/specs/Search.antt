-- Searching the numbers below n.
--     first_to      the first of them that passes a test
--     number_of     the number found, 0 where nothing was
--     found_or      what was found already, or n if it passes
-- Assumes nothing.
use Rattle.std.specs.Prelude.{ℕ, zero, suc, Bool, cond, Option, Some, None, unwrap_or}

abbrev pub number_of : Option ℕ → ℕ
number_of found = unwrap_or found 0

abbrev pub found_or : Option ℕ → ℕ → Bool → Option ℕ
found_or (Some i) n passes = Some i
found_or None n passes = cond passes (Some n) None

abbrev pub first_to : (ℕ → Bool) → ℕ → Option ℕ
first_to test zero = None
first_to test (suc n) = found_or (first_to test n) n (test n)
