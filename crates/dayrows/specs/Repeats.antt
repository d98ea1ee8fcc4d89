-- Whether BICs of a section's rows repeat.
--     bic_in         the BIC of a row of a section that starts at a place
--     bic_repeats    one of the first n rows of a section has an earlier row's BIC
-- Assumes nothing.
use Rattle.std.specs.Prelude.{ℕ, ◌+◌, ◌*◌, Bool, List}
use Rattle.fields.specs.Number.{part}
use Rattle.fields.specs.UpTo.{any_to}
use Rattle.dayfile.specs.FileRows.{bic_among}

abbrev pub bic_in : ℕ → ℕ → List ℕ → ℕ → List ℕ
bic_in start width f i = part 11 (start + width * i) f

abbrev pub bic_repeats : ℕ → ℕ → ℕ → List ℕ → Bool
bic_repeats start width n f = any_to (λ i. bic_among start width i (bic_in start width f i) f) n
