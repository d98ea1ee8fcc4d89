-- Rows of one width, one after the other.
--     first_row    the first of n rows that holds a field
--     Indexed     the first n rows hold the fields of a table
-- Assumes nothing.
use Rattle.std.specs.Prelude.{ℕ, ◌*◌, ◌<◌, ◌≡◌, List, Option}
use Rattle.fields.specs.Number.{part}
use Rattle.fields.specs.Text.{same}
use Rattle.fields.specs.Search.{first_to}

abbrev pub first_row : ℕ → ℕ → List ℕ → List ℕ → Option ℕ
first_row width n field rows = first_to (λ i. same (part width (width * i) rows) field) n

pub record Indexed (width : ℕ) (field : ℕ → List ℕ) (n : ℕ) (rows : List ℕ) : Type 0 where
  pub row : (i : ℕ) → i < n → part width (width * i) rows ≡ field i
