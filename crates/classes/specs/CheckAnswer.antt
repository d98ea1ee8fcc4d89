-- The answer of a check, as a number: 1 for yes, 0 for no.
use Rattle.std.specs.Prelude.{ℕ, Bool, true, false}

abbrev pub answer : Bool → ℕ
answer true = 1
answer false = 0
