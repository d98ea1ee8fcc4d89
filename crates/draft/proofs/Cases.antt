-- Worked cases of amounts and of BICs as they stand in a ticket, as rows: the edges of each definition. Assumes nothing.
use Prim.Native.Nat.{ℕ}
use Prim.Native.String.{String}
use mathlib.Core.Path.{refl}
use mathlib.Core.List.{List, [], ◌∷◌, ◌++◌}
use lib.ListN.{replicate}
use Rattle.std.specs.Prelude.{Option, Some, None}
use Rattle.fields.specs.Text.{text}
use Rattle.fields.proofs.CaseRows.{Row, AllMet, all-met}
use Rattle.pacs.specs.Judged.{is_digit}
use Rattle.draft.specs.Drafting.{amount_in, bic_field}

-- an amount, 0 where there is none; and a field, zeroes where there is none
abbrev amount_or_none : Option ℕ → ℕ
amount_or_none (Some n) = n
amount_or_none None = 0

abbrev field_or_zeroes : Option (List ℕ) → List ℕ
field_or_zeroes (Some s) = s
field_or_zeroes None = replicate 11 0

abbrev amount_row : String → String → ℕ → Row
amount_row shows given due = record { shows = shows; rule = λ s. amount_or_none (amount_in s) ∷ []; given = text given; due = due ∷ [] }

abbrev field_row : String → String → List ℕ → Row
field_row shows given due = record { shows = shows; rule = λ s. field_or_zeroes (bic_field s); given = text given; due = due }

abbrev pub amounts : List Row
amounts =
    amount_row "one digit" "4.00" 400
    ∷ amount_row "nine digits" "999999999.99" 99_999_999_999
    ∷ amount_row "ten digits" "1000000000.00" 0
    ∷ amount_row "a zero before the others" "000000004.00" 400
    ∷ amount_row "nothing" "0.00" 0
    ∷ amount_row "a cent" "0.01" 1
    ∷ amount_row "no digit before the point" ".50" 0
    ∷ amount_row "one digit behind the point" "4.5" 0
    ∷ amount_row "three digits behind the point" "4.500" 0
    ∷ amount_row "a comma" "4,00" 0
    ∷ amount_row "no point" "400" 0
    ∷ amount_row "a sign" "-4.00" 0
    ∷ amount_row "a space" "4.00 " 0
    ∷ amount_row "no text" "" 0
    ∷ []

abbrev pub bics : List Row
bics =
    field_row "eight bytes" "AAAALV22" (text "AAAALV22XXX")
    ∷ field_row "nine bytes" "AAAALV22X" (replicate 11 0)
    ∷ field_row "eleven bytes" "AAAALV22ABC" (text "AAAALV22ABC")
    ∷ field_row "twelve bytes" "AAAALV22XXXX" (replicate 11 0)
    ∷ []

abbrev pub cases : List Row
cases = amounts ++ bics

pub cases-met : AllMet cases
unfolding is_digit
cases-met = all-met cases refl
