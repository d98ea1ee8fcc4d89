-- What an IBAN is.
--     value        what a character counts for: 0 to 9, and 10 to 35 for a capital; 0 for any other byte
--     digits_of     that number written in decimal, one digit or two
--     digits       the digits of all characters, one after the other
--     read_decimal  digits read as one number, the last counting ones
--     remainder     what the number that characters spell leaves on division by 97
--     rearranged    the first four characters put at the end
--     iban_shape     all that is asked of an IBAN but its number
-- Assumes nothing.
use Rattle.std.specs.Prelude.{ℕ, ◌+◌, ◌-◌, ◌*◌, ◌/◌, ◌%◌, ◌^◌, Bool, ◌&&◌, cond, List, [], ◌∷◌, ◌++◌, leb, ltb, eqb, length, take, drop}
use Prim.Native.Char.{code}
use Rattle.classes.specs.Class.{capital, digit, all_in}
use Rattle.classes.specs.declared.Class.TheVariants.{Capital, Digit, CapitalOrDigit}

abbrev pub value : ℕ → ℕ
value c = cond (digit c) (c - code "0") (cond (capital c) (c - code "A" + 10) 0)

abbrev pub digits_of : ℕ → List ℕ
digits_of c = cond (ltb (value c) 10) (value c ∷ []) (value c / 10 ∷ value c % 10 ∷ [])

abbrev pub digits : List ℕ → List ℕ
digits [] = []
digits (c ∷ s) = digits_of c ++ digits s

abbrev pub read_decimal : List ℕ → ℕ
read_decimal [] = 0
read_decimal (d ∷ ds) = d * 10 ^ length ds + read_decimal ds

abbrev pub remainder : List ℕ → ℕ
remainder s = read_decimal (digits s) % 97

abbrev pub rearranged : List ℕ → List ℕ
rearranged s = drop 4 s ++ take 4 s

-- 01: two A-Z, two digits, 1 to 30 letters or digits (5 to 34 in all)
-- 02, slip 1: the IBAN check takes capital letters and digits only
abbrev pub iban_shape : List ℕ → Bool
iban_shape s =
    leb 5 (length s)
    && leb (length s) 34
    && all_in Capital (take 2 s)
    && all_in Digit (take 2 (drop 2 s))
    && all_in CapitalOrDigit (drop 4 s)

-- ISO 13616: move the first four to the end, read letters as 10 to 35; the number leaves 1 on division by 97
unfoldable pub is_iban : List ℕ → Bool
is_iban s = iban_shape s && eqb (remainder (rearranged s)) 1
