-- The classes of bytes that BIC, IBAN and TxId are made of, on any number as the byte.
--     between    from one character to another, both counted
--     is         one character
--     capital    A-Z
--     small      a-z
--     digit      0-9
--     is_in       whether a byte is of a class
--     all_in      whether each byte of a list is; the empty list's are
-- Assumes nothing.
use Rattle.std.specs.Prelude.{ℕ, Bool, true, ◌&&◌, ◌||◌, not, List, [], ◌∷◌, leb, eqb}
use Prim.Native.Char.{Char, code}
use Rattle.classes.specs.declared.Class.{Class}
use Rattle.classes.specs.declared.Class.TheVariants.{
  Capital,
  Digit,
  CapitalOr2To9,
  CapitalButOOrDigit,
  CapitalOrDigit,
  Txid,
}

abbrev pub between : Char → Char → ℕ → Bool
between low high c = leb (code low) c && leb c (code high)

abbrev pub is : Char → ℕ → Bool
is a c = eqb c (code a)

abbrev pub capital : ℕ → Bool
capital c = between "A" "Z" c

abbrev pub small : ℕ → Bool
small c = between "a" "z" c

abbrev pub digit : ℕ → Bool
digit c = between "0" "9" c

abbrev pub is_in : Class → ℕ → Bool
is_in Capital c = capital c
is_in Digit c = digit c
is_in CapitalOr2To9 c = capital c || between "2" "9" c
is_in CapitalButOOrDigit c = (capital c && not (is "O" c)) || digit c
is_in CapitalOrDigit c = capital c || digit c
is_in Txid c =
    capital c || small c || digit c
    || is "/" c || is "-" c || is "?" c || is ":" c || is "(" c || is ")" c || is "." c || is "," c || is "'" c || is "+" c

abbrev pub all_in : Class → List ℕ → Bool
all_in class [] = true
all_in class (c ∷ s) = is_in class c && all_in class s
