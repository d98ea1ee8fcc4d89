-- Classes of bytes, and runs of bytes of one class.
--     is_space      white space
--     is_letter     a letter
--     is_first      a name's first byte
--     is_name       a byte of a name
--     is_encoding_byte  a byte of an encoding's name
--     is_text       a byte of a text
--     is_value      a byte of an attribute's value
--     all_of        each byte of a text is of a class
--     is_named      a text is a name
--     run_length    how many bytes of a class a text begins with
--     run          those bytes
--     past         what stands behind them
-- Assumes nothing.
use Rattle.std.specs.Prelude.{ℕ, suc, Bool, true, false, ◌&&◌, ◌||◌, not, cond, List, [], ◌∷◌, leb, eqb, take, drop}

-- XML 1.0: white space is the bytes 20, 09, 0D and 0A
unfoldable pub is_space : ℕ → Bool
is_space b = eqb b 0x20 || eqb b 0x09 || eqb b 0x0d || eqb b 0x0a

unfoldable pub is_letter : ℕ → Bool
is_letter b = leb 65 b && leb b 90 || leb 97 b && leb b 122

-- XML 1.0: a byte of an encoding's name behind its first
unfoldable pub is_encoding_byte : ℕ → Bool
is_encoding_byte b = is_letter b || leb 48 b && leb b 57 || eqb b 0x5f || eqb b 0x2d || eqb b 0x2e

-- 02, slip 3: names are ASCII letters, digits and _ - . : after a first letter or _
unfoldable pub is_first : ℕ → Bool
is_first b = is_letter b || eqb b 0x5f

unfoldable pub is_name : ℕ → Bool
is_name b = is_encoding_byte b || eqb b 0x3a

-- 02, slip 3: text and values hold any byte but < and &; a value ends at its double quote
unfoldable pub is_text : ℕ → Bool
is_text b = not (eqb b 0x3c || eqb b 0x26)

unfoldable pub is_value : ℕ → Bool
is_value b = not (eqb b 0x3c || eqb b 0x26 || eqb b 0x22)

abbrev pub all_of : (ℕ → Bool) → List ℕ → Bool
all_of p [] = true
all_of p (b ∷ s) = p b && all_of p s

abbrev pub is_named : List ℕ → Bool
is_named [] = false
is_named (b ∷ s) = is_first b && all_of is_name s

abbrev pub run_length : (ℕ → Bool) → List ℕ → ℕ
run_length p [] = 0
run_length p (b ∷ s) = cond (p b) (suc (run_length p s)) 0

abbrev pub run : (ℕ → Bool) → List ℕ → List ℕ
run p s = take (run_length p s) s

abbrev pub past : (ℕ → Bool) → List ℕ → List ℕ
past p s = drop (run_length p s) s
