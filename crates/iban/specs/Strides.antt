-- How the check of an IBAN goes over its bytes.
--     iban_front   what the first bytes tell: two capitals, two digits, a byte more
--     five_more    five bytes from a place on are there, no letters, and the last is no zero byte
--     Writes      a stride of these characters: how many they are, how many digits they are written with, and what these read as
-- Assumes nothing.
use Rattle.std.specs.Prelude.{ℕ, ◌+◌, ◌≡◌, Bool, not, ◌&&◌, List, ltb, eqb, length, get_or}
use Rattle.classes.specs.Class.{is_in}
use Rattle.classes.specs.declared.Class.TheVariants.{Capital, Digit}
use Rattle.iban.specs.Iban.{digits, read_decimal}
use Rattle.iban.specs.declared.strides.Stride.{Stride}

abbrev pub iban_front : List ℕ → Bool
iban_front s =
    is_in Capital (get_or s 0 0) && is_in Capital (get_or s 1 0)
    && (is_in Digit (get_or s 2 0) && is_in Digit (get_or s 3 0))
    && not (eqb (get_or s 4 0) 0)

abbrev pub five_more : List ℕ → ℕ → Bool
five_more s at =
    not (ltb (length s) (at + 5))
    && (ltb (get_or s at 0) 64
    && ltb (get_or s (at + 1) 0) 64
    && ltb (get_or s (at + 2) 0) 64
    && ltb (get_or s (at + 3) 0) 64
    && ltb (get_or s (at + 4) 0) 64
    && not (eqb (get_or s (at + 4) 0) 0))

pub record Writes (r : Stride) (t : List ℕ) : Type 0 where
  pub long : r.length ≡ length t
  pub counted : r.digits ≡ length (digits t)
  pub read : r.number ≡ read_decimal (digits t)
