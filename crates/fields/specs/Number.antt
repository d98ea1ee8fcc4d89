-- Big-endian numbers.
--     part       the w bytes at a place
--     number     bytes read as one number, the last counting ones
--     number_at   the number that the w bytes at a place are
--     bytes_of    a number's last w bytes
-- Assumes nothing.
use Rattle.std.specs.Prelude.{ℕ, zero, suc, ◌+◌, ◌*◌, ◌/◌, ◌%◌, ◌^◌, List, [], ◌∷◌, length, take, drop}

abbrev pub part : ℕ → ℕ → List ℕ → List ℕ
part w at s = take w (drop at s)

abbrev pub number : List ℕ → ℕ
number [] = 0
number (b ∷ s) = b * 256 ^ length s + number s

abbrev pub number_at : ℕ → ℕ → List ℕ → ℕ
number_at w at s = number (part w at s)

abbrev pub bytes_of : ℕ → ℕ → List ℕ
bytes_of zero n = []
bytes_of (suc w) n = n / 256 ^ w % 256 ∷ bytes_of w n
