-- 02, slip 4: the remainder by 97 over groups of seven digits as written (a letter is two), one of them shorter if need be, and the number
-- of groups.
--     sevens       the first k groups of digits: seven each, from the left
--     group_count   how many it takes for all digits
--     groups_of     the groups of all digits: the last is shorter if need be, and none is empty
--     carried_over  n, with each group in turn put behind what is carried, of which the remainder is carried on
--     over_groups   what all groups leave
--     iban_groups   how many groups the check of bytes takes; 0 where their shape is no IBAN's
-- Assumes nothing.
use Rattle.std.specs.Prelude.{ℕ, zero, suc, ◌+◌, ◌*◌, ◌/◌, ◌%◌, ◌^◌, cond, List, [], ◌∷◌, length, take, drop}
use Rattle.iban.specs.Iban.{digits, read_decimal, rearranged, iban_shape}

abbrev pub sevens : ℕ → List ℕ → List (List ℕ)
sevens zero ds = []
sevens (suc k) ds = take 7 ds ∷ sevens k (drop 7 ds)

abbrev pub group_count : List ℕ → ℕ
group_count ds = (length ds + 6) / 7

abbrev pub groups_of : List ℕ → List (List ℕ)
groups_of ds = sevens (group_count ds) ds

abbrev pub carried_over : ℕ → List (List ℕ) → ℕ
carried_over n [] = n
carried_over n (g ∷ gs) = carried_over ((n * 10 ^ length g + read_decimal g) % 97) gs

abbrev pub over_groups : List ℕ → ℕ
over_groups ds = carried_over 0 (groups_of ds)

abbrev pub iban_groups : List ℕ → ℕ
iban_groups s = cond (iban_shape s) (group_count (digits (rearranged s))) 0
