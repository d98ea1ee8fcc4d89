-- What is kept while digits are put behind each other, by its numbers alone: what is carried from the whole groups of seven and how many
-- these are, the number of the digits behind them and how many those are. What it tells of a list of digits is stated in `iban`.
--     Fitting       below 97 is carried, over at most nine groups; fewer than seven digits are held, and their number has no more
--     nothing_held   before the first digit
--     taken_off      with d digits put behind, of which the last rest are held and those before them make a group whole
--     joined        with d digits put behind, which are the number n: fewer than seven are held; else the first seven are taken off
--     divided_at     at the end: the digits held are the last group, where there are any
-- Assumes nothing.
use Rattle.std.specs.Prelude.{ℕ, ◌+◌, ◌-◌, ◌*◌, ◌/◌, ◌%◌, ◌^◌, ◌≤◌, ◌<◌, cond, ltb, eqb}
use Rattle.remainder.specs.declared.Held.{Held}
use Rattle.remainder.specs.declared.Divided.{Divided}

pub record Fitting (h : Held) : Type 0 where
  pub carried : h.carried < 97
  pub groups : h.groups ≤ 9
  pub number : h.number < 10 ^ h.digits
  pub digits : h.digits < 7

abbrev pub nothing_held : Held
nothing_held = record { carried = 0; groups = 0; number = 0; digits = 0 }

-- 02, slip 4: take it over groups of seven digits
abbrev pub taken_off : Held → ℕ → ℕ → ℕ → Held
taken_off h n d rest =
    record {
      carried = (h.carried * 10 ^ 7 + (h.number * 10 ^ (d - rest) + n / 10 ^ rest)) % 97;
      groups = h.groups + 1;
      number = n - n / 10 ^ rest * 10 ^ rest;
      digits = rest;
    }

abbrev pub joined : Held → ℕ → ℕ → Held
joined h n d =
    cond (ltb (h.digits + d) 7)
    (record { carried = h.carried; groups = h.groups; number = h.number * 10 ^ d + n; digits = h.digits + d })
    (taken_off h n d (h.digits + d - 7))

-- 02, slip 4: one of them shorter if need be
abbrev pub divided_at : Held → Divided
divided_at h =
    cond (eqb h.digits 0)
    (record { remainder = h.carried; groups = h.groups })
    (record { remainder = (h.carried * 10 ^ h.digits + h.number) % 97; groups = h.groups + 1 })
