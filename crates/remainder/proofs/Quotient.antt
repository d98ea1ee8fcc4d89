-- The quotient by 97 of a number below 97 * 10^7, by a product: 97 * 1416896428 is 44 above 2^37. Assumes nothing.
use mathlib.Core.Path.{◌≡◌}
use Prim.Native.Nat.{ℕ, ◌+◌, ◌*◌, ◌/◌, ◌%◌, ◌^◌, ◌<◌}
use native.Mathlib.Omega.{arith}

by_parts : (n : ℕ) → n * 1416896428 ≡ n / 97 * 137438953472 + (44 * (n / 97) + n % 97 * 1416896428)
by_parts n = omega arith

low_part : (n : ℕ) → n < 97 * 10 ^ 7 → 44 * (n / 97) + n % 97 * 1416896428 < 137438953472
low_part n h = omega arith

whole : (hi lo m : ℕ) → lo < 137438953472 → m ≡ hi * 137438953472 + lo → m / 137438953472 ≡ hi
whole hi lo m h e = omega arith

pub quotient : (n : ℕ) → n < 97 * 10 ^ 7 → n * 1416896428 / 137438953472 ≡ n / 97
quotient n h = whole (n / 97) (44 * (n / 97) + n % 97 * 1416896428) (n * 1416896428) (low_part n h) (by_parts n)
