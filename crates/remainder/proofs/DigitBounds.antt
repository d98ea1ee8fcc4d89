-- Numbers of so many digits: one written behind another, and the first digits of one. Assumes nothing.
use mathlib.Core.Path.{◌≡◌, sym, ◌∙◌, ap}
use Prim.Native.Nat.{ℕ, ◌+◌, ◌-◌, ◌*◌, ◌/◌, ◌^◌, ◌≤◌, ◌<◌}
use native.Mathlib.Nat.{add-mul, one-mul, mul-le-mul, le_refl, one-le-pow, pow-le-pow_right, div-lt_iff_lt-mul}
use native.Mathlib.Omega.{arith}
use lib.Pow.{pow-add}

-- a power of ten is not 0, and that of fewer digits is no greater
pub power-least : (k : ℕ) → 1 ≤ 10 ^ k
power-least k = one-le-pow k 10 (omega arith)

pub power-most : (k : ℕ) → k ≤ 7 → 10 ^ k ≤ 10 ^ 7
power-most k h = pow-le-pow_right (omega arith) h

-- d digits behind p digits are p + d digits
pub digits-behind : (a n p d : ℕ) → a < 10 ^ p → n < 10 ^ d → a * 10 ^ d + n < 10 ^ (p + d)
digits-behind a n p d h k =
    let room : (a + 1) * 10 ^ d ≤ 10 ^ p * 10 ^ d = mul-le-mul (omega arith) (le_refl (10 ^ d)) in
    omega (arith, room, add-mul a 1 (10 ^ d), one-mul (10 ^ d), pow-add 10 p d)

-- without its last digits a number has so many fewer
pub first-digits : (n d rest : ℕ) → rest ≤ d → n < 10 ^ d → n / 10 ^ rest < 10 ^ (d - rest)
first-digits n d rest h k =
    let whole : d - rest + rest ≡ d = omega arith in
    (div-lt_iff_lt-mul (power-least rest)).1 (omega (arith, k, sym (pow-add 10 (d - rest) rest) ∙ ap (λ (e : ℕ). 10 ^ e) whole))
