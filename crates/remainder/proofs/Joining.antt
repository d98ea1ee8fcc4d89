-- What is held with digits put behind, by the two ways that it goes; and that all numbers in it fit. Assumes nothing.
use mathlib.Core.Path.{◌≡◌, refl}
use Prim.Native.Nat.{ℕ, ◌+◌, ◌-◌, ◌*◌, ◌/◌, ◌%◌, ◌^◌, ◌≤◌, ◌<◌}
use native.Mathlib.Omega.{arith}
use borrow.Author.Tests.{lt-ltb, le-ltb, ne_eqb}
use Rattle.remainder.specs.Held.{Fitting, joined, divided_at}
use Rattle.remainder.specs.declared.Held.{Held}
use Rattle.remainder.specs.declared.Divided.{Divided}
use Rattle.remainder.proofs.DigitBounds.{power-most, digits-behind, first-digits}

-- at most seven digits in all
pub behind-fits : (a n p d : ℕ) {power : ℕ} → power ≡ 10 ^ d → a < 10 ^ p → n < 10 ^ d → p + d ≤ 7 → a * power + n < 10 ^ 7
behind-fits a n p d e h k l =
    rw e (let small = digits-behind a n p d h k in let most = power-most (p + d) l in omega arith)

module _ (h : Held) (n d : ℕ) (fits : Fitting h) where
  -- fewer than seven
  pub held-longer : {m : ℕ} → h.digits + d < 7 → m ≡ h.number * 10 ^ d + n
      → ◌≡◌ {A = Held} (record { carried = h.carried; groups = h.groups; number = m; digits = h.digits + d }) (joined h n d)
  held-longer few e = rw (lt-ltb (h.digits + d) 7 few, e) refl

  -- seven or more: the first of the digits put behind make a group whole
  abbrev rest : ℕ
  rest = h.digits + d - 7

  pub group-fits : {power low : ℕ} → 7 ≤ h.digits + d → d ≤ 7 → n < 10 ^ d → low ≡ 10 ^ rest → power ≡ 10 ^ (d - rest)
      → h.number * power + n / low < 10 ^ 7
  group-fits seven most k el ep =
      behind-fits h.number (n / _) h.digits (d - rest) ep fits.number
      (rw el (first-digits n d rest (let f = fits.digits in omega arith) k))
      (let f = fits.digits in omega arith)

  pub held-taken : {r group low first : ℕ} → 7 ≤ h.digits + d → low ≡ 10 ^ rest → first ≡ n / low
      → group ≡ h.number * 10 ^ (d - rest) + first → r ≡ (h.carried * 10 ^ 7 + group) % 97
      → ◌≡◌ {A = Held} (record { carried = r; groups = h.groups + 1; number = n - first * low; digits = rest }) (joined h n d)
  held-taken seven el ef eg er = rw (le-ltb (h.digits + d) 7 seven, er, eg, ef, el) refl

-- the end: no digit is held, or those held are the last group
module _ (h : Held) where
  pub none-held : h.digits ≡ 0 → ◌≡◌ {A = Divided} (record { remainder = h.carried; groups = h.groups }) (divided_at h)
  none-held e = rw e refl

  pub last_taken : {power r : ℕ} → (h.digits ≡ 0 → ⊥) → power ≡ 10 ^ h.digits → r ≡ (h.carried * power + h.number) % 97
      → ◌≡◌ {A = Divided} (record { remainder = r; groups = h.groups + 1 }) (divided_at h)
  last_taken some ep er = rw (ne_eqb h.digits 0 some, er, ep) refl
