-- What a capital or a digit is as a byte, and what it is written with: its value, its digits and the number of these. Assumes nothing.
use mathlib.Core.Path.{◌≡◌, sym, ◌∙◌, ap}
use mathlib.Core.Bool.{Bool, true, false, ◌&&◌, ◌||◌, cond, and-false, or-false}
use mathlib.Core.List.{[], ◌∷◌}
use Prim.Native.Nat.{ℕ, ◌+◌, ◌-◌, ◌/◌, ◌%◌, ◌≤◌, ◌<◌}
use native.Mathlib.Omega.{arith}
use borrow.Author.Tests.{leb-true, lt-leb}
use lib.Dec.{leb}
use Rattle.fields.proofs.Tests.{and_left, and_right}
use Rattle.classes.specs.Class.{is_in, capital, digit}
use Rattle.classes.specs.declared.Class.TheVariants.{Capital, Digit, CapitalOrDigit}
use Rattle.iban.specs.Iban.{value, digits_of}
use Rattle.iban.proofs.SpeltNumber.{one-digit, two_digits}

pub digit-bounds : (c : ℕ) → is_in Digit c ≡ true → (48 ≤ c) × (c ≤ 57)
digit-bounds c e = (leb-true 48 c (and_left (leb 48 c) (leb c 57) e), leb-true c 57 (and_right (leb 48 c) (leb c 57) e))

pub capital-bounds : (c : ℕ) → is_in Capital c ≡ true → (65 ≤ c) × (c ≤ 90)
capital-bounds c e = (leb-true 65 c (and_left (leb 65 c) (leb c 90) e), leb-true c 90 (and_right (leb 65 c) (leb c 90) e))

no_digit : (c : ℕ) → 58 ≤ c → digit c ≡ false
no_digit c h = ap (λ (b : Bool). leb 48 c && b) (lt-leb c 57 (omega arith)) ∙ and-false (leb 48 c)

-- a byte below 64 is a digit, and any other a capital
pub low_digit : (c : ℕ) → is_in CapitalOrDigit c ≡ true → c < 64 → is_in Digit c ≡ true
low_digit c e h = sym (ap (λ (b : Bool). b && leb c 90 || digit c) (lt-leb 65 c (omega arith))) ∙ e

pub high-capital : (c : ℕ) → is_in CapitalOrDigit c ≡ true → 64 ≤ c → is_in Capital c ≡ true
high-capital c e h = sym (ap (λ (b : Bool). capital c || b) (no_digit c (omega arith)) ∙ or-false (capital c)) ∙ e

pub digit_value : (c : ℕ) → is_in Digit c ≡ true → value c ≡ c - 48
digit_value c e = ap (λ (b : Bool). cond b (c - 48) (cond (capital c) (c - 65 + 10) 0)) e

pub capital-value : (c : ℕ) → is_in Capital c ≡ true → value c ≡ c - 55
capital-value c e =
    let bounds = capital-bounds c e in
    ap (λ (b : Bool). cond b (c - 48) (cond (capital c) (c - 65 + 10) 0)) (no_digit c (omega arith))
    ∙ ap (λ (b : Bool). cond b (c - 65 + 10) 0) e
    ∙ omega arith

pub digit-digits : (c : ℕ) → is_in Digit c ≡ true → digits_of c ≡ (c - 48) ∷ []
digit-digits c e =
    let bounds = digit-bounds c e in
    let v = digit_value c e in
    one-digit (value c) (omega arith) ∙ ap (λ (n : ℕ). n ∷ []) v

pub capital-digits : (c : ℕ) → is_in Capital c ≡ true → digits_of c ≡ (c - 55) / 10 ∷ (c - 55) % 10 ∷ []
capital-digits c e =
    let bounds = capital-bounds c e in
    let v = capital-value c e in
    two_digits (value c) (omega arith) ∙ ap (λ (n : ℕ). n / 10 ∷ n % 10 ∷ []) v
