-- The number of an IBAN's first four characters, two capitals and two digits. Assumes nothing.
use mathlib.Core.Path.{◌≡◌, ◌∙◌, ap, ap₂}
use mathlib.Core.Bool.{true}
use mathlib.Core.List.{List, [], ◌∷◌, ◌++◌}
use Prim.Native.Nat.{ℕ, ◌+◌, ◌-◌, ◌*◌, ◌/◌, ◌%◌, ◌^◌, ◌≤◌, ◌<◌}
use native.Mathlib.Omega.{arith}
use lib.ListN.{length, get_or, take, drop}
use Rattle.fields.proofs.Tests.{and_left, and_right}
use Rattle.classes.specs.Class.{is_in, all_in}
use Rattle.classes.specs.declared.Class.TheVariants.{Capital, Digit}
use Rattle.iban.specs.Iban.{digits, read_decimal}
use Rattle.iban.proofs.Characters.{digit-bounds, capital-bounds, digit-digits, capital-digits}

front-number : (a b c d : ℕ) → is_in Capital a ≡ true → is_in Capital b ≡ true → is_in Digit c ≡ true → is_in Digit d ≡ true
    → read_decimal (digits (a ∷ b ∷ c ∷ d ∷ [])) + 556028 ≡ a * 10000 + b * 100 + c * 10 + d
front-number a b c d ca cb dc dd =
    let written : digits (a ∷ b ∷ c ∷ d ∷ [])
    ≡ (a - 55) / 10 ∷ (a - 55) % 10 ∷ (b - 55) / 10 ∷ (b - 55) % 10 ∷ (c - 48) ∷ (d - 48) ∷ [] =
    ap₂ ◌++◌ (capital-digits a ca)
    (ap₂ ◌++◌ (capital-digits b cb) (ap₂ ◌++◌ (digit-digits c dc) (ap (λ (ds : List ℕ). ds ++ []) (digit-digits d dd))))
    in
    ap (λ (ds : List ℕ). read_decimal ds + 556028) written
    ∙ omega (arith, capital-bounds a ca, capital-bounds b cb, digit-bounds c dc, digit-bounds d dd)

pub front_read : (s : List ℕ) → 4 ≤ length s → all_in Capital (take 2 s) ≡ true → all_in Digit (take 2 (drop 2 s)) ≡ true
    → (read_decimal (digits (take 4 s)) + 556028 ≡ get_or s 0 0 * 10000 + get_or s 1 0 * 100 + get_or s 2 0 * 10 + get_or s 3 0)
    × (read_decimal (digits (take 4 s)) < 10 ^ 6)
front_read [] h p q = absurd (omega arith)
front_read (a ∷ []) h p q = absurd (omega arith)
front_read (a ∷ b ∷ []) h p q = absurd (omega arith)
front_read (a ∷ b ∷ c ∷ []) h p q = absurd (omega arith)
front_read (a ∷ b ∷ c ∷ d ∷ s) h p q =
    let ca = and_left (is_in Capital a) _ p in
    let cb = and_left (is_in Capital b) _ (and_right (is_in Capital a) _ p) in
    let dc = and_left (is_in Digit c) _ q in
    let dd = and_left (is_in Digit d) _ (and_right (is_in Digit c) _ q) in
    let is = front-number a b c d ca cb dc dd in
    (is, omega (arith, capital-bounds a ca, capital-bounds b cb, digit-bounds c dc, digit-bounds d dd))
