-- What a stride of digits alone writes: its number is the bytes read as digits, less 48 at each place. Assumes nothing.
use mathlib.Core.Path.{◌≡◌, refl, sym, ◌∙◌, ap}
use mathlib.Core.Bool.{true}
use mathlib.Core.List.{List, [], ◌∷◌, ◌++◌}
use Prim.Native.Nat.{ℕ, ◌+◌, ◌-◌, ◌*◌, ◌^◌, ◌≤◌}
use native.Mathlib.Nat.{add-mul, one-mul}
use native.Mathlib.Omega.{arith}
use lib.ListN.{length, get_or, replicate, length-replicate}
use Rattle.fields.specs.Number.{part}
use Rattle.fields.proofs.Stores.{length_part}
use Rattle.fields.proofs.Tests.{and_left, and_right}
use Rattle.classes.specs.Class.{is_in, all_in}
use Rattle.classes.specs.declared.Class.TheVariants.{Digit}
use Rattle.iban.specs.Iban.{digits, read_decimal}
use Rattle.iban.specs.Strides.{Writes}
use Rattle.iban.specs.declared.strides.Stride.{Stride}
use Rattle.iban.proofs.IbanDigits.{digits-each}
use Rattle.iban.proofs.PartBytes.{part_bytes}
use Rattle.iban.proofs.Characters.{digit-bounds, digit-digits}

-- digits alone, one for each character
digits-count : (s : List ℕ) → all_in Digit s ≡ true → length (digits s) ≡ length s
digits-count s e = digits-each Digit 1 (λ c d. ap length (digit-digits c d)) s e ∙ one-mul (length s)

less-48 : (c p : ℕ) → 48 ≤ c → c * p ≡ (c - 48) * p + 48 * p
less-48 c p h = let is : c ≡ c - 48 + 48 = omega arith in ap (λ (n : ℕ). n * p) is ∙ add-mul (c - 48) 48 p

digits-read : (s : List ℕ) → all_in Digit s ≡ true → read_decimal s ≡ read_decimal (digits s) + read_decimal (replicate (length s) 48)
digits-read [] e = refl
digits-read (c ∷ s) e =
    let first = and_left (is_in Digit c) (all_in Digit s) e in
    let others = and_right (is_in Digit c) (all_in Digit s) e in
    let rest = digits-read s others in
    let here = less-48 c (10 ^ length s) (digit-bounds c first).0 in
    let fewer : read_decimal (digits (c ∷ s)) ≡ (c - 48) * 10 ^ length s + read_decimal (digits s) =
    ap (λ (ds : List ℕ). read_decimal (ds ++ digits s)) (digit-digits c first)
    ∙ ap (λ (n : ℕ). (c - 48) * 10 ^ n + read_decimal (digits s)) (digits-count s others)
    in
    let taken : read_decimal (replicate (length (c ∷ s)) 48) ≡ 48 * 10 ^ length s + read_decimal (replicate (length s) 48) =
    ap (λ (n : ℕ). 48 * 10 ^ n + read_decimal (replicate (length s) 48)) (length-replicate (length s) 48)
    in
    omega arith

pub digits-write : (r : Stride) (s : List ℕ) → all_in Digit s ≡ true → r.length ≡ length s → r.digits ≡ length s
    → r.number ≡ read_decimal s - read_decimal (replicate (length s) 48) → Writes r s
digits-write r s e l d n =
    record {
      long = l;
      counted = d ∙ sym (digits-count s e);
      read = omega (arith, digits-read s e);
    }

-- seven of them
abbrev seven_bytes : List ℕ → ℕ → ℕ
seven_bytes s i =
    get_or s i 0 * 1000000 + get_or s (i + 1) 0 * 100000 + get_or s (i + 2) 0 * 10000 + get_or s (i + 3) 0 * 1000 + get_or s (i + 4) 0 * 100
    + get_or s (i + 5) 0 * 10
    + get_or s (i + 6) 0

module _ (s : List ℕ) (i : ℕ) (h : i + 7 ≤ length s) (e : all_in Digit (part 7 i s) ≡ true) where
  seven-bytes : read_decimal (part 7 i s) ≡ seven_bytes s i
  seven-bytes = ap read_decimal (part_bytes 6 i s h) ∙ omega arith

  less : read_decimal (replicate (length (part 7 i s)) 48) ≡ 53333328
  less = ap (λ (n : ℕ). read_decimal (replicate n 48)) (length_part 7 i s h)

  pub seven-least : 53333328 ≤ seven_bytes s i
  seven-least = omega (arith, digits-read (part 7 i s) e, seven-bytes, less)

  pub seven-write : (r : Stride) → r.length ≡ 7 → r.digits ≡ 7 → r.number ≡ seven_bytes s i - 53333328 → Writes r (part 7 i s)
  seven-write r l d n =
      let long = sym (length_part 7 i s h) in
      digits-write r (part 7 i s) e (l ∙ long) (d ∙ long) (omega (arith, n, seven-bytes, less))
