-- Digits read one by one behind a number. Assumes nothing.
use mathlib.Core.Path.{◌≡◌, refl, sym, ◌∙◌, ap}
use mathlib.Core.Bool.{true}
use mathlib.Core.List.{List, ◌∷◌}
use Prim.Native.Nat.{ℕ, ◌+◌, ◌-◌, ◌*◌, ◌^◌, ◌≤◌, ◌<◌}
use native.Mathlib.Nat.{pow-succ', pow-le-pow_right}
use native.Mathlib.Numerals.{add-one}
use native.Mathlib.Omega.{arith}
use lib.Dec.{lit<}
use lib.ListN.{length, get_or, drop, drop_of_length-le}
use Rattle.fields.proofs.FromFront.{left-from}
use Rattle.xml.specs.Bytes.{all_of}
use Rattle.pacs.specs.Judged.{is_digit, digits_behind}
use Rattle.draft.proofs.Cents.{ADigit, digit-first, digits-rest}

-- the first i digits of s are read behind n
pub record ReadTo (n : ℕ) (s : List ℕ) (value i : ℕ) : Type 0 where
  pub within : i ≤ length s
  pub few : length s ≤ 9
  pub digits : all_of is_digit (drop i s) ≡ true
  pub same : digits_behind value (drop i s) ≡ digits_behind n s
  pub below : value < 1000000000 * 10 ^ i

module _ {n : ℕ} {s : List ℕ} {value i : ℕ} (r : ReadTo n s value i) (h : i < length s) where
  next : drop i s ≡ get_or s i 0 ∷ drop (i + 1) s
  next = left-from s i h

  pub next-digit : ADigit (get_or s i 0)
  next-digit = digit-first (get_or s i 0) (drop (i + 1) s) (ap (all_of is_digit) (sym next) ∙ r.digits)

  -- a digit more fits in 64 bits
  pub next_fits : value < 100000000000000000
  next_fits =
      let few : i ≤ 8 = let f = r.few in omega arith in
      let most : 10 ^ i ≤ 10 ^ 8 = pow-le-pow_right (lit< tt) few in
      let b = r.below in
      omega arith

  pub next-read : ReadTo n s (10 * value + (get_or s i 0 - 48)) (i + 1)
  next-read =
      record {
        within = omega arith;
        few = r.few;
        digits = digits-rest (get_or s i 0) (drop (i + 1) s) (ap (all_of is_digit) (sym next) ∙ r.digits);
        same = ap (digits_behind value) (sym next) ∙ r.same;
        below =
            let d = next-digit in
            let l = d.low in
            let g = d.high in
            let b = r.below in
            let p : 10 ^ (i + 1) ≡ 10 * 10 ^ i = ap (λ (k : ℕ). 10 ^ k) (add-one i) ∙ pow-succ' 10 i in
            rw p (omega arith);
      }

pub none_read : (n : ℕ) (s : List ℕ) → n < 1000000000 → length s ≤ 9 → all_of is_digit s ≡ true → ReadTo n s n 0
none_read n s h l e = record { within = omega arith; few = l; digits = e; same = refl; below = omega arith }

pub all_read : {n : ℕ} {s : List ℕ} {value i : ℕ} → ReadTo n s value i → length s ≤ i → value ≡ digits_behind n s
all_read {n} {s} {value} r h = ap (digits_behind value) (sym (drop_of_length-le s h)) ∙ r.same
