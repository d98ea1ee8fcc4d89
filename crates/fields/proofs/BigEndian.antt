-- Big-endian numbers: in two parts, and read back. Assumes nothing.
use mathlib.Core.Path.{◌≡◌, refl, sym, ◌∙◌, ap, ap₂}
use mathlib.Core.List.{List, [], ◌∷◌, ◌++◌}
use Prim.Native.Nat.{ℕ, zero, suc, ◌+◌, ◌*◌, ◌/◌, ◌%◌, ◌^◌, ◌≤◌, ◌<◌}
use native.Mathlib.Nat.{
  zero-add,
  suc-add,
  add-mul,
  mul_assoc,
  mul_comm,
  add_assoc,
  zero-mul,
  one-mul,
  mul-pos,
  pow-succ',
  div-div-eq-div-mul,
  mod-mod_of_dvd,
  dvd-mul_left,
  mod-lt,
  mod-one,
  mod-eq_of_lt,
}
use native.Mathlib.Omega.{arith}
use lib.Arith.{mod-mul, digits_div}
use lib.Dec.{lit<}
use lib.Pow.{pow-add}
use lib.ListN.{length, get_or, length-append}
use lib.Seq.{sets}
use Rattle.fields.specs.Number.{part, number, number_at, bytes_of}
use Rattle.fields.proofs.Stores.{sets-append, part_join, part-one, length_part}

number_append : (a b : List ℕ) → number (a ++ b) ≡ number a * 256 ^ length b + number b
number_append [] b = simp (zero-mul, zero-add)
number_append (x ∷ a) b = simp (number_append a b, length-append a b, pow-add, add-mul, mul_assoc, add_assoc)

-- v bytes and w behind them are two numbers
pub number_at-join : (v w at : ℕ) (s : List ℕ) → at + v + w ≤ length s
    → number_at (v + w) at s ≡ number_at v at s * 256 ^ w + number_at w (at + v) s
number_at-join v w at s h =
    ap number (part_join v w at s)
    ∙ number_append (part v at s) (part w (at + v) s)
    ∙ ap (λ (k : ℕ). number_at v at s * 256 ^ k + number_at w (at + v) s) (length_part w (at + v) s h)

number_at-one : (at : ℕ) (s : List ℕ) → at < length s → number_at 1 at s ≡ get_or s at 0
number_at-one at s h = ap number (part-one at s h) ∙ omega arith

pub pos : (w : ℕ) → 0 < 256 ^ w
pos zero = lit< tt
pos (suc w) = rw pow-succ' (mul-pos (lit< tt) (pos w))

pub length-bytes_of : (w n : ℕ) → length (bytes_of w n) ≡ w
length-bytes_of zero n = refl
length-bytes_of (suc w) n = ap suc (length-bytes_of w n)

-- a number's bytes are those of its upper part and those of its lower part
bytes_of-append : (v w n : ℕ) → bytes_of (v + w) n ≡ bytes_of v (n / 256 ^ w) ++ bytes_of w n
bytes_of-append zero w n = ap (λ (k : ℕ). bytes_of k n) (zero-add w)
bytes_of-append (suc v) w n =
    ap (λ (k : ℕ). bytes_of k n) (suc-add v w)
    ∙ ap₂ ◌∷◌
    (ap (λ (k : ℕ). k % 256)
    (ap (λ (k : ℕ). n / k) (pow-add 256 v w ∙ mul_comm (256 ^ v) (256 ^ w)) ∙ sym (div-div-eq-div-mul n (256 ^ w) (256 ^ v))))
    (bytes_of-append v w n)

bytes_of_mod : (w m n : ℕ) → 0 < m → bytes_of w (n % (m * 256 ^ w)) ≡ bytes_of w n
bytes_of_mod zero m n h = refl
bytes_of_mod (suc w) m n h =
    ap (λ (k : ℕ). bytes_of (suc w) (n % k)) (ap (λ (k : ℕ). m * k) (pow-succ' 256 w) ∙ sym (mul_assoc m 256 (256 ^ w)))
    ∙ ap₂ ◌∷◌
    (ap (λ (k : ℕ). k / 256 ^ w % 256) (mod-mul n (mul-pos h (lit< tt)) (pos w))
    ∙ ap (λ (k : ℕ). k % 256) (digits_div (n / 256 ^ w % (m * 256)) (mod-lt n (pos w)))
    ∙ mod-mod_of_dvd 256 (n / 256 ^ w) (dvd-mul_left 256 m))
    (bytes_of_mod w (m * 256) n (mul-pos h (lit< tt)))

bytes_of-join : (v w n : ℕ) → bytes_of (v + w) n ≡ bytes_of v (n / 256 ^ w) ++ bytes_of w (n % 256 ^ w)
bytes_of-join v w n =
    bytes_of-append v w n
    ∙ ap (λ (t : List ℕ). bytes_of v (n / 256 ^ w) ++ t)
    (sym (ap (λ (k : ℕ). bytes_of w (n % k)) (sym (one-mul (256 ^ w))) ∙ bytes_of_mod w 1 n (lit< tt)))

number-bytes_of : (w n : ℕ) → number (bytes_of w n) ≡ n % 256 ^ w
number-bytes_of zero n = sym (mod-one n)
number-bytes_of (suc w) n =
    ap₂ (λ (k m : ℕ). n / 256 ^ w % 256 * 256 ^ k + m) (length-bytes_of w n) (number-bytes_of w n)
    ∙ sym (ap (λ (k : ℕ). n % k) (pow-succ' 256 w) ∙ mod-mul n (lit< tt) (pos w))

-- what is written reads back
pub reads-back : (w n : ℕ) → n < 256 ^ w → number (bytes_of w n) ≡ n
reads-back w n h = number-bytes_of w n ∙ mod-eq_of_lt h

-- a number is written in two parts
pub put-join : (v w at n : ℕ) (s : List ℕ)
    → sets (sets s at (bytes_of v (n / 256 ^ w))) (at + v) (bytes_of w (n % 256 ^ w)) ≡ sets s at (bytes_of (v + w) n)
put-join v w at n s =
    ap (λ (k : ℕ). sets (sets s at (bytes_of v (n / 256 ^ w))) (at + k) (bytes_of w (n % 256 ^ w))) (sym (length-bytes_of v (n / 256 ^ w)))
    ∙ sym (sets-append s at (bytes_of v (n / 256 ^ w)) (bytes_of w (n % 256 ^ w)))
    ∙ ap (sets s at) (sym (bytes_of-join v w n))

pub number_at-two : (at : ℕ) (s : List ℕ) → at + 2 ≤ length s → number_at 2 at s ≡ get_or s at 0 * 256 + get_or s (at + 1) 0
number_at-two at s h =
    number_at-join 1 1 at s (omega arith)
    ∙ ap₂ (λ (a b : ℕ). a * 256 + b) (number_at-one at s (omega arith)) (number_at-one (at + 1) s (omega arith))

pub number_at-three : (at : ℕ) (s : List ℕ) → at + 3 ≤ length s
    → number_at 3 at s ≡ get_or s at 0 * 65536 + get_or s (at + 1) 0 * 256 + get_or s (at + 2) 0
number_at-three at s h =
    let parts = number_at-join 2 1 at s (omega arith) in
    let high = number_at-two at s (omega arith) in
    let low = number_at-one (at + 2) s (omega arith) in
    omega arith

pub number_at-four : (at : ℕ) (s : List ℕ) → at + 4 ≤ length s
    → number_at 4 at s ≡ get_or s at 0 * 16777216 + get_or s (at + 1) 0 * 65536 + get_or s (at + 2) 0 * 256 + get_or s (at + 3) 0
number_at-four at s h =
    let parts = number_at-join 3 1 at s (omega arith) in
    let high = number_at-three at s (omega arith) in
    let low = number_at-one (at + 3) s (omega arith) in
    omega arith
