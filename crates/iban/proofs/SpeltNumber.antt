-- Digits one after the other, the number that they read as, and one written behind another. Assumes nothing.
use mathlib.Core.Path.{◌≡◌, refl, sym, ◌∙◌, ap}
use mathlib.Core.Bool.{cond}
use mathlib.Core.List.{List, [], ◌∷◌, ◌++◌, append_assoc}
use Prim.Native.Nat.{ℕ, ◌+◌, ◌*◌, ◌/◌, ◌%◌, ◌^◌, ◌≤◌, ◌<◌}
use native.Mathlib.Nat.{add_assoc, add-mul, mul_assoc, zero-mul, zero-add}
use borrow.Author.Tests.{lt-ltb, le-ltb}
use lib.Dec.{ltb}
use lib.Pow.{pow-add}
use lib.ListN.{length, length-append}
use Rattle.iban.specs.Iban.{digits_of, digits, read_decimal}

pub digits_append : (s t : List ℕ) → digits (s ++ t) ≡ digits s ++ digits t
digits_append [] t = refl
digits_append (c ∷ s) t = ap (λ (ds : List ℕ). digits_of c ++ ds) (digits_append s t) ∙ sym (append_assoc (digits_of c) (digits s) (digits t))

pub read_decimal-append : (a b : List ℕ) → read_decimal (a ++ b) ≡ read_decimal a * 10 ^ length b + read_decimal b
read_decimal-append [] b = sym (ap (λ (n : ℕ). n + read_decimal b) (zero-mul (10 ^ length b)) ∙ zero-add (read_decimal b))
read_decimal-append (d ∷ a) b = simp (read_decimal-append a b, length-append a b, pow-add, add-mul, mul_assoc, add_assoc)

-- the number n with the digits ds written behind it
abbrev pub then : ℕ → List ℕ → ℕ
then n ds = n * 10 ^ length ds + read_decimal ds

pub then_append : (n : ℕ) (a b : List ℕ) → then n (a ++ b) ≡ then (then n a) b
then_append n a b = simp (read_decimal-append, length-append, pow-add, add-mul, mul_assoc, add_assoc)

-- a value of one digit, and of two
pub one-digit : (v : ℕ) → v < 10 → cond (ltb v 10) (v ∷ []) (v / 10 ∷ v % 10 ∷ []) ≡ v ∷ []
one-digit v h = rw (lt-ltb v 10 h)

pub two_digits : (v : ℕ) → 10 ≤ v → cond (ltb v 10) (v ∷ []) (v / 10 ∷ v % 10 ∷ []) ≡ v / 10 ∷ v % 10 ∷ []
two_digits v h = rw (le-ltb v 10 h)
