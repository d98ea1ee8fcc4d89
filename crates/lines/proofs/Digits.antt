-- A number's digits: the last, and those before it; how many there are at most. Assumes nothing.
use mathlib.Core.Path.{◌≡◌, refl, sym, ◌∙◌, ap}
use mathlib.Core.Bool.{Bool, true, false, cond}
use mathlib.Core.List.{List, [], ◌∷◌, ◌++◌}
use Prim.Native.Nat.{ℕ, zero, suc, ◌+◌, ◌/◌, ◌%◌, ◌^◌, ◌≤◌, ◌<◌}
use native.Mathlib.Nat.{mod-eq_of_lt, pow-succ'}
use native.Mathlib.Omega.{arith}
use borrow.Author.Tests.{lt-ltb, le-ltb}
use lib.Dec.{ltb}
use lib.ListN.{length, length-append}
use Rattle.rules.specs.Program.{digits_to, decimal, numbers}

-- the last digit behind those before it, if any
abbrev with-last : ℕ → Bool → List ℕ → List ℕ
with-last n one l = cond one [] l ++ ((48 + n % 10) ∷ [])

tenth : (k n : ℕ) → n < 10 ^ suc (suc k) → n / 10 < 10 ^ suc k
tenth k n h = let e = pow-succ' 10 (suc k) in omega arith

-- a number of k + 1 digits has none more
digits-all : (k n : ℕ) → n < 10 ^ suc k → digits_to (suc (suc k)) n ≡ digits_to (suc k) n
digits-all zero n h = rw (lt-ltb n 10 h)
digits-all (suc k) n h = ap (with-last n (ltb n 10)) (digits-all k (n / 10) (tenth k n h))

-- one digit
pub decimal-one : (n : ℕ) → n < 10 → decimal n ≡ (48 + n) ∷ []
unfolding decimal
decimal-one n h = ap (λ (b : Bool). with-last n b (digits_to 19 (n / 10))) (lt-ltb n 10 h) ∙ ap (λ (k : ℕ). (48 + k) ∷ []) (mod-eq_of_lt h)

-- more digits
pub decimal-more : (n : ℕ) → 10 ≤ n → n < 10 ^ 20 → decimal n ≡ decimal (n / 10) ++ ((48 + n % 10) ∷ [])
unfolding decimal
decimal-more n h l =
    ap (λ (b : Bool). with-last n b (digits_to 19 (n / 10))) (le-ltb n 10 h)
    ∙ ap (with-last n false) (sym (digits-all 18 (n / 10) (tenth 18 n l)))

-- and how many they are
pub decimal-length-one : (n : ℕ) → n < 10 → length (decimal n) ≡ 1
decimal-length-one n h = ap length (decimal-one n h)

pub decimal-length-more : (n : ℕ) → 10 ≤ n → n < 10 ^ 20 → length (decimal n) ≡ length (decimal (n / 10)) + 1
decimal-length-more n h l = ap length (decimal-more n h l) ∙ length-append (decimal (n / 10)) ((48 + n % 10) ∷ [])

length_last : (n : ℕ) (b : Bool) (l : List ℕ) (m : ℕ) → length l ≤ m → length (with-last n b l) ≤ suc m
length_last n true l m h = omega arith
length_last n false l m h = rw (length-append l ((48 + n % 10) ∷ [])) (omega arith)

-- at most as many digits as asked for
digits-asked : (k n : ℕ) → length (digits_to k n) ≤ k
digits-asked zero n = omega arith
digits-asked (suc k) n = length_last n (ltb n 10) (digits_to k (n / 10)) k (digits-asked k (n / 10))

pub decimal-most : (n : ℕ) → length (decimal n) ≤ 20
unfolding decimal
decimal-most n = digits-asked 20 n

-- and as many as the number has
digits_of : (k m n : ℕ) → n < 10 ^ suc m → length (digits_to k n) ≤ suc m
digits_of zero m n h = omega arith
digits_of (suc k) zero n h = rw (lt-ltb n 10 h) (omega arith)
digits_of (suc k) (suc m) n h = length_last n (ltb n 10) (digits_to k (n / 10)) (suc m) (digits_of k m (n / 10) (tenth m n h))

pub decimal-byte : (n : ℕ) → n < 256 → length (decimal n) ≤ 3
unfolding decimal
decimal-byte n h = digits_of 20 2 n (omega arith)

pub decimal-two-bytes : (n : ℕ) → n < 65536 → length (decimal n) ≤ 5
unfolding decimal
decimal-two-bytes n h = digits_of 20 4 n (omega arith)

-- numbers, each behind a space
pub numbers-none : numbers [] ≡ 10 ∷ []
unfolding numbers
numbers-none = refl

pub numbers_more : (n : ℕ) (ns : List ℕ) → numbers (n ∷ ns) ≡ (32 ∷ decimal n) ++ numbers ns
unfolding numbers decimal
numbers_more n ns = refl
