-- The length of a padded field's value, by its bytes from the front or from the back; and that padding changes no value. Assumes nothing.
use mathlib.Core.Path.{◌≡◌, refl, sym, ◌∙◌, ap, ap₂}
use mathlib.Core.Bool.{Bool, true, false, ◌&&◌, cond, and-true, and-false}
use mathlib.Core.List.{List, [], ◌∷◌, ◌++◌, append-nil}
use Prim.Native.Nat.{ℕ, zero, suc, ◌+◌, ◌-◌, ◌≤◌, ◌<◌}
use native.Mathlib.Nat.{le_of_eq}
use native.Mathlib.Numerals.{add-one}
use native.Mathlib.Omega.{arith}
use borrow.Author.Tests.{eq-eqb}
use lib.Dec.{eqb}
use lib.ListN.{length, get_or, take, replicate, length-append, length-replicate}
use lib.Seq.{take-suc, take_all, take-length, take-append-le, length-take-le, take-take}
use Rattle.fields.specs.Text.{blank, value_length, unpadded, padded}
use Rattle.fields.proofs.Zeros.{blank-append}

blank-snoc : (s : List ℕ) (c : ℕ) → blank (s ++ (c ∷ [])) ≡ (blank s && eqb c 0)
blank-snoc s c = blank-append s (c ∷ []) ∙ ap (◌&&◌ (blank s)) (and-true (eqb c 0))

step : (z x b : Bool) (v w n : ℕ) → w ≡ cond z v (suc n) → cond (x && (b && z)) 0 (suc w) ≡ cond z (cond (x && b) 0 (suc v)) (suc (suc n))
step true x b v w n e = simp (and-true, e)
step false x b v w n e = simp (and-false, e)

length-snoc : (s : List ℕ) (c : ℕ) → value_length (s ++ (c ∷ [])) ≡ cond (eqb c 0) (value_length s) (suc (length s))
length-snoc [] c = ap (λ (b : Bool). cond b 0 1) (and-true (eqb c 0))
length-snoc (x ∷ s) c =
    ap (λ (b : Bool). cond (eqb x 0 && b) 0 (suc (value_length (s ++ (c ∷ []))))) (blank-snoc s c)
    ∙ step (eqb c 0) (eqb x 0) (blank s) (value_length s) (value_length (s ++ (c ∷ []))) (length s) (length-snoc s c)

-- one byte more
length_more : (s : List ℕ) (i : ℕ) → i < length s
    → value_length (take (i + 1) s) ≡ cond (eqb (get_or s i 0) 0) (value_length (take i s)) (i + 1)
length_more s i h =
    ap value_length (ap (λ (k : ℕ). take k s) (add-one i) ∙ take-suc s i 0 h)
    ∙ length-snoc (take i s) (get_or s i 0)
    ∙ ap (λ (k : ℕ). cond (eqb (get_or s i 0) 0) (value_length (take i s)) k) (ap suc (length-take-le i s (omega arith)) ∙ sym (add-one i))

-- the last of n bytes
pub length_back : (s : List ℕ) (n : ℕ) → 0 < n → n ≤ length s
    → value_length (take n s) ≡ cond (eqb (get_or s (n - 1) 0) 0) (value_length (take (n - 1) s)) n
length_back s n p h =
    let n-is : n - 1 + 1 ≡ n = omega arith in
    ap (λ (k : ℕ). value_length (take k s)) (sym n-is)
    ∙ length_more s (n - 1) (omega arith)
    ∙ ap (cond (eqb (get_or s (n - 1) 0) 0) (value_length (take (n - 1) s))) n-is

-- a field whose last byte is not zero is its value
pub unpadded-whole : (s : List ℕ) (i : ℕ) → i + 1 ≡ length s → eqb (get_or s i 0) 0 ≡ false → unpadded s ≡ s
unpadded-whole s i e h = take_all (value_length s) s (le_of_eq (sym long))
  where
    long : value_length s ≡ length s
    long =
        ap value_length (sym (ap (λ (k : ℕ). take k s) e ∙ take-length s))
        ∙ length_more s i (omega arith)
        ∙ ap (λ (b : Bool). cond b (value_length (take i s)) (i + 1)) h
        ∙ e

length-value : (s : List ℕ) → value_length s ≤ length s
length-value [] = omega arith
length-value (x ∷ s) = go (eqb x 0 && blank s) (length-value s)
  where
    go : (b : Bool) → value_length s ≤ length s → cond b 0 (suc (value_length s)) ≤ suc (length s)
    go true h = omega arith
    go false h = omega arith

-- a field whose last byte is zero has the value of the field before it
pub unpadded-back : (s : List ℕ) → 0 < length s → get_or s (length s - 1) 0 ≡ 0 → unpadded s ≡ unpadded (take (length s - 1) s)
unpadded-back s p e =
    let n = length s - 1 in
    let as_long : value_length s ≡ value_length (take n s) =
    ap value_length (sym (take-length s))
    ∙ length_back s (length s) p (le_of_eq refl)
    ∙ ap (λ (b : Bool). cond b (value_length (take n s)) (length s)) (eq-eqb (get_or s n 0) 0 e) in
    ap (λ (k : ℕ). take k s) as_long
    ∙ sym (take-take (value_length (take n s)) n s (omega (arith, length-value (take n s), length-take-le n s (omega arith))))

-- zero bytes behind a field
blank-zeros : (n : ℕ) → blank (replicate n 0) ≡ true
blank-zeros zero = refl
blank-zeros (suc n) = blank-zeros n

blank-behind : (s : List ℕ) (n : ℕ) → blank (s ++ replicate n 0) ≡ blank s
blank-behind s n = blank-append s (replicate n 0) ∙ ap (◌&&◌ (blank s)) (blank-zeros n) ∙ and-true (blank s)

length-behind : (s : List ℕ) (n : ℕ) → value_length (s ++ replicate n 0) ≡ value_length s
length-behind [] zero = refl
length-behind [] (suc n) = rw (blank-zeros n)
length-behind (x ∷ s) n = ap₂ (λ (b : Bool) (k : ℕ). cond (eqb x 0 && b) 0 (suc k)) (blank-behind s n) (length-behind s n)

-- what is padded has the value that it had
pub unpadded-padded : (w : ℕ) (s : List ℕ) → unpadded (padded w s) ≡ unpadded s
unpadded-padded w s =
    let zeros : List ℕ = replicate (w - length s) 0 in
    ap (λ (k : ℕ). take k (s ++ zeros)) (length-behind s (w - length s)) ∙ take-append-le (value_length s) s zeros (length-value s)

pub length-padded : (w : ℕ) (s : List ℕ) → length s ≤ w → length (padded w s) ≡ w
length-padded w s h = omega (arith, length-append s (replicate (w - length s) 0), length-replicate {A = ℕ} (w - length s) 0)

pub padded-full : (w : ℕ) (s : List ℕ) → length s ≡ w → padded w s ≡ s
padded-full w s h = let none : w - length s ≡ 0 = omega arith in ap (λ (n : ℕ). s ++ replicate n 0) none ∙ append-nil s
