-- What is known of the bytes before the padding, by each byte and the one behind it. Assumes nothing.
use mathlib.Core.Path.{◌≡◌, refl, sym, ◌∙◌, ap}
use mathlib.Core.Bool.{Bool, true, false, ◌&&◌, cond, and-true, and-false, or-true, or-false}
use mathlib.Core.List.{List, [], ◌∷◌}
use Prim.Native.Nat.{ℕ, zero, suc, ◌+◌, ◌≤◌, ◌<◌}
use native.Mathlib.Nat.{add-zero}
use native.Mathlib.Omega.{arith}
use borrow.Author.Tests.{eqb-true}
use lib.Dec.{leb, eqb}
use lib.ListN.{length, get_or, take, drop, length-take, drop_of_length-le}
use lib.Seq.{get_or-drop}
use Rattle.fields.specs.Text.{blank, value_length, unpadded}
use Rattle.fields.proofs.FromFront.{left-from}
use Rattle.fields.proofs.Tests.{and_left}
use Rattle.classes.specs.Class.{is_in, all_in}
use Rattle.classes.specs.declared.Class.{Class}
use Rattle.classes.proofs.All.{no_zero}
use Rattle.classes.specs.PaddedBytes.{stands}

-- a byte that is not zero, or that has such a byte behind it, is no padding
unpadded-used : (c : ℕ) (s : List ℕ) → eqb c 0 ≡ false → unpadded (c ∷ s) ≡ c ∷ unpadded s
unpadded-used c s e = ap (λ (z : Bool). take (cond (z && blank s) 0 (suc (value_length s))) (c ∷ s)) e

unpadded-before : (c : ℕ) (s : List ℕ) → blank s ≡ false → unpadded (c ∷ s) ≡ c ∷ unpadded s
unpadded-before c s e =
    ap (λ (b : Bool). take (cond b 0 (suc (value_length s))) (c ∷ s)) (ap (λ (b : Bool). eqb c 0 && b) e ∙ and-false (eqb c 0))

unpadded-blank : (s : List ℕ) → blank s ≡ true → unpadded s ≡ []
unpadded-blank [] e = refl
unpadded-blank (c ∷ s) e = ap (λ (b : Bool). take (cond b 0 (suc (value_length s))) (c ∷ s)) e

zero-not-in : (class : Class) (c : ℕ) → eqb c 0 ≡ true → is_in class c ≡ false
zero-not-in class c e = ap (is_in class) (eqb-true c 0 e) ∙ no_zero class

pub blank-first : (s : List ℕ) → blank s ≡ true → eqb (get_or s 0 0) 0 ≡ true
blank-first [] e = refl
blank-first (c ∷ s) e = and_left (eqb c 0) (blank s) e

-- a zero byte in the value
pub zero-inside : (class : Class) (s : List ℕ) → blank s ≡ false → eqb (get_or s 0 0) 0 ≡ true → all_in class (unpadded s) ≡ false
zero-inside class [] e z = cc
zero-inside class (c ∷ s) e z =
    let more : blank s ≡ false = sym (ap (λ (b : Bool). b && blank s) z) ∙ e in
    ap (all_in class) (unpadded-before c s more) ∙ ap (λ (b : Bool). b && all_in class (unpadded s)) (zero-not-in class c z)

-- each byte of a field stands with the one behind it, the last with a zero
abbrev pub all_stand : Class → List ℕ → Bool
all_stand class [] = true
all_stand class (c ∷ s) = stands class c (get_or s 0 0) && all_stand class s

-- where all before the padding are of the class
pub all-stand : (class : Class) (s : List ℕ) → all_stand class s ≡ all_in class (unpadded s)
all-stand class [] = refl
all-stand class (c ∷ s) = go (all-stand class s) (eqb c 0) (blank s) refl refl
  where
    inside : blank s ≡ false → (b : Bool) → eqb (get_or s 0 0) 0 ≡ b → (b && all_in class (unpadded s)) ≡ false
    inside e true h = zero-inside class s e h
    inside e false h = refl

    go : all_stand class s ≡ all_in class (unpadded s) → (z b : Bool) → eqb c 0 ≡ z → blank s ≡ b
        → all_stand class (c ∷ s) ≡ all_in class (unpadded (c ∷ s))
    go rest false b z e = simp (z, or-false, rest)
    go rest true true z e = simp (z, e, blank-first s e, or-true, rest ∙ ap (all_in class) (unpadded-blank s e))
    go rest true false z e = simp (z, e, zero-not-in class c z, rest) (inside e (eqb (get_or s 0 0) 0) refl)

-- what is left from i on, and what the last byte leaves
pub stand-from : (class : Class) (s : List ℕ) (i : ℕ) → i < length s
    → all_stand class (drop i s) ≡ (stands class (get_or s i 0) (get_or s (i + 1) 0) && all_stand class (drop (i + 1) s))
stand-from class s i h =
    ap (all_stand class) (left-from s i h)
    ∙ ap (λ (n : ℕ). stands class (get_or s i 0) n && all_stand class (drop (i + 1) s))
    (get_or-drop (i + 1) s 0 0 ∙ ap (λ (k : ℕ). get_or s k 0) (add-zero (i + 1)))

pub stand-last : (class : Class) (s : List ℕ) (i : ℕ) → i + 1 ≡ length s → all_stand class (drop i s) ≡ stands class (get_or s i 0) 0
stand-last class s i e =
    ap (all_stand class) (left-from s i (omega arith) ∙ ap (λ (t : List ℕ). get_or s i 0 ∷ t) (drop_of_length-le s {i = i + 1} (omega arith)))
    ∙ and-true (stands class (get_or s i 0) 0)

-- the value of a field is no longer than the field
pub value-within : (s : List ℕ) → length (unpadded s) ≤ length s
value-within s = omega (arith, length-take (value_length s) s)

-- where all from the k-th on are zero, it is at most k long
pub value-short : (k : ℕ) (s : List ℕ) → blank (drop k s) ≡ true → length (unpadded s) ≤ k
value-short k s e = omega (arith, length-take (value_length s) s, go k s e)
  where
    step : (b : Bool) (n k : ℕ) → n ≤ k → cond b 0 (suc n) ≤ suc k
    step true n k h = omega arith
    step false n k h = omega arith

    go : (k : ℕ) (s : List ℕ) → blank (drop k s) ≡ true → value_length s ≤ k
    go k [] e = omega arith
    go zero (c ∷ s) e = rw e (omega arith)
    go (suc k) (c ∷ s) e = step (eqb c 0 && blank s) (value_length s) k (go k s e)

-- where the first byte is zero, nothing stands before the padding, or a byte that is of no class
pub zero-first : (class : Class) (s : List ℕ) → eqb (get_or s 0 0) 0 ≡ true
    → (leb 1 (length (unpadded s)) && all_in class (unpadded s)) ≡ false
zero-first class s z = go (blank s) refl
  where
    go : (b : Bool) → blank s ≡ b → (leb 1 (length (unpadded s)) && all_in class (unpadded s)) ≡ false
    go true e = ap (λ (u : List ℕ). leb 1 (length u) && all_in class u) (unpadded-blank s e)
    go false e = ap (λ (b : Bool). leb 1 (length (unpadded s)) && b) (zero-inside class s e z) ∙ and-false (leb 1 (length (unpadded s)))

-- so it tells whether there is one
pub used-first : (s : List ℕ) → eqb (get_or s 0 0) 0 ≡ false → 1 ≤ length (unpadded s)
used-first [] z = let absurdity : ◌≡◌ {A = ℕ} 0 1 = cc in absurd (omega arith)
used-first (c ∷ s) z = omega (arith, ap length (unpadded-used c s z))
