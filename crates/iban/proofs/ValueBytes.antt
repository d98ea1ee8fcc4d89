-- The bytes of a padded field and those of its value: parts of the value are parts of the field, a byte that is no zero byte stands in the
-- value, and where all in it are of a class the value ends at the first zero byte. Assumes nothing.
use mathlib.Core.Path.{◌≡◌, refl, sym, ◌∙◌, ap}
use mathlib.Core.Bool.{Bool, true, false, and-false}
use mathlib.Core.List.{List, [], ◌∷◌}
use Prim.Native.Nat.{ℕ, zero, suc, ◌+◌, ◌-◌, ◌≤◌, ◌<◌}
use native.Mathlib.Nat.{zero-add}
use native.Mathlib.Omega.{arith}
use borrow.Author.Tests.{eqb-false, ltb-true, ltb-false}
use lib.Dec.{ltb, eqb}
use lib.ListN.{length, get_or, drop, length-take, length-drop}
use lib.Seq.{get_or-take, take_all}
use Rattle.fields.specs.Number.{part}
use Rattle.fields.specs.Text.{blank, value_length, unpadded}
use Rattle.fields.proofs.Stores.{part-part}
use Rattle.fields.proofs.Tests.{never}
use Rattle.classes.specs.Class.{is_in, all_in}
use Rattle.classes.specs.declared.Class.{Class}
use Rattle.classes.proofs.All.{in-at, none-zero}
use Rattle.classes.proofs.Unpadding.{value-short, used-first}

-- bytes and parts of the value
value-byte : (s : List ℕ) (i : ℕ) → i < length (unpadded s) → get_or (unpadded s) i 0 ≡ get_or s i 0
value-byte s i h = get_or-take (value_length s) s i 0 (omega (arith, length-take (value_length s) s))

pub value-part : (s : List ℕ) (k at : ℕ) → at + k ≤ length (unpadded s) → part k at (unpadded s) ≡ part k at s
value-part s k at h =
    let n = value_length s in
    part-part k at n 0 (n - (at + k)) s (omega (arith, length-take n s)) ∙ ap (λ (i : ℕ). part k i s) (zero-add at)

pub value-rest : (s : List ℕ) (k : ℕ) → k ≤ length (unpadded s) → drop k (unpadded s) ≡ part (length (unpadded s) - k) k s
value-rest s k h =
    let n = length (unpadded s) in
    sym (take_all (n - k) (drop k (unpadded s)) (omega (arith, length-drop k (unpadded s)))) ∙ value-part s (n - k) k (omega arith)

pub value_in : (class : Class) (s : List ℕ) → all_in class (unpadded s) ≡ true → (i : ℕ) → i < length (unpadded s)
    → is_in class (get_or s i 0) ≡ true
value_in class s all i h = sym (ap (is_in class) (value-byte s i h)) ∙ in-at class (unpadded s) i all h

-- a byte that is no zero byte stands in it
pub used-within : (s : List ℕ) (i : ℕ) → eqb (get_or s i 0) 0 ≡ false → i < length (unpadded s)
used-within [] i e = never e
used-within (c ∷ s) zero e = used-first (c ∷ s) e
used-within (c ∷ s) (suc i) e = go (blank s) refl (used-within s i e)
  where
    go : (b : Bool) → blank s ≡ b → i < length (unpadded s) → suc i < length (unpadded (c ∷ s))
    go true h l = absurd (omega (arith, value-short 0 s h))
    go false h l = simp (h, and-false) (omega arith)

-- and a zero byte is its end
pub value-stops : (class : Class) (s : List ℕ) → all_in class (unpadded s) ≡ true → (i : ℕ) → i ≤ length (unpadded s) → get_or s i 0 ≡ 0
    → i ≡ length (unpadded s)
value-stops class s all i h z = go (ltb i (length (unpadded s))) refl
  where
    go : (b : Bool) → ltb i (length (unpadded s)) ≡ b → i ≡ length (unpadded s)
    go true l =
        let inside = ltb-true i (length (unpadded s)) l in
        absurd (eqb-false (get_or (unpadded s) i 0) 0 (none-zero class (unpadded s) i all inside) (value-byte s i inside ∙ z))
    go false l = let past = ltb-false i (length (unpadded s)) l in omega arith
