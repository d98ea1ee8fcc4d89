-- Runs of stores in a list, and parts of a list. Assumes nothing.
use mathlib.Core.Path.{◌≡◌, refl, sym, ◌∙◌, ap}
use mathlib.Core.List.{List, [], ◌∷◌, ◌++◌, append_assoc}
use Prim.Native.Nat.{ℕ, zero, suc, ◌+◌, ◌-◌, ◌≤◌, ◌<◌}
use native.Mathlib.Nat.{add-zero, zero-add, add-suc, suc-add, add_assoc}
use native.Mathlib.Numerals.{add-one}
use native.Mathlib.Omega.{arith}
use lib.ListN.{length, get_or, set, take, drop, length-drop, length-append}
use lib.Seq.{
  set_at,
  append_snoc,
  take-suc,
  sets,
  sets-eq,
  take_at,
  drop_at,
  take-nil,
  take-take,
  take-add,
  drop-drop,
  drop-cons,
  length-take-le,
}
use Rattle.fields.specs.Number.{part}
use Rattle.fields.proofs.FromFront.{left-from}

pub sets-append : (l : List ℕ) (i : ℕ) (a b : List ℕ) → sets l i (a ++ b) ≡ sets (sets l i a) (i + length a) b
sets-append l i [] b = ap (λ (k : ℕ). sets l k b) (sym (add-zero i))
sets-append l i (x ∷ a) b =
    sets-append (set l i x) (suc i) a b
    ∙ ap (λ (k : ℕ). sets (sets (set l i x) (suc i) a) k b) (suc-add i (length a) ∙ sym (add-suc i (length a)))

-- v bytes and w behind them
pub part_join : (v w at : ℕ) (s : List ℕ) → part (v + w) at s ≡ part v at s ++ part w (at + v) s
part_join v w at s = take-add v w (drop at s) ∙ ap (λ (t : List ℕ). take v (drop at s) ++ take w t) (drop-drop v at s)

pub length_part : (w at : ℕ) (s : List ℕ) → at + w ≤ length s → length (part w at s) ≡ w
length_part w at s h = length-take-le w (drop at s) (rw length-drop (omega arith))

pub part-one : (at : ℕ) (s : List ℕ) → at < length s → part 1 at s ≡ get_or s at 0 ∷ []
part-one at s h = ap (take 1) (drop-cons s at 0 h)

-- a run of stores within the list: what stands before it, what it wrote, and what stands after it
module _ (vs l : List ℕ) (i : ℕ) (h : i + length vs ≤ length l) where
  front : length (take i l) ≡ i
  front = length-take-le i l (omega arith)

  sets-before : take i (sets l i vs) ≡ take i l
  sets-before = ap (take i) (sets-eq vs l i h ∙ append_assoc (take i l) vs (drop (i + length vs) l))
      ∙ take_at (take i l) (vs ++ drop (i + length vs) l) i front

  sets-after : drop (i + length vs) (sets l i vs) ≡ drop (i + length vs) l
  sets-after =
      ap (drop (i + length vs)) (sets-eq vs l i h)
      ∙ drop_at (take i l ++ vs) (drop (i + length vs) l) (i + length vs)
      (length-append (take i l) vs ∙ ap (λ (k : ℕ). k + length vs) front)

  pub sets-part : part (length vs) i (sets l i vs) ≡ vs
  sets-part =
      ap (part (length vs) i) (sets-eq vs l i h ∙ append_assoc (take i l) vs (drop (i + length vs) l))
      ∙ ap (take (length vs)) (drop_at (take i l) (vs ++ drop (i + length vs) l) i front)
      ∙ take_at vs (drop (i + length vs) l) (length vs) refl

-- a part of a part
drop-take : (m n : ℕ) (s : List ℕ) → drop m (take (m + n) s) ≡ take n (drop m s)
drop-take zero n s = ap (λ (k : ℕ). take k s) (zero-add n)
drop-take (suc m) n [] = ap (drop (suc m)) (take-nil (suc m + n)) ∙ sym (take-nil n)
drop-take (suc m) n (x ∷ s) = ap (λ (k : ℕ). drop (suc m) (take k (x ∷ s))) (suc-add m n) ∙ drop-take m n s

pub part-part : (v a w at r : ℕ) (s : List ℕ) → a + v + r ≡ w → part v a (part w at s) ≡ part v (at + a) s
part-part v a w at r s e =
    ap (λ (k : ℕ). take v (drop a (take k (drop at s)))) (sym e ∙ add_assoc a v r)
    ∙ ap (take v) (drop-take a (v + r) (drop at s))
    ∙ take-take v (v + r) (drop a (drop at s)) (omega arith)
    ∙ ap (take v) (drop-drop a at s)

-- a part of the front, or of what is left
part-front : (v a k : ℕ) (s : List ℕ) → a + v ≤ k → part v a (take k s) ≡ part v a s
part-front v a k s h = part-part v a k 0 (k - (a + v)) s (omega arith) ∙ ap (λ (m : ℕ). part v m s) (zero-add a)

part-back : (v a k : ℕ) (s : List ℕ) → k ≤ a → part v (a - k) (drop k s) ≡ part v a s
part-back v a k s h =
    let whole : k + (a - k) ≡ a = omega arith in
    ap (take v) (drop-drop (a - k) k s) ∙ ap (λ (m : ℕ). part v m s) whole

-- a run of stores leaves the parts before it and after it
module _ (vs l : List ℕ) (i : ℕ) (h : i + length vs ≤ length l) (v a : ℕ) where
  pub part-before : a + v ≤ i → part v a (sets l i vs) ≡ part v a l
  part-before k =
      sym (part-front v a i (sets l i vs) k) ∙ ap (part v a) (sets-before vs l i h) ∙ part-front v a i l k

  pub part-after : i + length vs ≤ a → part v a (sets l i vs) ≡ part v a l
  part-after k =
      sym (part-back v a (i + length vs) (sets l i vs) k)
      ∙ ap (part v (a - (i + length vs))) (sets-after vs l i h)
      ∙ part-back v a (i + length vs) l k

-- filling a list from the front with another's elements
pub filled_more : (s d : List ℕ) (i : ℕ) → i < length s → i < length d
    → set (take i s ++ drop i d) i (get_or s i 0) ≡ take (i + 1) s ++ drop (i + 1) d
filled_more s d i h k =
    ap (λ (t : List ℕ). set (take i s ++ t) i (get_or s i 0)) (left-from d i k)
    ∙ set_at (take i s) (get_or d i 0) (drop (i + 1) d) (get_or s i 0) i (length-take-le i s (omega arith))
    ∙ sym (append_snoc (take i s) (get_or s i 0) (drop (i + 1) d))
    ∙ ap (λ (t : List ℕ). t ++ drop (i + 1) d) (sym (ap (λ (m : ℕ). take m s) (add-one i) ∙ take-suc s i 0 h))
