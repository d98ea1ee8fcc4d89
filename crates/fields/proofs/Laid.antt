-- Values of one width, each as its bytes, laid down one after the other from a list's start. Assumes nothing.
use mathlib.Core.Path.{◌≡◌, sym, ◌∙◌, ap, ap₂, subst}
use mathlib.Core.List.{List, [], ◌∷◌, ◌++◌, map, append-nil, append_assoc}
use Prim.Native.Nat.{ℕ, ◌+◌, ◌*◌, ◌≤◌, ◌<◌}
use native.Mathlib.Nat.{zero-add, mul-zero, mul-suc}
use native.Mathlib.Omega.{arith}
use lib.ListN.{length, get_or, drop, length-append, length-drop, length-map}
use lib.Seq.{sets, sets-eq}
use Rattle.fields.specs.Text.{joined}
use Rattle.fields.proofs.Stores.{sets-append}
use Rattle.fields.proofs.Holding.{HoldsAt, held_first, held_in, held_at, mapped-row, joined-row}

-- a run of stores from the start
sets_first : (bs s : List ℕ) → length bs ≤ length s → sets s 0 bs ≡ bs ++ drop (length bs) s
sets_first bs s h = sets-eq bs s 0 (omega arith) ∙ ap (λ (k : ℕ). bs ++ drop k s) (zero-add (length bs))

-- and one behind it
pub sets_behind : (bs vs s : List ℕ) (k m : ℕ) → length bs ≡ k → length (bs ++ vs) ≡ m → m ≤ length s
    → sets (bs ++ drop k s) k vs ≡ (bs ++ vs) ++ drop m s
sets_behind bs vs s k m e f h =
    ap₂ (λ (l : List ℕ) (n : ℕ). sets l n vs)
    (ap (λ (n : ℕ). bs ++ drop n s) (sym e) ∙ sym (sets_first bs s (let a = length-append bs vs in omega arith)))
    (sym e ∙ sym (zero-add (length bs)))
    ∙ sym (sets-append s 0 bs vs)
    ∙ sets_first (bs ++ vs) s (rw f h)
    ∙ ap (λ (n : ℕ). (bs ++ vs) ++ drop n s) f

module _ {A : Type 0} (w : ℕ) (bytes : A → List ℕ) (width : (a : A) → length (bytes a) ≡ w) where
  pub laid-length : (l : List A) → length (joined (map bytes l)) ≡ w * length l
  laid-length [] = sym (mul-zero w)
  laid-length (a ∷ l) =
      length-append (bytes a) (joined (map bytes l))
      ∙ (let one = width a in let rest = laid-length l in let m = mul-suc w (length l) in omega arith)

  rows_more : (l : List A) (a : A) → joined (map bytes (l ++ (a ∷ []))) ≡ joined (map bytes l) ++ bytes a
  rows_more [] a = append-nil (bytes a)
  rows_more (x ∷ l) a = ap (λ (t : List ℕ). bytes x ++ t) (rows_more l a) ∙ sym (append_assoc (bytes x) (joined (map bytes l)) (bytes a))

  -- laying down keeps the list's length
  pub length-rows-laid : (l : List A) (s : List ℕ) → w * length l ≤ length s
      → length (joined (map bytes l) ++ drop (w * length l) s) ≡ length s
  length-rows-laid l s h = simp (length-append, length-drop, laid-length) (omega arith)

  -- one value more
  pub rows-laid-more : (l : List A) (s : List ℕ) (a : A) → w * length l + w ≤ length s
      → sets (joined (map bytes l) ++ drop (w * length l) s) (w * length l) (bytes a)
      ≡ joined (map bytes (l ++ (a ∷ []))) ++ drop (w * length (l ++ (a ∷ []))) s
  rows-laid-more l s a h =
      sets_behind (joined (map bytes l)) (bytes a) s (w * length l) (w * length (l ++ (a ∷ []))) (laid-length l)
      (ap length (sym (rows_more l a)) ∙ laid-length (l ++ (a ∷ []))) room
      ∙ ap (λ (t : List ℕ). t ++ drop (w * length (l ++ (a ∷ []))) s) (sym (rows_more l a))
    where
      room : w * length (l ++ (a ∷ [])) ≤ length s
      room = rw (length-append l (a ∷ [])) (let m = mul-suc w (length l) in omega arith)

  -- value i stands at w * i
  pub row-held : (l : List A) (t : List ℕ) (i : ℕ) (d : A) → i < length l → HoldsAt (joined (map bytes l) ++ t) (w * i) (bytes (get_or l i d))
  row-held l t i d h =
      subst (HoldsAt (joined (map bytes l) ++ t) (w * i)) (mapped-row bytes l i d h)
      (held_at (held_in (held_first (joined (map bytes l)) t) (joined-row w (map bytes l) i (rw (length-map l bytes) h) wide))
      (zero-add (w * i)))
    where
      wide : (j : ℕ) → j < length (map bytes l) → length (get_or (map bytes l) j []) ≡ w
      wide j k = ap length (mapped-row bytes l j d (rw (length-map l bytes) at k)) ∙ width (get_or l j d)
