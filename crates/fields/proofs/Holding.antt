-- A list holds another at a place: reading there gives it back. Rows of one width that follow each other lie at multiples of it.
-- Assumes nothing.
use mathlib.Core.Path.{◌≡◌, refl, sym, ◌∙◌, ap}
use mathlib.Core.List.{List, [], ◌∷◌, ◌++◌, map, append_assoc, append-nil}
use Prim.Native.Nat.{ℕ, zero, suc, ◌+◌, ◌*◌, ◌^◌, ◌<◌}
use native.Mathlib.Nat.{not-suc-le-zero, mul-suc, mul-zero}
use native.Mathlib.Omega.{arith}
use lib.ListN.{length, get_or, take, length-append}
use lib.Seq.{take_at, drop_at, get_or_at}
use Rattle.fields.specs.Number.{part, number, number_at, bytes_of}
use Rattle.fields.specs.Text.{joined}
use Rattle.fields.proofs.BigEndian.{length-bytes_of, reads-back}

pub record HoldsAt (f : List ℕ) (at : ℕ) (s : List ℕ) : Type 0 where
  pub front : List ℕ
  pub back : List ℕ
  pub is : f ≡ front ++ (s ++ back)
  pub place : length front ≡ at

-- at the front, as a whole, behind another list, within a part that is held, and at a place said otherwise
pub held_first : (s t : List ℕ) → HoldsAt (s ++ t) 0 s
held_first s t = record { front = []; back = t; is = refl; place = refl }

pub held_whole : (s : List ℕ) → HoldsAt s 0 s
held_whole s = record { front = []; back = []; is = sym (append-nil s); place = refl }

pub held-behind : {f s : List ℕ} {at : ℕ} (b : List ℕ) → HoldsAt f at s → HoldsAt (b ++ f) (length b + at) s
held-behind {f} {s} {at} b h =
    record {
      front = b ++ h.front;
      back = h.back;
      is = ap (λ (t : List ℕ). b ++ t) h.is ∙ sym (append_assoc b h.front (s ++ h.back));
      place = length-append b h.front ∙ ap (λ (k : ℕ). length b + k) h.place;
    }

pub held_in : {f s t : List ℕ} {at a : ℕ} → HoldsAt f at s → HoldsAt s a t → HoldsAt f (at + a) t
held_in {f} {s} {t} {at} {a} h k =
    record {
      front = h.front ++ k.front;
      back = k.back ++ h.back;
      is = h.is ∙ ap (λ (x : List ℕ). h.front ++ (x ++ h.back)) k.is ∙ simp append_assoc;
      place = length-append h.front k.front ∙ (let p = h.place in let q = k.place in omega arith);
    }

pub held_at : {f s : List ℕ} {at a : ℕ} → HoldsAt f at s → at ≡ a → HoldsAt f a s
held_at h e = record { front = h.front; back = h.back; is = h.is; place = h.place ∙ e }

-- what is read at the place
pub held-part : {f s : List ℕ} (w at : ℕ) → HoldsAt f at s → length s ≡ w → part w at f ≡ s
held-part {f} {s} w at h e =
    ap (part w at) h.is
    ∙ ap (take w) (drop_at h.front (s ++ h.back) at h.place)
    ∙ take_at s h.back w e

pub held-byte : {f : List ℕ} {b : ℕ} (at : ℕ) → HoldsAt f at (b ∷ []) → get_or f at 0 ≡ b
held-byte {f} {b} at h = ap (λ (t : List ℕ). get_or t at 0) h.is ∙ get_or_at h.front b h.back 0 at h.place

pub held_number : {f : List ℕ} (w at n : ℕ) → HoldsAt f at (bytes_of w n) → n < 256 ^ w → number_at w at f ≡ n
held_number w at n h l = ap number (held-part w at h (length-bytes_of w n)) ∙ reads-back w n l

-- a row that is made of another value
pub mapped-row : {A : Type 0} (f : A → List ℕ) (l : List A) (i : ℕ) (d : A) → i < length l → get_or (map f l) i [] ≡ f (get_or l i d)
mapped-row f [] i d h = absurd (not-suc-le-zero h)
mapped-row f (x ∷ l) zero d h = refl
mapped-row f (x ∷ l) (suc i) d h = mapped-row f l i d (omega arith)

-- rows of one width
module _ (w : ℕ) where
  pub joined_length : (rows : List (List ℕ)) → ((i : ℕ) → i < length rows → length (get_or rows i []) ≡ w)
      → length (joined rows) ≡ w * length rows
  joined_length [] h = sym (mul-zero w)
  joined_length (s ∷ rows) h =
      let first : length s ≡ w = h 0 (omega arith) in
      let rest = joined_length rows (λ i l. h (suc i) (omega arith)) in
      length-append s (joined rows) ∙ (let m = mul-suc w (length rows) in omega arith)

  pub joined-row : (rows : List (List ℕ)) (i : ℕ) → i < length rows → ((j : ℕ) → j < length rows → length (get_or rows j []) ≡ w)
      → HoldsAt (joined rows) (w * i) (get_or rows i [])
  joined-row [] i l h = absurd (not-suc-le-zero l)
  joined-row (s ∷ rows) zero l h = held_at (held_first s (joined rows)) (sym (mul-zero w))
  joined-row (s ∷ rows) (suc i) l h =
      let first : length s ≡ w = h 0 (omega arith) in
      held_at (held-behind s (joined-row rows i (omega arith) (λ j k. h (suc j) (omega arith)))) (let m = mul-suc w i in omega arith)
