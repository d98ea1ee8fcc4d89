-- Words compared are bytes compared. Assumes nothing.
use Rattle.std.proofs.Common.{◌≡◌, ℕ, zero, suc, ◌+◌, ◌-◌, ◌<◌, ◌≤◌, Bool, true, false, ◌&&◌, eqb, ltb, List, [], ◌∷◌, length, get_or, take, drop, sym, refl, ap, ◌∙◌, subst, ap₂, arith, lit<, lit≤, length-drop, drop_of_length-le, length-take, get_or-drop, get_or-take, drop-drop, w8, Fits, ltb-false, ltb-true, eq-eqb, ne_eqb}
use mathlib.Core.Bool.{and_assoc}
use lib.ListN.{get_or-eq_default}
use Rattle.fields.specs.Number.{part}
use Rattle.fields.specs.Text.{same}
use Rattle.fields.proofs.Same.{same_true, same_refl}
use Rattle.fields.proofs.Stores.{length_part}
use Rattle.index.specs.Words.{Bytes, word, bic_words, txid_words, key_words}
use Rattle.fields.proofs.Tests.{never}

-- what a function is told of a slice of bytes
pub slice-bytes : (s : List ℕ) → ((i : ℕ) → Fits w8 (get_or s i 0)) → Bytes s
slice-bytes s known = record { below = λ i. (known i).fits }

-- the bytes behind the first, and those of a part
pub rest-bytes : {b : ℕ} {s : List ℕ} → Bytes (b ∷ s) → Bytes s
rest-bytes h = record { below = λ i. h.below (suc i) }

pub part_bytes : {s : List ℕ} → Bytes s → (w at : ℕ) → Bytes (part w at s)
part_bytes {s} h w at = record { below = λ i. go i (ltb i w) refl }
  where
    go : (i : ℕ) (b : Bool) → ltb i w ≡ b → get_or (part w at s) i 0 < 256
    go i true e = subst (λ (n : ℕ). n < 256) (sym (get_or-take w (drop at s) i 0 (ltb-true i w e) ∙ get_or-drop at s i 0)) (h.below (at + i))
    go i false e =
        let few = length-take w (drop at s) in
        let past = ltb-false i w e in
        subst (λ (n : ℕ). n < 256) (sym (get_or-eq_default (part w at s) 0 (omega arith))) (lit< tt)

-- bytes are told apart by their word
word-tells : (a b : List ℕ) → length a ≡ length b → Bytes a → Bytes b → word a ≡ word b → a ≡ b
word-tells [] [] long h k e = refl
word-tells [] (y ∷ t) long h k e = absurd (omega arith)
word-tells (x ∷ s) [] long h k e = absurd (omega arith)
word-tells (x ∷ s) (y ∷ t) long h k e =
    let p = h.below 0 in
    let q = k.below 0 in
    ap₂ ◌∷◌ (omega arith) (word-tells s t (omega arith) (rest-bytes h) (rest-bytes k) (omega arith))

word_same : (a b : List ℕ) → length a ≡ length b → Bytes a → Bytes b → same a b ≡ eqb (word a) (word b)
word_same a b long h k = go (same a b) refl
  where
    go : (z : Bool) → same a b ≡ z → z ≡ eqb (word a) (word b)
    go true e = sym (eq-eqb (word a) (word b) (ap word (same_true a b e)))
    go false e =
        sym (ne_eqb (word a) (word b) (λ q. never (sym (ap (same a) (sym (word-tells a b long h k q)) ∙ same_refl a) ∙ e)))

-- the first v bytes, and those behind them
same-split : (v : ℕ) (a b : List ℕ) → length a ≡ length b → same a b ≡ (same (take v a) (take v b) && same (drop v a) (drop v b))
same-split zero a b long = refl
same-split (suc v) [] [] long = refl
same-split (suc v) [] (y ∷ t) long = absurd (omega arith)
same-split (suc v) (x ∷ s) [] long = absurd (omega arith)
same-split (suc v) (x ∷ s) (y ∷ t) long =
    ap (λ (z : Bool). eqb x y && z) (same-split v s t (omega arith))
    ∙ sym (and_assoc (eqb x y) (same (take v s) (take v t)) (same (drop v s) (drop v t)))

-- fields of one length, word by word
module _ (a b : List ℕ) (n : ℕ) (long-a : length a ≡ n) (long-b : length b ≡ n) (bytes-a : Bytes a) (bytes-b : Bytes b) where
  word-by-word : (v at : ℕ) → at + v ≤ n → (z : Bool) → same (drop (at + v) a) (drop (at + v) b) ≡ z
      → same (drop at a) (drop at b) ≡ (eqb (word (part v at a)) (word (part v at b)) && z)
  word-by-word v at fits z behind =
      same-split v (drop at a) (drop at b) (length-drop at a ∙ ap (λ (k : ℕ). k - at) (long-a ∙ sym long-b) ∙ sym (length-drop at b))
      ∙ ap₂ ◌&&◌
      (word_same (part v at a) (part v at b) (length_part v at a (omega arith) ∙ sym (length_part v at b (omega arith)))
      (part_bytes bytes-a v at)
      (part_bytes bytes-b v at))
      (ap₂ same (drop-drop v at a) (drop-drop v at b) ∙ behind)

  no_more : same (drop n a) (drop n b) ≡ true
  no_more = ap₂ same (drop_of_length-le a {i = n} (omega arith)) (drop_of_length-le b {i = n} (omega arith))

pub same-bics : (a b : List ℕ) → length a ≡ 11 → length b ≡ 11 → Bytes a → Bytes b → same (bic_words a) (bic_words b) ≡ same a b
same-bics a b long-a long-b bytes-a bytes-b =
    let behind = word-by-word a b 11 long-a long-b bytes-a bytes-b in
    sym (behind 8 0 (lit≤ tt) _ (behind 3 8 (lit≤ tt) _ (no_more a b 11 long-a long-b bytes-a bytes-b)))

same-txids : (a b : List ℕ) → length a ≡ 35 → length b ≡ 35 → Bytes a → Bytes b → same (txid_words a) (txid_words b) ≡ same a b
same-txids a b long-a long-b bytes-a bytes-b =
    let behind = word-by-word a b 35 long-a long-b bytes-a bytes-b in
    let end = behind 3 32 (lit≤ tt) _ (no_more a b 35 long-a long-b bytes-a bytes-b) in
    sym (behind 8 0 (lit≤ tt) _ (behind 8 8 (lit≤ tt) _ (behind 8 16 (lit≤ tt) _ (behind 8 24 (lit≤ tt) _ end))))

-- payer and TxId together
pub same_keys : (a b s t : List ℕ) → length a ≡ 11 → length b ≡ 11 → length s ≡ 35 → length t ≡ 35 → Bytes a → Bytes b → Bytes s → Bytes t
    → same (key_words a s) (key_words b t) ≡ (same a b && same s t)
same_keys a b s t long-a long-b long-s long-t bytes-a bytes-b bytes-s bytes-t =
    same-split 2 (key_words a s) (key_words b t) refl
    ∙ ap₂ ◌&&◌ (same-bics a b long-a long-b bytes-a bytes-b) (same-txids s t long-s long-t bytes-s bytes-t)
