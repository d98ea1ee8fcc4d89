-- Rows that are the words of the fields of a table: what a search among them finds, and that they may be lent to a search.
-- Assumes nothing.
use Rattle.std.specs.Prelude.{is_some}
use Rattle.std.proofs.Common.{◌≡◌, ℕ, ◌<◌, Bool, true, false, ◌&&◌, List, length, sym, ap, ◌∙◌, subst, ap₂, lt_trans}
use Rattle.fields.specs.Text.{same, unpadded}
use Rattle.fields.specs.Search.{number_of, first_to}
use Rattle.fields.proofs.Same.{same_true}
use Rattle.fields.proofs.Tests.{and_left, and_right}
use Rattle.fields.proofs.Finding.{first-same, found_at}
use Rattle.codes.specs.Bic.{is_bic}
use Rattle.codes.specs.Txid.{is_txid}
use Rattle.codes.proofs.WholeCodes.{bic-length}
use Rattle.index.specs.Words.{Bytes, bic_words, key_words}
use Rattle.index.specs.RowChains.{rows_of, first_with, Distinct}
use Rattle.index.specs.LentRows.{BicRows, KeyRows}
use Rattle.index.proofs.RowsOf.{first-of, distinct-of}
use Rattle.index.proofs.Comparing.{same-bics, same_keys}
use Rattle.index.proofs.Coded.{bic-bytes, txid-bytes}

-- fields told apart by their words
module _ {Field : Type 0} (words : Field → List ℕ) (alike : Field → Field → Bool) (Fit : Field → Type 0)
    (tells : (a b : Field) → Fit a → Fit b → same (words a) (words b) ≡ alike a b)
    (field : ℕ → Field) (n : ℕ) (fit : (i : ℕ) → i < n → Fit (field i)) where
  abbrev rows : List (List ℕ)
  rows = rows_of (λ i. words (field i)) n

  found-by-words : (s : Field) → Fit s → first_with (words s) rows ≡ first_to (λ i. alike (field i) s) n
  found-by-words s fits =
      first-of (λ i. words (field i)) n (words s)
      ∙ first-same (λ i. same (words (field i)) (words s)) (λ i. alike (field i) s) n (λ i l. tells (field i) s (fit i l) fits)

  differ-by-words : ((i j : ℕ) → i < j → j < n → alike (field i) (field j) ≡ false) → Distinct rows
  differ-by-words differ =
      distinct-of (λ i. words (field i)) n
      (λ i j l k. tells (field i) (field j) (fit i (lt_trans l k)) (fit j k) ∙ differ i j l k)

  -- what all fields are, what is found is
  formed-by-words : ((a b : Field) → alike a b ≡ true → a ≡ b) → (Is : Field → Type 0) → ((i : ℕ) → i < n → Is (field i))
      → (s : Field) → Fit s → is_some (first_with (words s) rows) ≡ true → Is s
  formed-by-words equal Is all s fits found =
      let at = found_at (λ i. alike (field i) s) n (ap is_some (sym (found-by-words s fits)) ∙ found) in
      let i = number_of (first_to (λ i. alike (field i) s) n) in
      subst Is (equal (field i) s at.passes) (all i at.below)

-- BICs
abbrev FitBic : List ℕ → Type 0
FitBic s = (length s ≡ 11) × Bytes s

told-bics : (a b : List ℕ) → FitBic a → FitBic b → same (bic_words a) (bic_words b) ≡ same a b
told-bics a b fit-a fit-b = same-bics a b fit-a.0 fit-b.0 fit-a.1 fit-b.1

fit-bic : (s : List ℕ) → is_bic s ≡ true → FitBic s
fit-bic s e = (bic-length s e, bic-bytes s e)

module _ (bic : ℕ → List ℕ) (n : ℕ) (formed : (p : ℕ) → p < n → is_bic (bic p) ≡ true) where
  fit-bics : (p : ℕ) → p < n → FitBic (bic p)
  fit-bics p l = fit-bic (bic p) (formed p l)

  pub bic-found : (s : List ℕ) → length s ≡ 11 → Bytes s
      → first_with (bic_words s) (rows_of (λ p. bic_words (bic p)) n) ≡ first_to (λ p. same (bic p) s) n
  bic-found s long bytes = found-by-words bic_words same FitBic told-bics bic n fit-bics s (long, bytes)

  pub bic-rows : ((i j : ℕ) → i < j → j < n → same (bic i) (bic j) ≡ false) → BicRows (rows_of (λ p. bic_words (bic p)) n)
  bic-rows differ =
      record {
        distinct = differ-by-words bic_words same FitBic told-bics bic n fit-bics differ;
        formed =
            λ s wide bytes.
            formed-by-words bic_words same FitBic told-bics bic n fit-bics same_true (λ t. is_bic t ≡ true) formed s (wide, bytes);
      }

-- keys, a BIC and a TxId each
abbrev Key : Type 0
Key = List ℕ × List ℕ

abbrev words_of : Key → List ℕ
words_of k = key_words k.0 k.1

abbrev same_key : Key → Key → Bool
same_key j k = same j.0 k.0 && same j.1 k.1

abbrev FitKey : Key → Type 0
FitKey k = FitBic k.0 × (length k.1 ≡ 35) × Bytes k.1

abbrev IsKey : Key → Type 0
IsKey k = (is_bic k.0 ≡ true) × (is_txid (unpadded k.1) ≡ true)

told-keys : (j k : Key) → FitKey j → FitKey k → same (words_of j) (words_of k) ≡ same_key j k
told-keys j k fit-j fit-k =
    same_keys j.0 k.0 j.1 k.1 fit-j.0.0 fit-k.0.0 fit-j.1 fit-k.1 fit-j.0.1 fit-k.0.1 fit-j.2
    fit-k.2

equal-keys : (j k : Key) → same_key j k ≡ true → j ≡ k
equal-keys j k e =
    ap₂ (λ (a s : List ℕ). (a, s)) (same_true j.0 k.0 (and_left (same j.0 k.0) (same j.1 k.1) e))
    (same_true j.1 k.1 (and_right (same j.0 k.0) (same j.1 k.1) e))

module _ (bic txid : ℕ → List ℕ) (n : ℕ) (formed : (i : ℕ) → i < n → is_bic (bic i) ≡ true)
    (wide : (i : ℕ) → i < n → length (txid i) ≡ 35)
    (named : (i : ℕ) → i < n → is_txid (unpadded (txid i)) ≡ true) where
  abbrev key : ℕ → Key
  key i = (bic i, txid i)

  fit-keys : (i : ℕ) → i < n → FitKey (key i)
  fit-keys i l = (fit-bic (bic i) (formed i l), wide i l, txid-bytes (txid i) (named i l))

  pub key-found : (a s : List ℕ) → length a ≡ 11 → length s ≡ 35 → Bytes a → Bytes s
      → first_with (key_words a s) (rows_of (λ i. key_words (bic i) (txid i)) n) ≡ first_to (λ i. same (bic i) a && same (txid i) s) n
  key-found a s long-a long-s bytes-a bytes-s =
      found-by-words words_of same_key FitKey told-keys key n fit-keys (a, s) ((long-a, bytes-a), long-s, bytes-s)

  pub key-rows : ((i j : ℕ) → i < j → j < n → (same (bic i) (bic j) && same (txid i) (txid j)) ≡ false)
      → KeyRows (rows_of (λ i. key_words (bic i) (txid i)) n)
  key-rows differ =
      record {
        distinct = differ-by-words words_of same_key FitKey told-keys key n fit-keys differ;
        formed =
            λ a s long-a long-s bytes-a bytes-s.
            formed-by-words words_of same_key FitKey told-keys key n fit-keys equal-keys IsKey (λ i l. (formed i l, named i l)) (a, s)
            ((long-a, bytes-a), long-s, bytes-s);
      }
