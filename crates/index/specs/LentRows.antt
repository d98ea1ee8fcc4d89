-- What is lent to a search: rows of words. What is found in them is well formed. No book is in it. That what is found is well formed holds
-- of bytes alone, since two lists of larger numbers may have the same words; a function is told of each of its slices that it has bytes
-- (`slice-bytes`).
--     BicRows     the words of BICs, no two the same
--     KeyRows     the words of keys, each a payer's BIC and a padded TxId, no two the same in both
-- Assumes nothing.
use Rattle.std.specs.Prelude.{◌≡◌, ℕ, true, List, length, is_some}
use Rattle.fields.specs.Text.{unpadded}
use Rattle.codes.specs.Bic.{is_bic}
use Rattle.codes.specs.Txid.{is_txid}
use Rattle.index.specs.Words.{Bytes, bic_words, key_words}
use Rattle.index.specs.RowChains.{first_with, Distinct}

pub record BicRows (rows : List (List ℕ)) : Type 0 where
  pub distinct : Distinct rows
  pub formed : (s : List ℕ) → length s ≡ 11 → Bytes s → is_some (first_with (bic_words s) rows) ≡ true → is_bic s ≡ true

pub record KeyRows (rows : List (List ℕ)) : Type 0 where
  pub distinct : Distinct rows
  pub formed : (bic txid : List ℕ) → length bic ≡ 11 → length txid ≡ 35 → Bytes bic → Bytes txid
      → is_some (first_with (key_words bic txid) rows) ≡ true
      → (is_bic bic ≡ true) × (is_txid (unpadded txid) ≡ true)
