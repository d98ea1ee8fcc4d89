-- Fields of bytes as 64-bit words, so that a few words are compared where many bytes would be.
--     Bytes        each element of a list is a byte, below 256
--     word         bytes read as one number, the first counting ones (little-endian)
--     bic_words     a BIC's words: its first eight bytes, and its last three
--     txid_words    a padded TxId's words: four times eight bytes, and the last three
--     key_words     the words of an order's key: its payer's BIC, and its TxId
-- Assumes nothing.
use Rattle.std.specs.Prelude.{ℕ, ◌+◌, ◌*◌, ◌<◌, List, [], ◌∷◌, slice_index}
use Rattle.fields.specs.Number.{part}

-- past the end slice_index gives 0, so no bound of the index is asked for
pub record Bytes (s : List ℕ) : Type 0 where
  pub below : (i : ℕ) → slice_index s i < 256

abbrev pub word : List ℕ → ℕ
word [] = 0
word (b ∷ s) = b + 256 * word s

abbrev pub bic_words : List ℕ → List ℕ
bic_words s = word (part 8 0 s) ∷ word (part 3 8 s) ∷ []

abbrev pub txid_words : List ℕ → List ℕ
txid_words s = word (part 8 0 s) ∷ word (part 8 8 s) ∷ word (part 8 16 s) ∷ word (part 8 24 s) ∷ word (part 3 32 s) ∷ []

-- 02, slip 6: the key of an order is payer and TxId together
abbrev pub key_words : List ℕ → List ℕ → List ℕ
key_words bic txid = word (part 8 0 bic) ∷ word (part 3 8 bic) ∷ txid_words txid
