-- The index of the keys of the orders in use, payer and TxId.
--     key_rows    a row of words for each of the first n orders
--     KeyIndex    the rows are those of the orders in use; how words are made of a key is left open
-- Assumes nothing.
use Rattle.std.specs.Prelude.{◌≡◌, ℕ, List}
use Rattle.rules.specs.Book.{order_of, key_of}
use Rattle.rules.specs.declared.Book.{Book}
use Rattle.index.specs.RowChains.{rows_of}

abbrev pub key_rows : (ℕ × List ℕ → List ℕ) → Book → ℕ → List (List ℕ)
key_rows words_of b n = rows_of (λ i. words_of (key_of (order_of b.orders i))) n

pub record KeyIndex (words_of : ℕ × List ℕ → List ℕ) (b : Book) (rows : List (List ℕ)) : Type 0 where
  pub keys : rows ≡ key_rows words_of b b.count
