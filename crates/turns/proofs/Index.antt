-- The index of the keys of the orders in use, payer and TxId: a row of words for each. It stays as it is where no key changes, and gets one
-- row where an order is opened. How words are made of a key is left open. Assumes nothing.
--     same_index    orders with the same keys have the same index
--     more-index    one order more, in a row of its own
--     opened-kept   what is kept beside the book is kept with one order more
use mathlib.Core.Path.{◌≡◌, refl, sym, ◌∙◌, ap, ap₂}
use mathlib.Core.List.{List, [], ◌∷◌, ◌++◌}
use Prim.Native.Nat.{ℕ, ◌+◌, ◌<◌}
use native.Mathlib.Numerals.{add-one}
use native.Mathlib.Omega.{arith}
use lib.ListN.{length, set}
use lib.Seq.{get_or-set_same, get_or-set_other}
use Rattle.dayfile.specs.declared.roster.Roster.{Roster}
use Rattle.rules.specs.Book.{most_orders, no_order, order_of, key_of}
use Rattle.rules.specs.declared.Order.{Order}
use Rattle.rules.specs.declared.Book.{Book}
use Rattle.turns.specs.Index.{key_rows, KeyIndex}
use Rattle.turns.specs.Kept.{Kept}
use Rattle.index.proofs.RowsOf.{same-rows}

module _ {words_of : ℕ × List ℕ → List ℕ} {b : Book} (c : Book) {rows : List (List ℕ)} (f : KeyIndex words_of b rows) where
  kept : ((i : ℕ) → i < b.count → key_of (order_of c.orders i) ≡ key_of (order_of b.orders i)) → rows ≡ key_rows words_of c b.count
  kept same =
      f.keys
      ∙ same-rows (λ i. words_of (key_of (order_of b.orders i))) (λ i. words_of (key_of (order_of c.orders i))) b.count
      (λ i l. ap words_of (sym (same i l)))

module _ {words_of : ℕ × List ℕ → List ℕ} {b c : Book} {rows : List (List ℕ)} (f : KeyIndex words_of b rows) where
  pub same_index : c.count ≡ b.count → ((i : ℕ) → key_of (order_of c.orders i) ≡ key_of (order_of b.orders i))
      → KeyIndex words_of c rows
  same_index count same = record { keys = kept c f (λ i l. same i) ∙ ap (key_rows words_of c) (sym count) }

  -- a new order behind the others, of key s
  more-index : {rows' : List (List ℕ)} {s : ℕ × List ℕ} → c.count ≡ b.count + 1
      → ((i : ℕ) → i < b.count → key_of (order_of c.orders i) ≡ key_of (order_of b.orders i))
      → key_of (order_of c.orders b.count) ≡ s → rows' ≡ rows ++ words_of s ∷ [] → KeyIndex words_of c rows'
  more-index count before new new-rows =
      record {
        keys =
            new-rows
            ∙ ap₂ (λ (all : List (List ℕ)) (x : List ℕ). all ++ x ∷ []) (kept c f before) (ap words_of (sym new))
            ∙ ap (key_rows words_of c) (sym (count ∙ add-one b.count));
      }

-- what is kept beside a book with a new order o, behind the others
pub opened-kept : {words_of : Roster → ℕ × List ℕ → List ℕ} {b : Book} {keys : List (List ℕ)} {all m : ℕ} → Kept words_of b keys all m
    → length b.orders ≡ most_orders → b.count < most_orders → (o : Order) → {keys' : List (List ℕ)}
    → keys' ≡ keys ++ words_of b.roster (key_of o) ∷ []
    → Kept words_of (record b { orders = set b.orders b.count o; count = b.count + 1 }) keys' all m
opened-kept {words_of} {b} {m = m} k long room o new-keys =
    record {
      index =
          more-index {c = after} k.index refl (λ i l. ap key_of (before i (λ e. omega arith)))
          (ap key_of (get_or-set_same b.orders b.count o no_order (rw long room))) new-keys;
      sum = k.sum;
      passed =
          record {
            none = λ i l.
                let h = k.few in
                rw (before i (λ e. omega arith)) (k.passed.none i l);
          };
      few = let h = k.few in omega arith;
    }
  where
    after : Book
    after = record b { orders = set b.orders b.count o; count = b.count + 1 }

    before : (i : ℕ) → (i ≡ b.count → ⊥) → order_of (set b.orders b.count o) i ≡ order_of b.orders i
    before i n = get_or-set_other b.orders b.count i o no_order n
