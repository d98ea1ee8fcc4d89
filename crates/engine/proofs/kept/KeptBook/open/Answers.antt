-- A new order, and its key's row. Assumes nothing.
use Rattle.std.specs.Prelude.{ℕ, List, [], ◌∷◌, ◌++◌, length}
use mathlib.Core.Path.{◌∙◌, ap}
use native.Mathlib.Omega.{arith}
use borrow.Author.Rules.{rules}
use Rattle.index.proofs.RowsOf.{length-of}
use Rattle.turns.proofs.Index.{opened-kept}
use Rattle.engine.proofs.kept.KeptBook.open.Goals as goal

pub push-requires : goal.push-requires
push-requires c =
    let long = ap length c.args.self.now.kept.index.keys ∙ length-of _ c.args.self.now.book.count in
    let few = c.requires.room in
    omega arith

pub offset_bounds-self-o : goal.offset_bounds-self-o
offset_bounds-self-o c = let h = c.requires.payer in search rules

pub bounds-self-o : goal.bounds-self-o
bounds-self-o c = c.requires.payer

pub offset_bounds-self-k : goal.offset_bounds-self-k
offset_bounds-self-k c = let h = c.requires.room in search rules

pub bounds-self-k : goal.bounds-self-k
bounds-self-k c = c.requires.room

pub overflow_add-self : goal.overflow_add-self
overflow_add-self c = let h = c.requires.room in search rules

pub invariant_of-self : goal.invariant_of-self
invariant_of-self c =
    record {
      kept =
          opened-kept c.args.self.now.kept c.requires.long c.requires.room c.args.o
          (c.push.ensures ∙ ap (λ (w : List ℕ). c.args.self.now.keys ++ w ∷ []) c.key_words-words.ensures);
    }
