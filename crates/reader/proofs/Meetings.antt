-- An element that is met, skipped or named. Assumes nothing.
use Prim.Native.Nat.{ℕ, suc}
use mathlib.Core.Path.{◌≡◌, sym, ◌∙◌}
use mathlib.Core.Bool.{Bool}
use mathlib.Core.List.{List, append-nil}
use borrow.Author.Tests.{ne_eqb}
use lib.ListN.{length, drop}
use Rattle.xml.proofs.FirstAttribute.{as-in}
use Rattle.pacs.specs.declared.notes.Notes.{Notes}
use Rattle.pacs.specs.Named.{row_of}
use Rattle.pacs.specs.Kept.{placed_text}
use Rattle.elements.specs.Noted.{Noted}
use Rattle.reader.specs.Walks.{Met}

module _ (t : List ℕ) (parent from to at : ℕ) (nests : Bool) (before : Notes) (row : ℕ)
    (is : row ≡ row_of parent (placed_text t from to)) where
  pub met-skipped : row ≡ 17 → Met t parent from to at nests before before row
  met-skipped e = record { is = is; keeps = λ seen u space z a k. rw (e, append-nil seen) k }

  pub met-named : (after : Notes) → (row ≡ 17 → ⊥) → Noted t row to at nests before after
      → Met t parent from to at nests before after row
  met-named after e noted =
      record {
        is = is;
        keeps =
            λ seen u space z a k.
            rw (ne_eqb row 17 e) (noted seen (suc (length (drop to t))) u.attributes space z (sym (as-in (drop to t)) ∙ a) k);
      }
