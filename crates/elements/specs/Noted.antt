-- A named element that is met in a text, and what is kept of it (pacs/specs/Kept.antt).
--     met_at      the element of a row whose attributes were read and whose tag ends at a place, as a start tag or as a self-closing one
--     fault_of    what is wrong with an element of a row where a row was due: 0 for nothing; told_fault, an answer that tells it
--     keeping     what is kept, with an element of the row that was due
--     Noted       what was kept of the elements before it becomes what is kept of them and it
-- Assumes nothing.
use Rattle.std.specs.Prelude.{ℕ, ◌+◌, ◌≡◌, Bool, true, cond, List, [], ◌∷◌, ◌++◌, ◌≤◌, eqb, ltb, drop, set, Option, Some, None}
use Rattle.xml.specs.Bytes.{is_text, run}
use Rattle.xml.specs.Tree.{Attribute}
use Rattle.xml.specs.Scanning.{attributes_in, attributed}
use Rattle.pacs.specs.declared.notes.Text.{Text}
use Rattle.pacs.specs.declared.notes.Notes.{Notes}
use Rattle.pacs.specs.declared.refusals.Wrong.{Wrong}
use Rattle.pacs.specs.Named.{Named}
use Rattle.pacs.specs.Judged.{element_refusal}
use Rattle.pacs.specs.Wrongs.{wrong_number, wrong_refusal}
use Rattle.pacs.specs.Kept.{Kept}
use Rattle.pacs.specs.Walk.{end_follows}

abbrev pub met_at : List ℕ → ℕ → List Attribute → ℕ → Bool → Named
met_at t row more at nests =
    record {
      row = row;
      attributes = more;
      text = cond nests (run is_text (drop at t)) [];
      plain = cond nests (end_follows (drop at t)) true;
    }

-- 48 and the row where its text holds an element, 64 and the row where a later one is due, 32 and the row that is due where that is an
-- earlier one
abbrev pub fault_of : ℕ → ℕ → Bool → ℕ
fault_of row due plain = cond (eqb row due) (cond plain 0 (48 + row)) (cond (ltb row due) (64 + row) (32 + due))

abbrev pub told_fault : Option Wrong → ℕ → Type 0
told_fault None n = n ≡ 0
told_fault (Some wrong) n = (n ≡ wrong_number wrong) × (32 ≤ n) × (wrong_refusal wrong ≡ element_refusal)

abbrev pub keeping : ℕ → Text → Bool → Notes → Notes
keeping row text euro kept =
    record { texts = set kept.texts row text; due = row + 1; fault = kept.fault; euro = euro }

abbrev pub Noted : List ℕ → ℕ → ℕ → ℕ → Bool → Notes → Notes → Type 0
Noted t row behind at nests before after =
    (seen : List Named) (fuel : ℕ) (more : List Attribute) (space z : List ℕ)
    → attributes_in fuel (drop behind t) ≡ attributed more space z
    → Kept seen before
    → Kept (seen ++ (met_at t row more at nests ∷ [])) after
