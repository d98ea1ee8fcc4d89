-- Rows of a check: bytes that it takes, and bytes that it turns away. Assumes nothing.
use mathlib.Core.Bool.{Bool}
use mathlib.Core.List.{List, [], ◌∷◌}
use Prim.Native.Nat.{ℕ}
use Prim.Native.String.{String}
use Rattle.fields.proofs.CaseRows.{Row}
use Rattle.classes.specs.CheckAnswer.{answer}

-- a row of a check that answers the one byte 1
abbrev pub taken_row : String → (List ℕ → Bool) → List ℕ → Row
taken_row name check s = record { shows = name; rule = λ t. answer (check t) ∷ []; given = s; due = 1 ∷ [] }

-- a row of a check that answers the one byte 0
abbrev pub turned_row : String → (List ℕ → Bool) → List ℕ → Row
turned_row name check s = record { shows = name; rule = λ t. answer (check t) ∷ []; given = s; due = 0 ∷ [] }
