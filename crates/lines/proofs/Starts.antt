-- How many reports the first answers count: with the next answer, and at most what all count. Assumes nothing.
use mathlib.Core.Path.{◌≡◌, ap}
use mathlib.Core.List.{List}
use mathlib.Core.Logic.{⊎_elim}
use Prim.Native.Nat.{ℕ, zero, suc, ◌+◌, ◌≤◌, ◌<◌}
use native.Mathlib.Nat.{not-suc-le-zero, eq-or-lt_of_le, le_of_suc-le-suc}
use native.Mathlib.Numerals.{add-one}
use native.Mathlib.Omega.{arith}
use Rattle.report.specs.Answer.{answer_at}
use Rattle.lines.specs.Lines.{start_of}

pub start-next : (answers : List ℕ) (i : ℕ) → start_of answers (i + 1) ≡ start_of answers i + (answer_at answers i).reports
start-next answers i = ap (start_of answers) (add-one i)

pub start-within : (answers : List ℕ) (n i : ℕ) → i < n → start_of answers i + (answer_at answers i).reports ≤ start_of answers n
start-within answers zero i h = absurd (not-suc-le-zero h)
start-within answers (suc n) i h =
    ⊎_elim
    (λ (q : i ≡ n). rw q (omega arith))
    (λ (l : i < n). let e = start-within answers n i l in omega arith)
    (eq-or-lt_of_le (le_of_suc-le-suc h))
