-- Cases as rows: which rule is asked, of which bytes, and what it must answer. One statement takes rows of any rule, and it holds
-- where a test that the checker computes over them says so. Assumes nothing.
use Prim.Native.Nat.{ℕ}
use Prim.Native.String.{String}
use mathlib.Core.Path.{◌≡◌}
use mathlib.Core.Bool.{Bool, true, ◌&&◌}
use mathlib.Core.List.{List, [], ◌∷◌}
use Rattle.fields.specs.Text.{same}
use Rattle.fields.proofs.Tests.{and_left, and_right}
use Rattle.fields.proofs.Same.{same_true}

-- a case: what it shows, the rule, the bytes given, the bytes due
pub record Row : Type 0 where
  pub shows : String
  pub rule : List ℕ → List ℕ
  pub given : List ℕ
  pub due : List ℕ

-- at each row the rule answers what is due
abbrev pub AllMet : List Row → Type 0
AllMet [] = Unit {0}
AllMet (r ∷ rows) = (r.rule r.given ≡ r.due) × AllMet rows

abbrev pub all_met : List Row → Bool
all_met [] = true
all_met (r ∷ rows) = same (r.rule r.given) r.due && all_met rows

pub all-met : (rows : List Row) → all_met rows ≡ true → AllMet rows
all-met [] e = tt
all-met (r ∷ rows) e =
    let met = same (r.rule r.given) r.due in
    (same_true (r.rule r.given) r.due (and_left met (all_met rows) e), all-met rows (and_right met (all_met rows) e))
