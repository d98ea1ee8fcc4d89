use mathlib.Core.Path.{◌≡◌, refl, sym, ◌∙◌}
use mathlib.Core.List.{List, [], ◌∷◌}
use Prim.Native.Nat.{ℕ, ◌-◌, ◌<◌}
use native.Mathlib.Omega.{arith}
use borrow.Author.Tests.{ne_eqb}
use lib.ListN.{length}
use Rattle.fields.specs.Text.{unpadded}
use Rattle.fields.proofs.Padding.{unpadded-back, unpadded-whole}
use Rattle.fields.proofs.text.unpadded.Goals as goal

pub loop-value-preserved : goal.loop-value-preserved
loop-value-preserved c =
    c.loop-value.invariant ∙ unpadded-back c.loop-value.value.now (omega arith) (omega arith)

empty : (s : List ℕ) → length s < 1 → unpadded s ≡ s
empty [] h = refl
empty (x ∷ s) h = absurd (omega arith)

pub returns-in_default : goal.returns-in_default
returns-in_default c =
    sym (c.loop-value.invariant ∙ empty c.loop-value.value.now c.in_default.len_below)

pub returns-in_default-2 : goal.returns-in_default-2
returns-in_default-2 c =
    let v = c.loop-value.value.now in
    sym (c.loop-value.invariant ∙ unpadded-whole v (length v - 1) (omega arith) (ne_eqb _ _ (omega arith)))
