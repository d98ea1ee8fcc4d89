use mathlib.Core.Path.{◌≡◌, sym, ◌∙◌, ap, ap₂}
use mathlib.Core.Bool.{Bool, ◌&&◌, and_assoc, and-true}
use mathlib.Core.Logic.{⊎_elim}
use mathlib.Core.List.{List, [], ◌∷◌}
use Prim.Native.Nat.{ℕ}
use native.Mathlib.Omega.{arith}
use lib.Dec.{eqb}
use lib.ListN.{length}
use Rattle.fields.specs.Text.{same}
use Rattle.fields.proofs.Same.{same-lengths}
use Rattle.fields.proofs.text.same_bytes.Invariants.{Inv}
use Rattle.fields.proofs.text.same_bytes.Goals as goal

pub returns-then-a-b : goal.returns-then-a-b
returns-then-a-b c =
    sym (same-lengths c.args.a.now c.args.b.now c.if-a-b.true)

-- one byte of each
next : (a b s t s' t' : List ℕ) (equal : Bool) (x y : ℕ) → Inv a b s t equal → s ≡ x ∷ s' → t ≡ y ∷ t'
    → Inv a b s' t' (equal && eqb x y)
next a b s t s' t' equal x y h p q = record {
  as_long = omega (arith, ap length p, ap length q, h.as_long);
  left = h.left ∙ ap (◌&&◌ equal) (ap₂ same p q) ∙ sym (and_assoc equal (eqb x y) (same s' t'));
}

pub loop-x-preserved : goal.loop-x-preserved
loop-x-preserved c =
    next _ _ _ _ _ _ _ _ _ c.loop-x.invariant c.in-Some.ensures.steps.0 c.in-Some.ensures.steps.1

-- nothing is left of either
ended : {a b : List ℕ} (s t : List ℕ) {equal : Bool} → Inv a b s t equal → length s ≡ 0 → equal ≡ same a b
ended [] [] {equal} h e = sym (h.left ∙ and-true equal)
ended [] (y ∷ t) h e = let l = h.as_long in absurd (omega arith)
ended (x ∷ s) t h e = absurd (omega arith)

pub returns : goal.returns
returns c =
    let inv = c.loop-x.invariant in
    ended _ _ inv (⊎_elim (λ l. l.1.0) (λ r. inv.as_long ∙ r.1.0) c.in-None.ensures.steps)
