-- `elements::currency::three` meets its contract. Assumes nothing.
use mathlib.Core.Path.{sym, ◌∙◌, ap}
use mathlib.Core.List.{[], ◌∷◌}
use Prim.Native.Nat.{ℕ, ◌-◌}
use native.Mathlib.Omega.{arith}
use lib.ListN.{take, drop, length-drop}
use Rattle.fields.specs.Text.{same}
use Rattle.elements.proofs.EuroRead.{not_three, three-at}
use Rattle.elements.proofs.currency.three.Goals as goal

pub returns-then-end-at-ne3 : goal.returns-then-end-at-ne3
returns-then-end-at-ne3 c =
    let a = c.args in
    let s = drop a.at a.text.now in
    sym
    (not_three s a.a a.b a.c (a.end - a.at) (omega (arith, length-drop a.at a.text.now)) c.if-end-at-ne3.true)

pub returns : goal.returns
returns c =
    let a = c.args in
    let s = a.text.now in
    sym
    (ap (λ (n : ℕ). same (take n (drop a.at s)) (a.a ∷ a.b ∷ a.c ∷ [])) c.if-end-at-ne3.false
    ∙ three-at s a.a a.b a.c a.at (omega arith))
