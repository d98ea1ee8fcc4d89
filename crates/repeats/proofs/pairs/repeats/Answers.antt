use mathlib.Core.Path.{sym, ◌∙◌, ap}
use mathlib.Core.List.{List}
use Prim.Native.Nat.{ℕ, ◌-◌}
use Rattle.repeats.specs.Repeats.{has_name_in}
use Rattle.repeats.proofs.Turning.{repeats-here, repeats-later, repeats-none}
use borrow.Author.Rules.{rules}
use Rattle.repeats.proofs.pairs.repeats.Goals as goal

pub returns-then-has_name : goal.returns-then-has_name
returns-then-has_name c =
    let rest = c.behind-next.result.now in
    let test =
    ap (λ (name : List ℕ). has_name_in name (c.loop-left.left - 1) rest) (sym c.name_in.ensures) ∙ sym c.has_name.ensures ∙ c.if-has_name.true
    in
    sym
    (c.loop-left.invariant
    ∙ repeats-here c.loop-left.rest.now c.loop-left.left (search rules) rest c.behind-next.ensures test)

pub loop-left-preserved : goal.loop-left-preserved
loop-left-preserved c =
    let rest = c.behind-next.result.now in
    let test =
    ap (λ (name : List ℕ). has_name_in name (c.loop-left.left - 1) rest) (sym c.name_in.ensures) ∙ sym c.has_name.ensures ∙ c.if-has_name.false
    in
    c.loop-left.invariant
    ∙ repeats-later c.loop-left.rest.now c.loop-left.left (search rules) rest c.behind-next.ensures test

pub returns : goal.returns
returns c =
    sym (c.loop-left.invariant ∙ repeats-none c.loop-left.rest.now c.loop-left.left c.loop-left-test.false)
