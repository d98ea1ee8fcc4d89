use mathlib.Core.Path.{sym, ◌∙◌, ap}
use Prim.Native.Nat.{ℕ, ◌+◌, ◌-◌}
use native.Mathlib.Omega.{arith}
use mathlib.Core.Path.{◌≡◌}
use Rattle.fields.specs.Text.{same}
use Rattle.repeats.specs.Repeats.{has_name_in}
use Rattle.repeats.proofs.Turning.{has-later}
use Rattle.repeats.proofs.pairs.has_name.Goals as goal

pub loop-preserved : goal.loop-preserved
loop-preserved c =
    let a = c.args in
    let rest = c.loop.rest.now in
    let left = a.count + 1 - c.loop.counter in
    let less : left - 1 ≡ a.count + 1 - (c.loop.counter + 1) = omega (arith, c.loop-test.true) in
    let test = ap (same a.name.now) (sym c.name_in.ensures) ∙ sym c.same_bytes.ensures ∙ c.if-same_bytes.false in (
      c.loop.invariant.0
          ∙ has-later a.name.now rest left (omega (arith, c.loop-test.true)) test _ c.behind-rest.ensures
          ∙ ap (λ (n : ℕ). has_name_in a.name.now n c.behind-rest.result.now) less,
      omega arith,
      omega (arith, c.loop-test.true),
    )
