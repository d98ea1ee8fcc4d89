use mathlib.Core.Path.{◌≡◌, sym, ◌∙◌, ap}
use Prim.Native.Nat.{ℕ, ◌+◌, ◌-◌, ◌<◌}
use native.Mathlib.Omega.{arith}
use Rattle.fields.proofs.Tests.{never}
use Rattle.repeats.specs.Tree.{next_of, last_of}
use Rattle.repeats.proofs.Ways.{way-ends, way-goes, way-over}
use Rattle.repeats.proofs.tree.Tree.last_before.Goals as goal
use Rattle.repeats.proofs.tree.Tree.last_before.Goals.{
  else-loop-test,
  then-loop-test+then-next-ge13104,
  then-next-ge13104-via-then-next-ge13104,
  then-next-ge13104-via-else-next-ge13104+then-stops,
}

pub loop-preserved : goal.loop-preserved
loop-preserved g c =
    let next = next_of c.args.self.now.nodes c.args.name.now in
    let left = c.args.steps - c.loop.counter in
    let some : 0 < left = omega (arith, c.loop-test.true) in
    let less : left - 1 ≡ c.args.steps - (c.loop.counter + 1) = omega arith in (
      c.if-next-ge13104.false,
      omega (arith, c.loop-test.true),
      λ never-stops.
          c.loop.invariant.2 never-stops ∙ way-goes next left c.loop.node _ some c.next-next.ensures c.if-next-ge13104.false
          ∙ ap (λ (n : ℕ). last_of next n c.next-next.result) less,
    )

pub returns-clause-never : goal.returns-clause-never
returns-clause-never g c =
    λ never-stops.
    let next = next_of c.args.self.now.nodes c.args.name.now in
    let left = c.args.steps - c.loop.counter in
    let so_far = c.loop.invariant.2 never-stops in
    elim c.loop-test.branch [
      | else-loop-test w ↦ sym (so_far ∙ way-over next left c.loop.node (omega (arith, w.loop-test.false)))
      | then-loop-test+then-next-ge13104 w ↦
          elim w.then-next-ge13104.branch [
            | then-next-ge13104-via-then-next-ge13104 w' ↦
                sym
                (so_far
                ∙ way-ends next left c.loop.node _ (omega (arith, w.loop-test.true)) w.next-next.ensures w'.if-next-ge13104.true)
            | then-next-ge13104-via-else-next-ge13104+then-stops w' ↦ never (sym w'.if-stops.true ∙ never-stops _ _ w'.stops.ensures)
          ]
    ]
