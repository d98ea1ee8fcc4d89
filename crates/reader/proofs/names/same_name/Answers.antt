use Prim.Native.Nat.{◌+◌, ◌≤◌}
use mathlib.Core.Path.{refl, sym, ap, ◌∙◌}
use mathlib.Core.Bool.{not}
use native.Mathlib.Omega.{arith}
use lib.ListN.{length}
use Rattle.fields.proofs.Same.{same-lengths}
use Rattle.reader.proofs.Alike.{goes_on, ends_so, from_byte, from-other, none_left}
use Rattle.reader.proofs.names.same_name.Goals as goal

pub returns-then-a-b : goal.returns-then-a-b
returns-then-a-b c =
    let a = c.args in sym (same-lengths a.a.now a.b.now c.if-a-b.true)

pub loop-i-init : goal.loop-i-init
loop-i-init c =
    (refl, omega arith)

pub overflow_sub-a : goal.overflow_sub-a
overflow_sub-a c =
    c.loop-i.invariant.1

pub same_four-requires : goal.same_four-requires
same_four-requires c =
    let first : c.loop-i.i + 4 ≤ length c.args.a.now = omega (arith, c.loop-i-test.true, c.loop-i.invariant.1) in
    (first, omega (arith, first, c.if-a-b.false))

pub returns-then-not-same_four : goal.returns-then-not-same_four
returns-then-not-same_four c =
    let a = c.args in
    sym (c.loop-i.invariant.0 ∙ ends_so a.a.now a.b.now c.loop-i.i (c.loop-i.i + 4) c.same_four.result c.same_four.ensures (ap not c.if-not-same_four.true))

pub overflow_add-i : goal.overflow_add-i
overflow_add-i c =
    omega (arith, c.loop-i-test.true, c.loop-i.invariant.1)

pub loop-i-smaller : goal.loop-i-smaller
loop-i-smaller c =
    omega (arith, c.loop-i-test.true, c.loop-i.invariant.1)

pub loop-i-preserved : goal.loop-i-preserved
loop-i-preserved c =
    let a = c.args in (
      c.loop-i.invariant.0 ∙ goes_on a.a.now a.b.now c.loop-i.i (c.loop-i.i + 4) c.same_four.result c.same_four.ensures (ap not c.if-not-same_four.false),
      omega (arith, c.loop-i-test.true, c.loop-i.invariant.1),
    )

pub loop-i-2-init : goal.loop-i-2-init
loop-i-2-init c =
    c.loop-i.invariant

pub bounds-b-i : goal.bounds-b-i
bounds-b-i c =
    omega (arith, c.loop-i-2-test.true, c.if-a-b.false)

pub returns-then-a-i : goal.returns-then-a-i
returns-then-a-i c =
    let a = c.args in
    let there = c.loop-i-2-test.true in
    let long = c.if-a-b.false in
    sym (c.loop-i-2.invariant.0 ∙ from-other a.a.now a.b.now c.loop-i-2.i there (omega (arith, there, long)) c.if-a-i.true)

pub loop-i-2-preserved : goal.loop-i-2-preserved
loop-i-2-preserved c =
    let a = c.args in
    let there = c.loop-i-2-test.true in
    let long = c.if-a-b.false in (
      c.loop-i-2.invariant.0 ∙ from_byte a.a.now a.b.now c.loop-i-2.i there (omega (arith, there, long)) c.if-a-i.false,
      omega (arith, there),
    )

pub returns : goal.returns
returns c =
    let a = c.args in
    let over = c.loop-i-2-test.false in
    sym (c.loop-i-2.invariant.0 ∙ none_left a.a.now a.b.now c.loop-i-2.i over (omega (arith, over, c.if-a-b.false)))
