use native.Mathlib.Omega.{arith}
use Rattle.draft.proofs.DigitLoop.{next-digit, next_fits, next-read, none_read, all_read}
use Rattle.draft.proofs.amount.digits_behind.Goals as goal

pub loop-b-init : goal.loop-b-init
loop-b-init c =
    let a = c.args in none_read a.n a.s.now c.requires.0 c.requires.1 c.requires.2

pub overflow_mul-value : goal.overflow_mul-value
overflow_mul-value c =
    let f = next_fits c.loop-b.invariant c.loop-b-test.true in omega arith

pub overflow_sub-value : goal.overflow_sub-value
overflow_sub-value c =
    (next-digit c.loop-b.invariant c.loop-b-test.true).low

pub overflow_cast-value : goal.overflow_cast-value
overflow_cast-value c =
    let d = (next-digit c.loop-b.invariant c.loop-b-test.true).high in omega arith

pub overflow_add-value : goal.overflow_add-value
overflow_add-value c =
    let f = next_fits c.loop-b.invariant c.loop-b-test.true in
    let d = (next-digit c.loop-b.invariant c.loop-b-test.true).high in
    omega arith

pub loop-b-preserved : goal.loop-b-preserved
loop-b-preserved c =
    next-read c.loop-b.invariant c.loop-b-test.true

pub returns : goal.returns
returns c =
    all_read c.loop-b.invariant c.loop-b-test.false
