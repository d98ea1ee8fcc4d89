use native.Mathlib.Omega.{arith}
use Rattle.lines.proofs.Digits.{decimal-length-one, decimal-length-more, decimal-most}
use Rattle.lines.proofs.decimal.digits.Goals as goal

pub overflow_add-k : goal.overflow_add-k
overflow_add-k c =
    let m = decimal-most c.args.n in omega arith

pub loop-left-preserved : goal.loop-left-preserved
loop-left-preserved c =
    let l = c.loop-left in let m = decimal-length-more l.left c.loop-left-test.true l.invariant.0 in omega arith

pub returns : goal.returns
returns c =
    let m = decimal-length-one c.loop-left.left c.loop-left-test.false in omega arith
