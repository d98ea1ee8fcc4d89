use mathlib.Core.Path.{refl}
use native.Mathlib.Omega.{arith}
use lib.ListN.{length-set}
use Rattle.lines.proofs.DigitsFilling.{last-place, last_more, first-room, first-written}
use borrow.Author.Rules.{rules}
use Rattle.lines.proofs.decimal.put_digits.Goals as goal

pub loop-left-init : goal.loop-left-init
loop-left-init c =
    record { kept = refl; fits = search rules; within = search rules; place = search rules; text = refl }

pub overflow_sub-i : goal.overflow_sub-i
overflow_sub-i c =
    let p = last-place c.loop-left.invariant c.loop-left-test.true in omega arith

pub bounds-text-i : goal.bounds-text-i
bounds-text-i c =
    let p = last-place c.loop-left.invariant c.loop-left-test.true in omega arith

pub loop-left-preserved : goal.loop-left-preserved
loop-left-preserved c =
    last_more c.loop-left.invariant c.loop-left-test.true

pub bounds-text-at : goal.bounds-text-at
bounds-text-at c =
    first-room c.loop-left.invariant c.loop-left-test.false

pub shape_of-text : goal.shape_of-text
shape_of-text c =
    simp length-set c.loop-left.invariant.kept

pub returns : goal.returns
returns c =
    record { text = first-written c.loop-left.invariant c.loop-left-test.false; end = search rules }
