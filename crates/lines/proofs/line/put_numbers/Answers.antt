use mathlib.Core.Path.{refl}
use native.Mathlib.Omega.{arith}
use lib.ListN.{length-set}
use Rattle.lines.proofs.Numbers.{number-room, number_more, end-room, numbers-written}
use borrow.Author.Rules.{rules}
use Rattle.lines.proofs.line.put_numbers.Goals as goal

pub loop-n-init : goal.loop-n-init
loop-n-init c =
    record { within = search rules; kept = refl; text = refl; place = refl }

pub put_number-end-requires : goal.put_number-end-requires
put_number-end-requires c =
    number-room c.loop-n.invariant (search rules) c.requires

pub loop-n-preserved : goal.loop-n-preserved
loop-n-preserved c =
    number_more c.loop-n.invariant (search rules) c.put_number-end.ensures c.put_number-end.auto.text

pub bounds-text-end : goal.bounds-text-end
bounds-text-end c =
    end-room c.loop-n.invariant (search rules) c.requires

pub overflow_add-result : goal.overflow_add-result
overflow_add-result c =
    let r = end-room c.loop-n.invariant c.loop-n-test.false c.requires in omega arith

pub shape_of-text : goal.shape_of-text
shape_of-text c =
    simp length-set c.loop-n.invariant.kept

pub returns : goal.returns
returns c =
    numbers-written c.loop-n.invariant c.loop-n-test.false
