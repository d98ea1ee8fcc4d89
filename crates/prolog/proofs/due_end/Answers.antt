-- `prolog::due_end` meets its contract. Assumes nothing.
use native.Mathlib.Omega.{arith}
use Rattle.scan.proofs.AttributeParts.{there, tested}
use Rattle.prolog.specs.Ends.{is_due, due_test}
use Rattle.prolog.proofs.Parts.{none-there, one-passed, one-failed}
use Rattle.prolog.proofs.due_end.Goals as goal

pub returns-in_default : goal.returns-in_default
returns-in_default c =
    let a = c.args in
    none-there a.text.now a.at (due_test a.due) c.attribute_at.ensures c.in_default.is

pub slice_bounds-is_due-count : goal.slice_bounds-is_due-count
slice_bounds-is_due-count c =
    let h = there c.args.text.now c.args.at c.attribute_at.ensures c.in-Some.is in omega arith

pub slice_bounds-is_due-start : goal.slice_bounds-is_due-start
slice_bounds-is_due-start c =
    let h = there c.args.text.now c.args.at c.attribute_at.ensures c.in-Some.is in omega arith

pub slice_bounds-is_due-end : goal.slice_bounds-is_due-end
slice_bounds-is_due-end c =
    let h = there c.args.text.now c.args.at c.attribute_at.ensures c.in-Some.is in omega arith

pub slice_bounds-is_due-count-2 : goal.slice_bounds-is_due-count-2
slice_bounds-is_due-count-2 c =
    let h = there c.args.text.now c.args.at c.attribute_at.ensures c.in-Some.is in omega arith

pub slice_bounds-is_due-start-2 : goal.slice_bounds-is_due-start-2
slice_bounds-is_due-start-2 c =
    let h = there c.args.text.now c.args.at c.attribute_at.ensures c.in-Some.is in omega arith

pub slice_bounds-is_due-end-2 : goal.slice_bounds-is_due-end-2
slice_bounds-is_due-end-2 c =
    let h = there c.args.text.now c.args.at c.attribute_at.ensures c.in-Some.is in omega arith

pub overflow_add-result : goal.overflow_add-result
overflow_add-result c =
    let h = there c.args.text.now c.args.at c.attribute_at.ensures c.in-Some.is in omega arith

pub returns-then-is_due : goal.returns-then-is_due
returns-then-is_due c =
    let a = c.args in
    let found = there a.text.now a.at c.attribute_at.ensures c.in-Some.is in
    let due = tested a.text.now a.at c.attribute_at.ensures c.in-Some.is (is_due a.due) c.is_due.ensures in
    one-passed a.text.now a.at (due_test a.due) found due c.if-is_due.true

pub returns : goal.returns
returns c =
    let a = c.args in
    let found = there a.text.now a.at c.attribute_at.ensures c.in-Some.is in
    let due = tested a.text.now a.at c.attribute_at.ensures c.in-Some.is (is_due a.due) c.is_due.ensures in
    one-failed a.text.now a.at (due_test a.due) found due c.if-is_due.false
