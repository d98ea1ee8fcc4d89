use Rattle.std.proofs.Common.{rules, ◌≡◌, Ok, is_ok, false}
use native.Mathlib.Omega.{arith}
use lib.ListN.{drop}
use Rattle.xml.specs.Bytes.{is_space, run}
use Rattle.tags.proofs.Attributes.{broken-there, ended-there, starts, all_read, misread-at, goes_on}
use Rattle.tags.proofs.TagEnds.{misread-tag}
use Rattle.tags.proofs.long_tag_end.Goals as goal

pub loop-from-init : goal.loop-from-init
loop-from-init c =
    let a = c.args in starts a.text.now a.at c.run_end-next.ensures

pub returns-in_err-from : goal.returns-in_err-from
returns-in_err-from c =
    λ name.
    let a = c.args in
    let s = a.text.now in
    let failed : is_ok c.attribute_end.result ≡ false = search rules in
    let none = broken-there s c.loop-from.next c.attribute_end.result c.attribute_end.ensures failed in
    misread-tag s a.at name _ c.from_residual.ensures.0 (misread-at s a.at c.loop-from.invariant c.begins.ensures c.loop-from-test.true none)

pub overflow_add-count : goal.overflow_add-count
overflow_add-count c =
    let s = c.args.text.now in
    let ended : c.attribute_end.result ≡ Ok c.in_ok-from.from = search rules in
    let one = ended-there s c.loop-from.next c.attribute_end.ensures ended in
    omega (arith, one.2, one.3, c.loop-from.invariant.few, c.loop-from.invariant.next-is)

pub loop-from-smaller : goal.loop-from-smaller
loop-from-smaller c =
    let s = c.args.text.now in
    let ended : c.attribute_end.result ≡ Ok c.in_ok-from.from = search rules in
    let one = ended-there s c.loop-from.next c.attribute_end.ensures ended in
    omega (arith, one.2, one.3, c.loop-from.invariant.next-is)

pub loop-from-preserved : goal.loop-from-preserved
loop-from-preserved c =
    let a = c.args in
    let s = a.text.now in
    let ended : c.attribute_end.result ≡ Ok c.in_ok-from.from = search rules in
    let one = ended-there s c.loop-from.next c.attribute_end.ensures ended in
    goes_on
    s
    a.at
    c.loop-from.invariant
    c.begins.ensures
    c.loop-from-test.true
    one.0
    one.1
    one.2
    one.3
    c.run_end-next-in-loop-from.ensures

pub returns : goal.returns
returns c =
    λ name.
    let g = c.loop-from.invariant in
    let a = c.args in
    let s = a.text.now in
    c.ending.ensures name g.done (run is_space (drop c.loop-from.from s)) (omega (arith, g.behind, g.next-is))
    (all_read s a.at g c.begins.ensures c.loop-from-test.false)
    g.counted
