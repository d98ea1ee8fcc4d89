-- `scan::attributes::value_at` meets its contract: each test is one of the definition's, at the place where the part before it ends.
-- Assumes nothing.
use mathlib.Core.Path.{sym, ◌∙◌}
use native.Mathlib.Omega.{arith}
use Rattle.xml.proofs.Places.{byte-within}
use Rattle.scan.proofs.AttributeParts.{no-equals, no-quote, value-begins}
use Rattle.scan.proofs.attributes.value_at.Goals as goal

pub returns-then-byte-ne61 : goal.returns-then-byte-ne61
returns-then-byte-ne61 c =
    let a = c.args in
    no-equals a.text.now a.at c.run_end.ensures c.run_end-equals.ensures c.byte.ensures c.if-byte-ne61.true

pub overflow_add-equals : goal.overflow_add-equals
overflow_add-equals c =
    let a = c.args in
    omega (arith, byte-within a.text.now c.run_end-equals.result 61 (sym c.byte.ensures ∙ c.if-byte-ne61.false) (omega arith))

pub returns-then-byte-ne34 : goal.returns-then-byte-ne34
returns-then-byte-ne34 c =
    let a = c.args in
    no-quote
    a.text.now
    a.at
    c.run_end.ensures
    c.run_end-equals.ensures
    c.byte.ensures
    c.if-byte-ne61.false
    c.run_end-quote.ensures
    c.byte-2.ensures
    c.if-byte-ne34.true

pub overflow_add-result : goal.overflow_add-result
overflow_add-result c =
    let a = c.args in
    omega (arith, byte-within a.text.now c.run_end-quote.result 34 (sym c.byte-2.ensures ∙ c.if-byte-ne34.false) (omega arith))

pub returns : goal.returns
returns c =
    let a = c.args in
    value-begins
    a.text.now
    a.at
    c.run_end.ensures
    c.run_end-equals.ensures
    c.byte.ensures
    c.if-byte-ne61.false
    c.run_end-quote.ensures
    c.byte-2.ensures
    c.if-byte-ne34.false
