-- `tags::attribute_end` meets its contract. Assumes nothing.
use Rattle.std.proofs.Common.{rules, ◌≡◌, Ok, is_ok, false, sym, ◌∙◌}
use native.Mathlib.Omega.{arith}
use Rattle.xml.proofs.Places.{byte-within}
use Rattle.scan.proofs.AttributeParts.{not-valued, not-closed}
use Rattle.tags.proofs.Attributes.{ends-behind, not_ended}
use Rattle.tags.proofs.attribute_end.Goals as goal

pub returns-in_err-value : goal.returns-in_err-value
returns-in_err-value c =
    let a = c.args in
    let failed : is_ok c.value_at.result ≡ false = search rules in
    not_ended a.text.now a.at _ c.from_residual.ensures.0 (not-valued a.text.now a.at c.value_at.result c.value_at.ensures failed)

pub returns-then-byte-ne34 : goal.returns-then-byte-ne34
returns-then-byte-ne34 c =
    let a = c.args in
    let valued : c.value_at.result ≡ Ok c.in_ok-value.value = search rules in
    not-closed
    a.text.now
    a.at
    c.value_at.ensures
    valued
    c.run_end-close.ensures
    c.byte.ensures
    c.if-byte-ne34.true

pub overflow_add-result : goal.overflow_add-result
overflow_add-result c =
    let a = c.args in
    omega (arith, byte-within a.text.now c.run_end-close.result 34 (sym c.byte.ensures ∙ c.if-byte-ne34.false) (omega arith))

pub returns : goal.returns
returns c =
    let a = c.args in
    let valued : c.value_at.result ≡ Ok c.in_ok-value.value = search rules in
    ends-behind
    a.text.now
    a.at
    c.value_at.ensures
    valued
    c.run_end-close.ensures
    c.byte.ensures
    c.if-byte-ne34.false
