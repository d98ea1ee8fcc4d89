-- `scan::attributes::attribute_at` meets its contract: each way out is a law about the parts of an attribute. Assumes nothing.
use Rattle.std.proofs.Common.{ap, not, rules, ◌≡◌, false, Ok, is_ok}
use Rattle.scan.proofs.AttributeParts.{no_name, no_value, no-close, is_one}
use Rattle.scan.proofs.attributes.attribute_at.Goals as goal

pub returns-then-not-begins : goal.returns-then-not-begins
returns-then-not-begins c =
    let a = c.args in
    no_name a.text.now a.at c.run_end-name.ensures c.begins.ensures (ap not c.if-not-begins.true)

pub returns-in_err-value : goal.returns-in_err-value
returns-in_err-value c =
    let a = c.args in
    let failed : is_ok c.value_at.result ≡ false = search rules in
    rw c.from_residual.ensures
    (no_value a.text.now a.at c.run_end-name.ensures c.begins.ensures (ap not c.if-not-begins.false) c.value_at.result c.value_at.ensures failed)

pub returns-then-byte-ne34 : goal.returns-then-byte-ne34
returns-then-byte-ne34 c =
    let a = c.args in
    let valued : c.value_at.result ≡ Ok c.in_ok-value.value = search rules in
    no-close
    a.text.now
    a.at
    c.run_end-name.ensures
    c.begins.ensures
    (ap not c.if-not-begins.false)
    c.value_at.ensures
    valued
    c.run_end-close.ensures
    c.byte.ensures
    c.if-byte-ne34.true

pub returns : goal.returns
returns c =
    let a = c.args in
    let valued : c.value_at.result ≡ Ok c.in_ok-value.value = search rules in
    is_one
    a.text.now
    a.at
    c.run_end-name.ensures
    c.begins.ensures
    (ap not c.if-not-begins.false)
    c.value_at.ensures
    valued
    c.run_end-close.ensures
    c.byte.ensures
    c.if-byte-ne34.false
    c.run_end-end.ensures
