-- `tags::ending` meets its contract: each way out is a law about the bytes behind the attributes. Assumes nothing.
use mathlib.Core.Path.{sym, ◌∙◌}
use Prim.Native.Nat.{◌+◌}
use native.Mathlib.Omega.{arith}
use Rattle.xml.proofs.Places.{byte-within}
use Rattle.tags.proofs.TagEnds.{repeated-tag, opening, neither, closing, slashed}
use Rattle.tags.specs.declared.TagFault.TheVariants.{Broken, Repeated}
use Rattle.tags.proofs.ending.Goals as goal

pub returns-then-repeated : goal.returns-then-repeated
returns-then-repeated c =
    λ name more space behind read counted.
    let a = c.args in
    repeated-tag a.text.now a.at a.end c.repeated.ensures name more space behind read counted (Repeated a.end) c.if-repeated.true

pub overflow_add-result : goal.overflow_add-result
overflow_add-result c =
    let a = c.args in
    omega (arith, byte-within a.text.now a.end 62 (sym c.byte-b.ensures ∙ c.if-b-eq62.true) (omega arith))

pub returns-then-b-eq62 : goal.returns-then-b-eq62
returns-then-b-eq62 c =
    λ name more space behind read counted.
    let a = c.args in
    opening a.text.now a.at a.end c.repeated.ensures name more space behind read counted c.if-repeated.false c.byte-b.ensures c.if-b-eq62.true

pub returns-then-b-ne47 : goal.returns-then-b-ne47
returns-then-b-ne47 c =
    λ name more space behind read counted.
    let a = c.args in
    neither a.text.now a.at a.end c.repeated.ensures name more space behind read counted c.if-repeated.false c.byte-b.ensures (Broken a.end) c.if-b-eq62.false c.if-b-ne47.true

pub overflow_add-end : goal.overflow_add-end
overflow_add-end c =
    let a = c.args in
    omega (arith, byte-within a.text.now a.end 47 (sym c.byte-b.ensures ∙ c.if-b-ne47.false) (omega arith))

pub returns-then-byte-ne62 : goal.returns-then-byte-ne62
returns-then-byte-ne62 c =
    λ name more space behind read counted.
    let a = c.args in
    slashed a.text.now a.at a.end c.repeated.ensures name more space behind read counted c.if-repeated.false c.byte-b.ensures c.if-b-ne47.false c.byte.ensures (Broken a.end) c.if-byte-ne62.true

pub overflow_add-result-2 : goal.overflow_add-result-2
overflow_add-result-2 c =
    let a = c.args in
    omega (arith, byte-within a.text.now (a.end + 1) 62 (sym c.byte.ensures ∙ c.if-byte-ne62.false) (omega arith))

pub returns : goal.returns
returns c =
    λ name more space behind read counted.
    let a = c.args in
    closing a.text.now a.at a.end c.repeated.ensures name more space behind read counted c.if-repeated.false c.byte-b.ensures c.if-b-ne47.false c.byte.ensures c.if-byte-ne62.false
