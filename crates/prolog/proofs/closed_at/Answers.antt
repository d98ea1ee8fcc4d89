-- `prolog::closed_at` meets its contract: each way out is a law about the bytes behind the white space. Assumes nothing.
use mathlib.Core.Path.{sym, ◌∙◌}
use Prim.Native.Nat.{◌+◌}
use native.Mathlib.Omega.{arith}
use Rattle.xml.proofs.Places.{byte-within}
use Rattle.prolog.proofs.Closing.{no-question, no-greater, closes}
use Rattle.prolog.proofs.closed_at.Goals as goal

pub returns-then-byte-ne63 : goal.returns-then-byte-ne63
returns-then-byte-ne63 c =
    let a = c.args in
    no-question a.text.now a.at c.run_end-end.ensures c.byte.ensures c.if-byte-ne63.true

pub overflow_add-end : goal.overflow_add-end
overflow_add-end c =
    let a = c.args in
    omega (arith, byte-within a.text.now c.run_end-end.result 63 (sym c.byte.ensures ∙ c.if-byte-ne63.false) (omega arith))

pub returns-then-byte-ne62 : goal.returns-then-byte-ne62
returns-then-byte-ne62 c =
    let a = c.args in
    no-greater
    a.text.now
    a.at
    c.run_end-end.ensures
    c.byte.ensures
    c.if-byte-ne63.false
    c.byte-2.ensures
    c.if-byte-ne62.true

pub overflow_add-result : goal.overflow_add-result
overflow_add-result c =
    let a = c.args in
    omega (arith, byte-within a.text.now (c.run_end-end.result + 1) 62 (sym c.byte-2.ensures ∙ c.if-byte-ne62.false) (omega arith))

pub returns : goal.returns
returns c =
    let a = c.args in
    closes
    a.text.now
    a.at
    c.run_end-end.ensures
    c.byte.ensures
    c.if-byte-ne63.false
    c.byte-2.ensures
    c.if-byte-ne62.false
