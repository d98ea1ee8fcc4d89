-- `tags::tag_end` meets its contract. Assumes nothing.
use mathlib.Core.Path.{sym, ◌∙◌}
use native.Mathlib.Omega.{arith}
use Rattle.xml.proofs.Places.{byte-within}
use Rattle.tags.proofs.TagEnds.{short-tag}
use Rattle.tags.proofs.tag_end.Goals as goal

pub overflow_add-result : goal.overflow_add-result
overflow_add-result c =
    let a = c.args in
    omega (arith, byte-within a.text.now a.at 62 (sym c.byte.ensures ∙ c.if-byte-eq62.true) (omega arith))

pub returns-then-byte-eq62 : goal.returns-then-byte-eq62
returns-then-byte-eq62 c =
    λ name. short-tag c.args.text.now c.args.at name c.byte.ensures c.if-byte-eq62.true

pub returns : goal.returns
returns c =
    c.long_tag_end.ensures
