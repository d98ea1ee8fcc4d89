-- `lines::line::put_number` meets its contract. Assumes nothing.
use native.Mathlib.Omega.{arith}
use mathlib.Core.Path.{◌∙◌}
use lib.ListN.{length-set}
use Rattle.lines.proofs.WritingParts.{written_byte, written-more}
use Rattle.lines.proofs.line.put_number.Goals as goal

pub put_decimal-requires : goal.put_decimal-requires
put_decimal-requires c =
    simp length-set (omega arith)

pub shape_of-text : goal.shape_of-text
shape_of-text c =
    c.put_decimal.auto.text ∙ simp length-set

pub returns : goal.returns
returns c =
    let a = c.args in
    written-more (written_byte a.text.now a.at 32) c.put_decimal.ensures
