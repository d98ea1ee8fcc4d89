-- `lines::line::put_line` meets its contract. Assumes nothing.
use native.Mathlib.Omega.{arith}
use mathlib.Core.Path.{◌∙◌}
use lib.ListN.{length-set}
use Rattle.lines.proofs.WritingParts.{written_byte, written-more}
use Rattle.lines.proofs.line.put_line.Goals as goal

pub put_numbers-requires : goal.put_numbers-requires
put_numbers-requires c =
    simp length-set (omega arith)

pub shape_of-text : goal.shape_of-text
shape_of-text c =
    c.put_numbers.auto.text ∙ simp length-set

pub returns : goal.returns
returns c =
    let a = c.args in
    written-more (written_byte a.text.now a.at a.letter) c.put_numbers.ensures
