-- `foreign_day::put_piece` meets its contract. Assumes nothing.
use Rattle.foreign_day.proofs.LentText.{lent-rest, lent-beyond}
use Rattle.foreign_day.proofs.put_piece.Goals as goal

pub returns-then-at-text : goal.returns-then-at-text
returns-then-at-text c = let a = c.args in lent-rest a.at a.piece.now a.text.now _ c.fill.ensures

pub returns-else-at-text : goal.returns-else-at-text
returns-else-at-text c = let a = c.args in lent-beyond a.at a.piece.now a.text.now c.if-at-text.false
