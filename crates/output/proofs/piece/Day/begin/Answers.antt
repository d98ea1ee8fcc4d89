-- `output::piece::Day::begin` meets its contract. Assumes nothing.
use mathlib.Core.Path.{refl}
use Rattle.output.proofs.Piecewise.{begun-under}
use Rattle.output.proofs.piece.Day.begin.Goals as goal

pub returns : goal.returns
returns c = rw c.open-o.ensures.opened (refl, begun-under c.args.file.now)
