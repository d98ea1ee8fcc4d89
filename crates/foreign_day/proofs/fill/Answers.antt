-- `foreign_day::fill` meets its contract: as many bytes as there are and there is room for. Assumes nothing.
use Rattle.std.specs.Prelude.{ℕ, List, ◌++◌, drop}
use mathlib.Core.Path.{◌∙◌, ap}
use Rattle.foreign_day.proofs.LentText.{lent-both}
use Rattle.foreign_day.proofs.fill.Goals as goal

pub returns : goal.returns
returns c =
    let a = c.args in
    let n = c.min-n.result in
    ap (λ (t : List ℕ). t ++ drop n a.room.now) c.copy_from_slice.ensures.after
    ∙ lent-both a.piece.now a.room.now n c.min-n.ensures
