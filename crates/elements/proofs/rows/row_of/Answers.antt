-- `elements::rows::row_of` meets its contract. Assumes nothing.
use Rattle.std.proofs.Common.{◌∙◌, ap}
use mathlib.Core.Bool.{Bool, cond}
use Rattle.elements.proofs.ByParent.{row-found, skipped-holds, beyond-holds, root-named}
use Rattle.elements.proofs.rows.row_of.Goals as goal

pub returns-in-Skipped : goal.returns-in-Skipped
returns-in-Skipped c = rw c.in-Skipped.is (row-found _ _ _ (skipped-holds c.args.name.now))

pub returns-in-Named : goal.returns-in-Named
returns-in-Named c = rw c.in-Named.is (row-found _ _ _ c.row_in.ensures)

pub returns-in-Outside : goal.returns-in-Outside
returns-in-Outside c =
    rw c.in-Outside.is
    (row-found _ _ _ (c.only.ensures ∙ ap (λ (b : Bool). cond b 0 17) c.same_bytes.ensures ∙ root-named c.args.name.now))

pub returns-in-Other : goal.returns-in-Other
returns-in-Other c = rw c.in-Other.is (row-found _ _ _ (beyond-holds _ c.args.name.now))
