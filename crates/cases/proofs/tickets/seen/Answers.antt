-- `cases::tickets::seen` is safe: no rows at all may be lent to a search. Assumes nothing.
use Rattle.std.proofs.Common.{sym, subst, lit<}
use Rattle.index.specs.LentRows.{BicRows, KeyRows}
use Rattle.cases.proofs.Empty.{no-bics, no_keys}
use Rattle.cases.proofs.tickets.seen.Goals as goal

pub see-requires : goal.see-requires
see-requires c = (
  lit< tt,
  (
    lit< tt,
    (
      lit< tt,
      (
        c.if-t-ne-LENGTH.false,
        subst BicRows (sym c.new.ensures) no-bics,
        subst KeyRows (sym c.new-2.ensures) no_keys,
        subst BicRows (sym c.new-3.ensures) no-bics,
      ),
    ),
  ),
)
