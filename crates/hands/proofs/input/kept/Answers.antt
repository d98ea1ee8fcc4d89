-- `hands::input::kept` meets its contract. Assumes nothing.
use Rattle.hands.proofs.Kept.{kept_before, other_at}
use Rattle.hands.proofs.input.kept.Goals as goal

pub returns-clause-before : goal.returns-clause-before
returns-clause-before c =
    kept_before c.args.bytes.now c.args.fill c.unwrap_or.result c.first_other.result c.unwrap_or.ensures c.first_other.ensures

pub returns-clause-other : goal.returns-clause-other
returns-clause-other c =
    other_at c.args.bytes.now c.args.fill c.unwrap_or.result c.first_other.result c.unwrap_or.ensures c.first_other.ensures
