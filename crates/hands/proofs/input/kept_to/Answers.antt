-- `hands::input::kept_to` meets its contract. Assumes nothing.
use Rattle.hands.proofs.Kept.{kept_from}
use Rattle.hands.proofs.input.kept_to.Goals as goal

pub returns-clause-kept : goal.returns-clause-kept
returns-clause-kept c = kept_from c.args.buffer.now c.args.from c.args.fill c.kept.result c.kept.ensures.before
