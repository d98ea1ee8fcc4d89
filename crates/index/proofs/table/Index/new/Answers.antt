use Rattle.std.proofs.Common.{arith}
use Rattle.fields.proofs.Chaining.{none-chained}
use Rattle.index.proofs.table.Index.new.Goals as goal

pub invariant_of-result : goal.invariant_of-result
invariant_of-result g c = (omega arith, c.requires, none-chained _ _ _)
