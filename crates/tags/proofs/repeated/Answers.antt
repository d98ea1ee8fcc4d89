-- `tags::repeated` meets its contract. Assumes nothing.
use Rattle.tags.proofs.TagEnds.{few-distinct}
use Rattle.tags.proofs.repeated.Goals as goal

pub returns-then-few : goal.returns-then-few
returns-then-few c =
    λ fuel more space z read counted. few-distinct more counted c.if-few.true
