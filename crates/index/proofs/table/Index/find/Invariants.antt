-- What is left of the search stands below `at`. Assumes nothing.
use Rattle.std.proofs.Common.{ℕ}
use Rattle.fields.specs.Text.{same}
use Rattle.index.specs.RowChains.{row_bucket, row_at}
use Rattle.index.proofs.AlongChain.{LeftBelow}
use Rattle.index.proofs.table.Index.find.Given as goal

abbrev pub invariant-loop-at : goal.invariant-loop-at
invariant-loop-at g l =
    LeftBelow (row_bucket l.words) (λ (i : ℕ). row_bucket (row_at l.self-inside.rows i)) (λ (i : ℕ). same (row_at l.self-inside.rows i) l.words)
    l.self-inside.count l.at

abbrev pub decreases-loop-at : goal.decreases-loop-at
decreases-loop-at g l = l.at
