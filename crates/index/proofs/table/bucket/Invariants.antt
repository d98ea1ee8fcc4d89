-- The words left, added to the sum, are all words added up. Assumes nothing.
use Rattle.std.proofs.Common.{◌≡◌, drop}
use Rattle.index.specs.RowChains.{added_to}
use Rattle.index.proofs.table.bucket.Given as goal

abbrev pub invariant-loop-w : goal.invariant-loop-w
invariant-loop-w g l = added_to l.sum (drop l.w-index l.words) ≡ added_to 0 l.words
