-- `lines::decimal::digits` meets its contract. The loop's invariant: the number has as many digits as left, and k - 1 more.
-- Assumes nothing.
use mathlib.Core.Path.{◌≡◌}
use Prim.Native.Nat.{◌+◌, ◌^◌, ◌<◌}
use lib.ListN.{length}
use Rattle.rules.specs.Program.{decimal}
use Rattle.lines.proofs.decimal.digits.Given as goal

abbrev pub invariant-loop-left : goal.invariant-loop-left
invariant-loop-left l = (l.left < 10 ^ 20) × (l.k + length (decimal l.left) ≡ length (decimal l.n) + 1)

abbrev pub decreases-loop-left : goal.decreases-loop-left
decreases-loop-left l = l.left
