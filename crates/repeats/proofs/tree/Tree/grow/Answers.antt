use native.Mathlib.Omega.{arith}
use mathlib.Core.Path.{ap}
use lib.ListN.{length}
use Rattle.repeats.proofs.Placing.{behind_within}
use Rattle.repeats.proofs.tree.Tree.grow.Goals as goal

pub loop-i-preserved : goal.loop-i-preserved
loop-i-preserved c =
    (c.requires, omega (arith, ap length c.behind-rest.ensures, behind_within c.loop-i.rest.now, c.loop-i.invariant.1))
