-- `remainder::by_97` meets its contract. Assumes nothing.
use native.Mathlib.Omega.{arith}
use Rattle.remainder.proofs.Quotient.{quotient}
use Rattle.remainder.proofs.by_97.Goals as goal

pub returns : goal.returns
returns c =
    omega (arith, quotient c.args.n c.requires)
