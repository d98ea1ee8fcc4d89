-- `remainder::Held::ended` meets its contract. Assumes nothing.
use native.Mathlib.Omega.{arith}
use Rattle.remainder.proofs.Joining.{last_taken}
use Rattle.remainder.proofs.Held.ended.Goals as goal

pub returns : goal.returns
returns c =
    last_taken c.args.self (λ none. omega (arith, none)) c.power_of.ensures.0 c.carry.ensures.0
