-- `remainder::carry` meets its contract. Assumes nothing.
use Prim.Native.Nat.{◌*◌, ◌^◌, ◌≤◌}
use native.Mathlib.Nat.{mul-le-mul}
use native.Mathlib.Omega.{arith}
use Rattle.remainder.proofs.carry.Goals.{Start}
use Rattle.remainder.proofs.carry.Goals as goal

product : (c : Start) → c.args.carried * c.args.power ≤ 96 * 10 ^ 7
product c = mul-le-mul {n₁ = c.args.carried} {n₂ = 96} (omega arith) c.requires.1

pub overflow_mul-carried : goal.overflow_mul-carried
overflow_mul-carried c =
    omega (arith, product c)

pub overflow_add-carried : goal.overflow_add-carried
overflow_add-carried c =
    omega (arith, product c)

pub by_97-requires : goal.by_97-requires
by_97-requires c =
    omega (arith, product c)

pub returns : goal.returns
returns c =
    (c.by_97.ensures, omega (arith, c.by_97.ensures))
