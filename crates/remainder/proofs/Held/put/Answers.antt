-- `remainder::Held::put` meets its contract. Assumes nothing.
use mathlib.Core.Path.{refl, ◌∙◌, ap}
use Prim.Native.Nat.{ℕ, ◌+◌, ◌*◌, ◌/◌, ◌^◌, ◌<◌}
use native.Mathlib.Omega.{arith}
use borrow.Author.Rules.{rules}
use Rattle.remainder.proofs.Joining.{behind-fits, group-fits, held-taken}
use Rattle.remainder.proofs.Held.put.Goals.{After-power_of-2}
use Rattle.remainder.proofs.Held.put.Goals as goal

-- the group that is whole
group-small : (c : After-power_of-2)
    → let a = c.args in
    a.self.number * c.power_of-2.result + a.number / c.power_of-power.result < 10 ^ 7
group-small c =
    let a = c.args in
    group-fits a.self a.number a.digits c.requires.0 (omega arith) c.requires.1 c.requires.2
    c.power_of-power.ensures.0 c.power_of-2.ensures.0

pub behind-requires : goal.behind-requires
behind-requires c =
    let a = c.args in
    behind-fits a.self.number a.number a.self.digits a.digits c.power_of.ensures.0 c.requires.0.number
    c.requires.2 (omega arith)

pub behind-group-requires : goal.behind-group-requires
behind-group-requires c =
    group-small c

pub carry-requires : goal.carry-requires
carry-requires c =
    (c.requires.0.carried, search rules, rw c.behind-group.ensures (group-small (goal.at.carry-requires c).After-power_of-2))

pub returns : goal.returns
returns c =
    let a = c.args in
    held-taken a.self a.number a.digits c.requires.0 (omega arith) c.power_of-power.ensures.0 refl
    (c.behind-group.ensures
    ∙ ap (λ (p : ℕ). a.self.number * p + a.number / c.power_of-power.result) c.power_of-2.ensures.0)
    c.carry.ensures.0
