-- `repeats::attributes::name_in` meets its contract. Assumes nothing.
use native.Mathlib.Omega.{arith}
use mathlib.Core.Path.{refl}
use Rattle.repeats.proofs.Placing.{name-most, name-part}
use Rattle.repeats.proofs.attributes.name_in.Goals as goal

pub slice_bounds-result-end : goal.slice_bounds-result-end
slice_bounds-result-end c =
    let most = name-most c.args.s.now _ _ _ c.run_end-from.ensures c.run_end-end.ensures refl in
    omega (arith, most.1)

pub returns : goal.returns
returns c =
    name-part c.args.s.now _ _ c.run_end-from.ensures c.run_end-end.ensures
