-- `repeats::attributes::behind` meets its contract. Assumes nothing.
use native.Mathlib.Omega.{arith}
use mathlib.Core.Path.{◌∙◌}
use Rattle.repeats.proofs.Placing.{equals-most, quote-most, close-most, attribute-past}
use Rattle.repeats.proofs.attributes.behind.Goals as goal

pub overflow_add-equals : goal.overflow_add-equals
overflow_add-equals c =
    let most = equals-most c.args.s.now _ _ _ c.run_end-name.ensures c.run_end.ensures c.run_end-equals.ensures in
    omega (arith, most)

pub overflow_add-quote : goal.overflow_add-quote
overflow_add-quote c =
    let most =
    quote-most c.args.s.now _ _ _ c.run_end-name.ensures c.run_end.ensures c.run_end-equals.ensures c.run_end-quote.ensures
    in
    omega (arith, most)

pub overflow_add-close : goal.overflow_add-close
overflow_add-close c =
    let most =
    close-most c.args.s.now _ _ _ c.run_end-name.ensures c.run_end.ensures c.run_end-equals.ensures c.run_end-quote.ensures
    c.run_end-close.ensures
    in
    omega (arith, most)

pub returns : goal.returns
returns c =
    c.from_place.ensures
    ∙ attribute-past c.args.s.now _ _ c.run_end-name.ensures c.run_end.ensures _ _ _ c.run_end-equals.ensures c.run_end-quote.ensures
    c.run_end-close.ensures
