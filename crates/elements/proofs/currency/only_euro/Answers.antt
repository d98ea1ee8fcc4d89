-- `elements::currency::only_euro` meets its contract. Assumes nothing.
use native.Mathlib.Omega.{arith}
use Rattle.scan.proofs.AttributeParts.{there}
use Rattle.elements.proofs.EuroRead.{none-there, one-there}
use Rattle.elements.proofs.currency.only_euro.Goals as goal

pub returns-in_default : goal.returns-in_default
returns-in_default c = λ fuel more space z read.
    none-there c.args.text.now c.args.at c.attribute_at.ensures fuel more space z read c.in_default.is

pub overflow_add-rest : goal.overflow_add-rest
overflow_add-rest c =
    let a = c.args in
    let h = there a.text.now a.at c.attribute_at.ensures c.in-Some.is in
    omega (arith, h.within)

pub three-named-requires : goal.three-named-requires
three-named-requires c =
    let a = c.args in
    let h = there a.text.now a.at c.attribute_at.ensures c.in-Some.is in
    (h.name-ends, h.name-within)

pub three-valued-requires : goal.three-valued-requires
three-valued-requires c =
    let a = c.args in
    let h = there a.text.now a.at c.attribute_at.ensures c.in-Some.is in
    (h.value-ends, omega (arith, h.within))

pub returns : goal.returns
returns c = λ fuel more space z read.
    one-there
    c.args.text.now
    c.args.at
    c.attribute_at.ensures
    fuel
    more
    space
    z
    read
    c.in-Some.is
    c.run_end.ensures
    c.three-named.ensures
    c.three-valued.ensures
    c.begins.ensures
