-- `routes::follow` meets its contract: each way through it is one row of the definition. Assumes nothing.
use Rattle.std.proofs.Common.{sym, ap, ◌∙◌, arith}
use Rattle.dayfile.specs.Route.{one_more, target_in}
use Rattle.dayfile.proofs.Following.{followed-out, followed-rows, follows_to, follows-row, follows-none}
use Rattle.routes.proofs.+follow.Goals as goal

-- there is no such row
pub returns-then-row-ge64 : goal.returns-then-row-ge64
returns-then-row-ge64 t c = sym (followed-out (target_in c.args.routes.now) c.args.row c.if-row-ge64.true)

-- it leads to a participant
pub returns-in-To : goal.returns-in-To
returns-in-To t c =
    sym (follows_to (target_in c.args.routes.now) c.args.row c.if-row-ge64.false c.in-To.p c.in-To.is)

-- it goes on from no earlier one
pub returns-then-row-k : goal.returns-then-row-k
returns-then-row-k t c =
    sym (follows-none (target_in c.args.routes.now) c.args.row c.if-row-ge64.false c.in-Row.k c.in-Row.is c.if-row-k.true)

-- it goes on from an earlier one, and what was found from there
pub returns-in_err-way-in-Row : goal.returns-in_err-way-in-Row
returns-in_err-way-in-Row t c =
    c.from_residual.ensures
    ∙ ap one_more c.in_err-way-in-Row.ensures
    ∙ sym (follows-row (target_in c.args.routes.now) c.args.row c.if-row-ge64.false c.in-Row.k c.in-Row.is c.if-row-k.false)

pub overflow_add-result : goal.overflow_add-result
overflow_add-result t c =
    let r = followed-rows (target_in c.args.routes.now) c.in-Row.k c.in_ok-way-in-Row.way (sym c.in_ok-way-in-Row.ensures) in
    omega arith

pub returns-in_ok-way-in-Row : goal.returns-in_ok-way-in-Row
returns-in_ok-way-in-Row t c =
    ap one_more c.in_ok-way-in-Row.ensures
    ∙ sym (follows-row (target_in c.args.routes.now) c.args.row c.if-row-ge64.false c.in-Row.k c.in-Row.is c.if-row-k.false)
