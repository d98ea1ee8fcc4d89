-- `sight::subjects::order` meets its contract. Assumes nothing.
use Rattle.std.specs.Prelude.{Some}
use mathlib.Core.Path.{◌≡◌, sym, ◌∙◌}
use Rattle.ticket.specs.Shape.{shape_of}
use Rattle.ticket.specs.declared.kinds.Kind.TheVariants.{Order}
use Rattle.rules.specs.declared.terms.Subject.TheVariants.{NewOrder}
use Rattle.shapes.proofs.Forms.{formed-kind}
use Rattle.sight.proofs.Seeing.{sight-malformed, sight-wrong, sight-named}
use Rattle.sight.proofs.subjects.order.Goals.{In-Some}
use Rattle.sight.proofs.subjects.order.Goals as goal

-- 7 passed
formed : (c : In-Some) → shape_of c.args.t.now ≡ Some Order
formed c =
    formed-kind NewOrder Order c.args.t.now c.requires.0 _ (sym c.order.ensures ∙ c.in-Some.is)

pub returns-in_default : goal.returns-in_default
returns-in_default c clock =
    let a = c.args in
    sym (sight-malformed clock a.t.now a.sender a.order a.route (sym c.order.ensures ∙ c.in_default.is))

pub returns-in_default-account : goal.returns-in_default-account
returns-in_default-account c clock =
    let a = c.args in
    sym (sight-wrong clock a.t.now a.sender a.order a.route Order (formed (goal.at.returns-in_default-account c).In-Some)
    (sym c.account.ensures ∙ c.in_default-account.is))

pub returns : goal.returns
returns c clock =
    let a = c.args in
    sym (sight-named clock a.t.now a.sender a.order a.route Order (formed (goal.at.returns c).In-Some)
    (sym c.account.ensures ∙ c.in-Named.is))
