-- `sight::subjects::about` meets its contract. Assumes nothing.
use mathlib.Core.Path.{refl, sym, ◌∙◌}
use Rattle.rules.specs.declared.terms.Subject.TheVariants.{HeldOrder}
use Rattle.sight.proofs.Seeing.{sight-malformed, sight-formed}
use Rattle.sight.proofs.subjects.about.Goals as goal

pub returns-in_default : goal.returns-in_default
returns-in_default c clock route =
    let a = c.args in
    sym (sight-malformed clock a.t.now a.sender a.order route (sym c.about.ensures ∙ c.in_default.is))

pub returns : goal.returns
returns c clock route =
    let a = c.args in
    sym (sight-formed clock a.t.now a.sender a.order route HeldOrder a.kind c.requires.0 refl _
    (sym c.about.ensures ∙ c.in-Some.is))
