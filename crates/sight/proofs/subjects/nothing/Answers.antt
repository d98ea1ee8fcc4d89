-- `sight::subjects::nothing` meets its contract. Assumes nothing.
use mathlib.Core.Path.{refl, sym, ◌∙◌}
use Rattle.rules.specs.declared.terms.Subject.TheVariants.{Nothing}
use Rattle.sight.proofs.Seeing.{sight-malformed, sight-formed}
use Rattle.sight.proofs.subjects.nothing.Goals as goal

pub returns-in_default : goal.returns-in_default
returns-in_default c clock sender order route =
    let a = c.args in
    sym (sight-malformed clock a.t.now sender order route (sym c.nothing.ensures ∙ c.in_default.is))

pub returns : goal.returns
returns c clock sender order route =
    let a = c.args in
    sym (sight-formed clock a.t.now sender order route Nothing a.kind c.requires refl _
    (sym c.nothing.ensures ∙ c.in-Some.is))
