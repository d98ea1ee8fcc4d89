-- `sight::subjects::cover` meets its contract. Assumes nothing.
use mathlib.Core.Path.{refl, sym, ◌∙◌}
use Rattle.rules.specs.declared.terms.Subject.TheVariants.{Sender}
use Rattle.sight.proofs.Seeing.{sight-malformed, sight-formed}
use Rattle.sight.proofs.subjects.cover.Goals as goal

pub returns-in_default : goal.returns-in_default
returns-in_default c clock order route =
    let a = c.args in
    sym (sight-malformed clock a.t.now a.sender order route (sym c.cover.ensures ∙ c.in_default.is))

pub returns : goal.returns
returns c clock order route =
    let a = c.args in
    sym (sight-formed clock a.t.now a.sender order route Sender a.kind c.requires.0 refl _
    (sym c.cover.ensures ∙ c.in-Some.is))
