-- `shapes::nothing` meets its contract. Assumes nothing.
use mathlib.Core.Path.{sym}
use Rattle.rules.specs.declared.terms.Subject.TheVariants.{Nothing}
use Rattle.shapes.proofs.Forms.{then-cond, nothing-formed, shape_is}
use Rattle.shapes.proofs.nothing.Goals as goal

pub returns : goal.returns
returns c =
    let t = c.args.t.now in
    simp (c.then_some.ensures, then-cond, c.zero_u16_at-spare.ensures, c.from_amount.ensures)
    (sym (shape_is Nothing c.args.kind t c.requires _ (nothing-formed c.args.kind t c.requires.names)))
