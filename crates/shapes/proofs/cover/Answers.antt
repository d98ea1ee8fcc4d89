-- `shapes::cover` meets its contract. Assumes nothing.
use mathlib.Core.Path.{sym}
use Rattle.rules.specs.declared.terms.Subject.TheVariants.{Sender}
use Rattle.shapes.proofs.Forms.{then-cond, cover-formed, shape_is}
use Rattle.shapes.proofs.cover.Goals as goal

pub returns : goal.returns
returns c =
    let t = c.args.t.now in
    simp (c.then_some.ensures, then-cond, c.zero_u16_at-spare.ensures, c.sender-sender.ensures, c.from_payee-rest.ensures)
    (sym (shape_is Sender c.args.kind t c.requires.0 _ (cover-formed c.args.kind t c.requires.0.names)))
