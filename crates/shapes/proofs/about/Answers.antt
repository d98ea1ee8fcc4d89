-- `shapes::about` meets its contract. Assumes nothing.
use mathlib.Core.Path.{sym, ap}
use Rattle.rules.specs.declared.terms.Subject.TheVariants.{HeldOrder}
use Rattle.shapes.specs.declared.amounts.Amounts.{Amounts}
use Rattle.shapes.specs.Amounts.{amounts_of}
use Rattle.shapes.proofs.Forms.{then-cond, about-formed, shape_is}
use Rattle.shapes.proofs.about.Goals as goal

pub returns : goal.returns
unfolding amounts_of
returns c =
    let t = c.args.t.now in
    simp (
      c.then_some.ensures,
      then-cond,
      c.zero_u16_at-spare.ensures,
      ap (λ (x : Amounts). x.most) c.amounts_of-amounts.ensures,
      c.zero_u64_at.ensures,
      c.sender-sender.ensures,
      c.key-key.ensures,
      c.from_iban-rest.ensures,
    )
    (sym (shape_is HeldOrder c.args.kind t c.requires.0 _ (about-formed c.args.kind t c.requires.0.names)))
