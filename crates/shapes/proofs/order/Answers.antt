-- `shapes::order` meets its contract. Assumes nothing.
use mathlib.Core.Path.{sym}
use Rattle.fields.proofs.Zeros.{blank-one}
use Rattle.ticket.specs.declared.kinds.Kind.TheVariants.{Order}
use Rattle.rules.specs.declared.terms.Subject.TheVariants.{NewOrder}
use Rattle.shapes.proofs.Forms.{then-cond, order-formed, shape_is}
use borrow.Author.Rules.{rules}
use Rattle.shapes.proofs.order.Goals as goal

pub returns : goal.returns
returns c =
    let t = c.args.t.now in
    let last = blank-one 107 t (search rules) in
    simp (c.then_some.ensures, then-cond, c.zero_u16_at-spare.ensures, c.sender-sender.ensures, c.payee-payee.ensures, c.txid-txid.ensures, sym last)
    (sym (shape_is NewOrder Order t c.requires.0 _ (order-formed t)))
