use Rattle.std.proofs.Common.{◌∙◌, length, ap, lit<, arith}
use Rattle.index.proofs.RowsOf.{length-of}
use Rattle.index.proofs.put_bics.Goals as goal

pub push-requires : goal.push-requires
push-requires c =
    let made = ap length c.loop-p.invariant.1 ∙ length-of _ c.loop-p.p in
    let few = c.requires.formed.0 in
    (lit< tt, (lit< tt, omega arith))
