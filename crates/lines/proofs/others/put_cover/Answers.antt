-- `lines::others::put_cover` meets its contract. Assumes nothing.
use native.Mathlib.Omega.{arith}
use Rattle.lines.proofs.Longest.{cover-line-most}
use Rattle.lines.proofs.others.put_cover.Goals as goal

pub put_line-requires : goal.put_line-requires
put_line-requires c =
    let a = c.args in let most = cover-line-most a.p a.c in omega arith

pub returns : goal.returns
returns c =
    let a = c.args in
    let most = cover-line-most a.p a.c in
    let e = c.put_line.ensures.end in
    (c.put_line.ensures, omega arith)
