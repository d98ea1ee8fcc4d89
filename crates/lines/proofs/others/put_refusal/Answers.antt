-- `lines::others::put_refusal` meets its contract. Assumes nothing.
use native.Mathlib.Omega.{arith}
use Rattle.lines.proofs.Longest.{refusal-line-most}
use borrow.Author.Rules.{rules}
use Rattle.lines.proofs.others.put_refusal.Goals as goal

pub put_line-requires : goal.put_line-requires
put_line-requires c =
    let a = c.args in let most = refusal-line-most a.refusal (search rules) in omega arith

pub returns : goal.returns
returns c =
    let a = c.args in
    let most = refusal-line-most a.refusal (search rules) in
    let e = c.put_line.ensures.end in
    (c.put_line.ensures, omega arith)
