use mathlib.Core.Path.{◌≡◌}
use native.Mathlib.Numerals.{add-one}
use native.Mathlib.Omega.{arith}
use Rattle.lines.proofs.WritingParts.{filled_none, filled-behind}
use borrow.Author.Rules.{rules}
use Rattle.lines.proofs.tickets.put_reports.Goals as goal

pub loop-i-init : goal.loop-i-init
loop-i-init c =
    let a = c.args in (search rules, filled_none a.text.now a.at, search rules)

pub put_report_line-end-requires : goal.put_report_line-end-requires
put_report_line-end-requires c =
    let kept = c.loop-i.invariant.1.kept in omega arith

pub loop-i-preserved : goal.loop-i-preserved
loop-i-preserved c =
    let w = rw c.report_at.ensures at c.put_report_line-end.ensures.0 in
    (search rules, rw (add-one c.loop-i.i) (filled-behind c.loop-i.invariant.1 w c.put_report_line-end.auto.text), search rules)

pub shape_of-text : goal.shape_of-text
shape_of-text c =
    c.loop-i.invariant.1.kept

pub returns : goal.returns
returns c =
    let all : c.loop-i.i ≡ c.args.n = search rules in
    (rw (← all) c.loop-i.invariant.1.written, search rules)
