use mathlib.Core.Path.{◌∙◌, ap}
use mathlib.Core.List.{List}
use Prim.Native.Nat.{◌+◌, ◌*◌, ◌≤◌}
use native.Mathlib.Omega.{arith}
use lib.ListN.{length}
use lib.Seq.{sets}
use Rattle.report.specs.ReportLayout.{reports_bytes}
use Rattle.report.specs.declared.Report.{Report}
use Rattle.rules.specs.Tell.{listed}
use Rattle.moves.proofs.CutReports.{own-at-most-one, each-at-most-one, count-on, reports-on}
use Rattle.moves.proofs.cut.put_cut.Goals as goal

pub put_told-m-requires : goal.put_told-m-requires
put_told-m-requires c =
    let a = c.args in
    let told : length (listed c.cut_told.result) ≤ 1 = rw c.cut_told.ensures (own-at-most-one a.roster a.covers c.loop-p.p) in
    let first = each-at-most-one a.roster a.covers c.loop-p.p in
    omega arith

pub loop-p-preserved : goal.loop-p-preserved
loop-p-preserved c =
    let a = c.args in
    let is = c.cut_told.ensures in (
      c.put_told-m.ensures.1
          ∙ ap (λ (rs : List Report). c.loop-p.m + length rs) is
          ∙ count-on a.roster a.covers c.loop-p.p a.n c.loop-p.m c.loop-p.invariant.0,
      c.put_told-m.ensures.0
          ∙ ap (λ (rs : List Report). sets c.loop-p.buffer (12 * c.loop-p.m) (reports_bytes rs)) is
          ∙ reports-on a.roster a.covers c.loop-p.p a.n c.loop-p.m a.buffer.now c.loop-p.buffer
          c.loop-p.invariant.0 c.loop-p.invariant.1,
    )
