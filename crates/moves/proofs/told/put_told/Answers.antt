-- `moves::told::put_told` meets its contract. Assumes nothing.
use mathlib.Core.Path.{◌∙◌, ap}
use mathlib.Core.List.{List}
use Prim.Native.Nat.{ℕ, ◌+◌, ◌*◌}
use lib.Seq.{sets}
use Rattle.report.specs.ReportLayout.{report_bytes}
use Rattle.report.proofs.ReportLaws.{put_one, put_two}
use borrow.Author.Rules.{rules}
use Rattle.moves.proofs.told.put_told.Goals as goal

pub returns-in-One : goal.returns-in-One
returns-in-One c =
    let a = c.args in
    rw c.in-One.is (c.put_report.ensures ∙ put_one a.buffer.now (12 * a.n) _, search rules)

pub returns-in-Two : goal.returns-in-Two
returns-in-Two c =
    let a = c.args in
    rw c.in-Two.is (
      c.put_report-in-Two-2.ensures
          ∙ ap (λ (l : List ℕ). sets l (12 * (a.n + 1)) (report_bytes c.in-Two.s)) c.put_report-in-Two.ensures
          ∙ put_two a.buffer.now a.n c.in-Two.r c.in-Two.s,
      search rules,
    )
