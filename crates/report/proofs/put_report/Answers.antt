-- `report::put_report` meets its contract. Assumes nothing.
use mathlib.Core.Path.{◌∙◌, ap}
use mathlib.Core.List.{List}
use Prim.Native.Nat.{ℕ, ◌+◌, ◌*◌}
use native.Mathlib.Omega.{arith}
use lib.ListN.{length-set}
use lib.Seq.{sets}
use Rattle.fields.specs.Number.{bytes_of}
use Rattle.report.proofs.ReportLaws.{field-by-field}
use Rattle.report.proofs.put_report.Goals as goal

pub bounds-buffer-at-2 : goal.bounds-buffer-at-2
bounds-buffer-at-2 c =
    simp length-set (omega arith)

pub put_u16-requires : goal.put_u16-requires
put_u16-requires c =
    simp length-set (omega arith)

pub put_u64-requires : goal.put_u64-requires
put_u64-requires c =
    let kept = simp length-set at c.put_u16.auto.s in omega arith

pub shape_of-buffer : goal.shape_of-buffer
shape_of-buffer c =
    c.put_u64.auto.s ∙ c.put_u16.auto.s ∙ simp length-set

pub returns : goal.returns
returns c =
    let a = c.args in
    c.put_u64.ensures
    ∙ ap (λ (l : List ℕ). sets l (12 * a.n + 4) (bytes_of 8 a.r.amount)) c.put_u16.ensures
    ∙ field-by-field a.buffer.now (12 * a.n) a.r
