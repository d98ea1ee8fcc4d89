-- `report::answer::put_answer` meets its contract. Assumes nothing.
use mathlib.Core.Path.{◌∙◌, ap}
use mathlib.Core.List.{List}
use Prim.Native.Nat.{ℕ, ◌+◌, ◌*◌}
use native.Mathlib.Omega.{arith}
use lib.ListN.{set, length-set}
use Rattle.report.proofs.AnswerLaws.{answer-by-field}
use Rattle.report.proofs.answer.put_answer.Goals as goal

pub put_u16-requires : goal.put_u16-requires
put_u16-requires c =
    simp length-set (omega arith)

pub bounds-buffer-at-2 : goal.bounds-buffer-at-2
bounds-buffer-at-2 c =
    let kept = simp length-set at c.put_u16.auto.s in omega arith

pub shape_of-buffer : goal.shape_of-buffer
shape_of-buffer c =
    simp length-set (simp length-set at c.put_u16.auto.s)

pub returns : goal.returns
returns c =
    let a = c.args in
    ap (λ (l : List ℕ). set l (4 * a.k + 3) a.a.rows) c.put_u16.ensures ∙ answer-by-field a.buffer.now (4 * a.k) a.a
