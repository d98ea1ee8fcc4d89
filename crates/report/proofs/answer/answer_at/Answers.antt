-- `report::answer::answer_at` meets its contract. Assumes nothing.
use Rattle.report.proofs.answer.answer_at.Goals as goal

pub returns : goal.returns
returns c =
    simp c.u16_at.ensures
