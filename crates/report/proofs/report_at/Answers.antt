-- `report::report_at` meets its contract. Assumes nothing.
use Rattle.report.proofs.report_at.Goals as goal

pub returns : goal.returns
returns c =
    simp (c.u16_at.ensures, c.u64_at.ensures)
