-- `lines::tickets::put_reports` meets its contract. The loop's invariant: the lines of the first i reports are written. Assumes nothing.
use Prim.Native.Nat.{◌+◌, ◌*◌, ◌≤◌}
use Rattle.lines.specs.Lines.{reports_to, longest_line}
use Rattle.lines.proofs.WritingParts.{Filled}
use Rattle.lines.proofs.tickets.put_reports.Given as goal

abbrev pub invariant-loop-i : goal.invariant-loop-i
invariant-loop-i l = (l.i ≤ l.n) × Filled l.initial.text l.text l.at (reports_to l.reports l.from l.i) l.end × (l.end ≤ l.at + longest_line * l.i)
