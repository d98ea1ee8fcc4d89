-- `lines::tickets::put_lines` meets its contract. The loop's invariant: the lines of the first i tickets are written. Assumes nothing.
use mathlib.Core.Path.{◌≡◌}
use Prim.Native.Nat.{◌+◌, ◌*◌, ◌≤◌}
use Rattle.lines.specs.Lines.{start_of, lines_to, longest_line}
use Rattle.lines.proofs.WritingParts.{Filled}
use Rattle.lines.proofs.tickets.put_lines.Given as goal

abbrev pub invariant-loop-i : goal.invariant-loop-i
invariant-loop-i l = (l.i ≤ l.taken)
    × (l.from ≡ start_of l.answers l.i)
    × Filled l.initial.text l.text 0 (lines_to l.k l.i l.answers l.reports) l.at
    × (l.at ≤ longest_line * (l.i + start_of l.answers l.i))
