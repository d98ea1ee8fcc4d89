-- `moves::cut::put_cut` meets its contract. The loop's invariant: the reports of the first p participants are written. Assumes nothing.
use mathlib.Core.Path.{◌≡◌}
use Prim.Native.Nat.{◌+◌, ◌*◌}
use lib.ListN.{length}
use lib.Seq.{sets}
use Rattle.report.specs.ReportLayout.{reports_bytes}
use Rattle.rules.specs.Cut.{cut_reports_to}
use Rattle.moves.proofs.cut.put_cut.Given as goal

abbrev pub invariant-loop-p : goal.invariant-loop-p
invariant-loop-p l = (l.m ≡ l.n + length (cut_reports_to l.roster l.covers l.p))
    × (l.buffer ≡ sets l.initial.buffer (12 * l.n) (reports_bytes (cut_reports_to l.roster l.covers l.p)))
