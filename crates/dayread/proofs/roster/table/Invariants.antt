-- `dayread::roster::table` meets its contract. The loop's invariant: the first i rows are made. Assumes nothing.
use Rattle.std.proofs.Common.{◌≡◌, ℕ, ◌<◌}
use Rattle.fields.specs.UpTo.{rows_to}
use Rattle.dayread.proofs.roster.table.Given as goal

abbrev pub invariant-loop-i : goal.invariant-loop-i
invariant-loop-i g l = (rows : ℕ → _) → ((i : ℕ) (r : _) → i < l.n → goal.F-post g l.row i r → r ≡ rows i) → l.all ≡ rows_to g.row.N l.fn.unused rows l.i
