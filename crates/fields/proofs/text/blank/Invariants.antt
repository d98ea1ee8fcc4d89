-- `fields::text::blank` meets its contract. The loop's invariant: all bytes are zero where those so far are and those from here on are.
-- Assumes nothing.
use mathlib.Core.Path.{◌≡◌}
use mathlib.Core.Bool.{◌&&◌}
use lib.ListN.{drop}
use Rattle.fields.specs.Text.{blank}
use Rattle.fields.proofs.text.blank.Given as goal

abbrev pub invariant-loop-b : goal.invariant-loop-b
invariant-loop-b l = blank l.s ≡ (l.zeros && blank (drop l.b-index l.s))
