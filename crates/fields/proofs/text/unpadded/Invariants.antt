-- `fields::text::unpadded` meets its contract. The loop's invariant: what is left has the whole field's value. Assumes nothing.
use mathlib.Core.Path.{◌≡◌}
use lib.ListN.{length}
use Rattle.fields.specs.Text.{unpadded}
use Rattle.fields.proofs.text.unpadded.Given as goal

abbrev pub invariant-loop-value : goal.invariant-loop-value
invariant-loop-value l = unpadded l.s ≡ unpadded l.value

abbrev pub decreases-loop-value : goal.decreases-loop-value
decreases-loop-value l = length l.value
