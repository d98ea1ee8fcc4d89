-- `iban::strides::divided` meets its contract. The loop's invariant: the digits of the first strides are held. Assumes nothing.
use Prim.Native.Nat.{◌-◌}
use lib.ListN.{length}
use Rattle.fields.specs.Text.{unpadded}
use Rattle.iban.proofs.Walk.{Walked}
use Rattle.iban.proofs.strides.divided.Given as goal

abbrev pub invariant-loop-next : goal.invariant-loop-next
invariant-loop-next l = Walked l.s l.held l.i

abbrev pub decreases-loop-next : goal.decreases-loop-next
decreases-loop-next l = length (unpadded l.s) - l.i
