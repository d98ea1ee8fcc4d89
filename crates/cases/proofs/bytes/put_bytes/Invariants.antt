-- The loops of `cases::bytes::put_bytes`: what is put stays within the room. Assumes nothing.
use Rattle.std.specs.Prelude.{◌≤◌, length}
use Rattle.cases.proofs.bytes.put_bytes.Given as goal

abbrev pub invariant-loop-pair : goal.invariant-loop-pair
invariant-loop-pair l = l.n ≤ length l.room

abbrev pub invariant-loop : goal.invariant-loop
invariant-loop l = l.n ≤ length l.room

abbrev pub invariant-loop-group : goal.invariant-loop-group
invariant-loop-group l = l.n ≤ length l.room
