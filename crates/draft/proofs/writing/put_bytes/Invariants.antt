-- What is left of the bytes, put where it goes, makes what is to be. Assumes nothing.
use Rattle.std.proofs.Common.{◌≡◌, ◌+◌, drop}
use Rattle.std.proofs.lemmas.List.Edits.{sets}
use Rattle.draft.proofs.writing.put_bytes.Given as goal

abbrev pub invariant-loop-i : goal.invariant-loop-i
invariant-loop-i l = sets l.ticket (l.at + l.i) (drop l.i l.s) ≡ sets l.initial.ticket l.at l.s
