-- `prolog::is_encoding` meets its contract. The loop's invariant: the text is a name where it is one so far, and the bytes from here on are
-- such. Assumes nothing.
use mathlib.Core.Path.{◌≡◌}
use mathlib.Core.Bool.{◌&&◌}
use lib.ListN.{drop}
use Rattle.xml.specs.Bytes.{is_encoding_byte, all_of}
use Rattle.xml.specs.WellFormed.{is_encoding}
use Rattle.prolog.proofs.is_encoding.Given as goal

abbrev pub invariant-loop-b : goal.invariant-loop-b
invariant-loop-b l = is_encoding l.s ≡ (l.right && all_of is_encoding_byte (drop l.b-index (drop 1 l.s)))
