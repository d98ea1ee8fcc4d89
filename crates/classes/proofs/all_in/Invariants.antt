-- `classes::all_in` meets its contract. The loop's invariant: all are in if those so far are, as the flag says, and those from here on.
-- Assumes nothing.
use mathlib.Core.Bool.{◌&&◌}
use mathlib.Core.Path.{◌≡◌}
use lib.ListN.{drop}
use Rattle.classes.specs.Class.{all_in}
use Rattle.classes.proofs.all_in.Given as goal

abbrev pub invariant-loop-c : goal.invariant-loop-c
invariant-loop-c l = all_in l.class l.s ≡ (l.all && all_in l.class (drop l.c-index l.s))
