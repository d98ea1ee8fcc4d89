-- What the loop over tickets keeps, and what falls at each turn. Assumes nothing.
use Rattle.std.specs.Prelude.{◌-◌, ◌*◌, length}
use Rattle.course.proofs.Running.{Going}
use Rattle.engine.specs.Directory.{Directs}
use Rattle.engine.proofs.kept.KeptBook.take.Given as goal

abbrev pub invariant-loop-at : goal.invariant-loop-at
invariant-loop-at l =
    record {
      going : Going l.initial.self.book l.tickets l.initial.answers l.initial.reports l.self.book l.taken l.n l.answers l.reports;
      lent : Directs l.self.book.roster l.d;
    }

abbrev pub decreases-loop-at : goal.decreases-loop-at
decreases-loop-at l = length l.tickets - 108 * l.taken
