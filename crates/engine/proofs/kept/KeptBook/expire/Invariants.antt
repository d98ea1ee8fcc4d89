-- What the loop over orders keeps, and what falls. Assumes nothing.
use Rattle.std.specs.Prelude.{◌-◌, ◌≤◌}
use Rattle.rules.specs.Tick.{at_time}
use Rattle.course.proofs.Looping.{Sweeping}
use Rattle.turns.specs.Kept.{Kept}
use Rattle.engine.specs.Turns.{words_in}
use Rattle.engine.proofs.kept.KeptBook.expire.Given as goal

abbrev pub invariant-loop-self : goal.invariant-loop-self
invariant-loop-self l =
    record {
      sweeping : Sweeping (at_time l.fn.self.book l.time) l.initial.n l.initial.reports l.self.book l.self.next l.n l.reports;
      low : l.initial.self.next ≤ l.self.next;
      high : l.self.next ≤ l.initial.self.book.count;
      before : Kept words_in l.fn.self.book l.self.keys l.self.total l.initial.self.next;
    }

abbrev pub decreases-loop-self : goal.decreases-loop-self
decreases-loop-self l = l.initial.self.book.count - l.self.next
