-- The step as one way for every ticket, refused or not.
--     unswept       the step that changes nothing
--     swept_for      the expiries: none at a ticket that was refused
--     carried_out    what was judged, carried out
--     taken_up       the whole step
-- Assumes nothing.
use Rattle.std.specs.Prelude.{ℕ, cond, List, [], ◌++◌, eqb}
use Rattle.rules.specs.Tick.{Step, sweep_to, at_time}
use Rattle.rules.specs.Decision.{applied, told_by}
use Rattle.rules.specs.declared.Book.{Book}
use Rattle.course.specs.Entry.{entry_of}
use Rattle.course.specs.Seeking.{sought}
use Rattle.course.specs.Judging.{judged}
use Rattle.course.specs.declared.Entry.{Entry}
use Rattle.course.specs.declared.Judged.{Judged}

abbrev pub unswept : Book → Step
unswept b = record { refusal = 0; reports = []; rows = 0; book = b }

abbrev pub swept_for : ℕ → Book → Step
swept_for refusal b = cond (eqb refusal 0) (sweep_to b b.count) (unswept b)

abbrev pub carried_out : Step → Judged → Step
carried_out w j =
    record {
      refusal = j.refusal;
      reports = w.reports ++ told_by w.book j.decision;
      rows = j.decision.rows;
      book = applied w.book j.decision;
    }

abbrev pub taken_as : Book → Entry → List ℕ → Step
taken_as b e t = let w = swept_for e.refusal (at_time b e.time) in carried_out w (judged e.refusal (sought w.book e t))

abbrev pub taken_up : Book → List ℕ → Step
taken_up b t = taken_as b (entry_of b.clock t) t
