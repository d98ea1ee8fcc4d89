-- One ticket in the loop: the book after its expiries, what is judged, and its step. Assumes nothing.
use mathlib.Core.Path.{◌≡◌, refl}
use mathlib.Core.Bool.{Bool, true, false, cond}
use mathlib.Core.List.{List}
use Prim.Native.Nat.{ℕ}
use native.Mathlib.Omega.{arith}
use lib.Dec.{eqb}
use Rattle.rules.specs.Tick.{Step, sweep_to, at_time}
use Rattle.rules.specs.Step.{step_of}
use Rattle.rules.specs.Sound.{Sound}
use Rattle.rules.specs.declared.Book.{Book}
use Rattle.rules.proofs.SoundKeeping.{later-sound}
use Rattle.rules.proofs.SweepSound.{Swept, swept}
use Rattle.course.specs.Room.{Applicable}
use Rattle.course.specs.Entry.{entry_of}
use Rattle.course.specs.Seeking.{sought}
use Rattle.course.specs.Judging.{judged}
use Rattle.course.specs.Taking.{unswept, swept_for, carried_out}
use Rattle.course.specs.declared.Entry.{Entry}
use Rattle.course.specs.declared.Judged.{Judged}
use Rattle.course.proofs.Taking.{step-taken}
use Rattle.course.proofs.SoughtFitting.{entered, judged-applicable}

module _ (b : Book) (s : Sound b) (t : List ℕ) where
  abbrev entry : Entry
  entry = entry_of b.clock t

  abbrev pub start : Book
  start = at_time b entry.time

  -- after the expiries
  abbrev pub after : Step
  after = swept_for entry.refusal start

  abbrev pub verdict : Judged
  verdict = judged entry.refusal (sought after.book entry t)

  pub start-sound : Sound start
  start-sound = later-sound b s entry.time (entered b.clock t).later

  after-swept : Swept start after
  after-swept = go (eqb entry.refusal 0)
    where
      go : (z : Bool) → Swept start (cond z (sweep_to start start.count) (unswept start))
      go true = swept start start-sound start.count (omega arith)
      go false = record { sound = start-sound; count = refl; clock = refl; roster = refl }

  pub applicable : Applicable after.book verdict.decision
  applicable = judged-applicable after.book after-swept.sound b.clock t entry (entered b.clock t)

  pub step_is : step_of b t ≡ carried_out after verdict
  step_is = step-taken b t
