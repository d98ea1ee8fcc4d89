-- A ticket as the book takes it up. A ticket that 7 to 11 refuse is a tick at the clock which sweeps no order (`swept_for`), since `Sound`
-- doesn't say that none is due at the clock; what is left is the book as it was (`turned`). The code doesn't go on with such a ticket: it
-- puts the answer and takes the next (`refused-turn` of `turns`).
--     entry_of      its fields; refused by 7 to 11, that refusal and a tick at the clock
-- Assumes nothing.
use Rattle.std.specs.Prelude.{ℕ, List, Err, Ok, Result}
use Rattle.ticket.specs.TicketReading.{reading}
use Rattle.ticket.specs.declared.Fields.{Fields}
use Rattle.ticket.specs.declared.kinds.Kind.TheVariants.{Tick}
use Rattle.rules.specs.Refusal.{timing_of, timing_refusal}
use Rattle.rules.specs.declared.refusal.Timing.{Timing}
use Rattle.rules.specs.declared.refusal.Timing.TheVariants.{InTime, Early}
use Rattle.course.specs.declared.Entry.{Entry}

abbrev pub refused_entry : ℕ → ℕ → Entry
refused_entry n clock = record { refusal = n; kind = Tick; time = clock; amount = 0 }

abbrev pub timed_entry : ℕ → Fields → Timing → Entry
timed_entry clock f InTime = record { refusal = 0; kind = f.kind; time = f.time; amount = f.amount }
timed_entry clock f Early = refused_entry (timing_refusal Early) clock

abbrev pub read_entry : ℕ → Result Fields ℕ → Entry
read_entry clock (Ok f) = timed_entry clock f (timing_of clock f.time)
read_entry clock (Err n) = refused_entry n clock

abbrev pub entry_of : ℕ → List ℕ → Entry
entry_of clock t = read_entry clock (reading t)
