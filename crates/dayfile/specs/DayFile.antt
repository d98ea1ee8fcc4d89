-- What a day file of any bytes and length gives: the first of refusals 1 to 5 that applies, with the empty roster; or the
-- roster, how many tickets there are and where the first lies.
--     day_file      all of that
--     ticket_at     ticket k of an accepted file: 108 bytes
-- Assumes nothing.
use Rattle.std.specs.Prelude.{ℕ, ◌+◌, ◌*◌, List, length, None, Option, Some}
use Rattle.fields.specs.Number.{part}
use Rattle.ticket.specs.TicketLayout.{ticket_length}
use Rattle.dayfile.specs.Header.{headed}
use Rattle.dayfile.specs.Check.{ranged, placed, enrolled, routed}
use Rattle.dayfile.specs.Roster.{roster_of, empty_roster}
use Rattle.dayfile.specs.FileRefusal.{headed_refusal, ranged_refusal, placed_refusal, enrolled_refusal, routed_refusal}
use Rattle.dayfile.specs.declared.DayFile.{DayFile}
use Rattle.dayfile.specs.declared.header.Header.{Header}
use Rattle.dayfile.specs.declared.check.Ranged.{Ranged}
use Rattle.dayfile.specs.declared.check.Ranged.TheVariants.{Within, Outside}
use Rattle.dayfile.specs.declared.check.Placed.{Placed}
use Rattle.dayfile.specs.declared.check.Placed.TheVariants as placed-is
use Rattle.dayfile.specs.declared.check.Enrolled.{Enrolled}
use Rattle.dayfile.specs.declared.check.Enrolled.TheVariants as participants-are
use Rattle.dayfile.specs.declared.check.Routed.{Routed}
use Rattle.dayfile.specs.declared.check.Routed.TheVariants as routes-are

-- 01: 1 to 5 give the empty book (no participants)
abbrev pub refused_file : ℕ → DayFile
refused_file n = record { refusal = n; roster = empty_roster; tickets = 0; first = 0 }

abbrev pub accepted_file : Header → List ℕ → DayFile
accepted_file h f =
    record { refusal = 0; roster = roster_of h f; tickets = h.counts.tickets; first = h.offsets.tickets }

abbrev pub file_routed : Header → List ℕ → Routed → DayFile
file_routed h f routes-are.Right = accepted_file h f
file_routed h f routes-are.Wrong = refused_file (routed_refusal routes-are.Wrong)

abbrev pub file_enrolled : Header → List ℕ → Enrolled → DayFile
file_enrolled h f participants-are.Right = file_routed h f (routed h.counts.participants h.offsets.routes h.counts.routes f)
file_enrolled h f participants-are.Wrong = refused_file (enrolled_refusal participants-are.Wrong)

abbrev pub file_placed : Header → List ℕ → Placed → DayFile
file_placed h f placed-is.Right = file_enrolled h f (enrolled h.offsets.participants h.counts.participants f)
file_placed h f placed-is.Wrong = refused_file (placed_refusal placed-is.Wrong)

abbrev pub file_ranged : Header → List ℕ → Ranged → DayFile
file_ranged h f Within = file_placed h f (placed h (length f))
file_ranged h f Outside = refused_file (ranged_refusal Outside)

abbrev pub file_headed : List ℕ → Option Header → DayFile
file_headed f (Some h) = file_ranged h f (ranged h)
file_headed f None = refused_file (headed_refusal None)

unfoldable pub day_file : List ℕ → DayFile
day_file f = file_headed f (headed f)

-- 01: sections follow with no gap
abbrev pub ticket_at : List ℕ → ℕ → List ℕ
ticket_at f k = part ticket_length ((day_file f).first + ticket_length * k) f
