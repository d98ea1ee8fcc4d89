-- The limits of a day file and the lengths of its parts: 01 'Day file and program' and refusals 1 to 4. A ticket's length is `ticket_length`
-- of `ticket`. Assumes nothing.
use Rattle.std.specs.Prelude.{ℕ}

abbrev pub most_participants : ℕ
most_participants = 32

abbrev pub most_routes : ℕ
most_routes = 64

abbrev pub most_tickets : ℕ
most_tickets = 512

abbrev pub most_opening : ℕ
most_opening = 1_000_000_000_000_000

-- one byte more than the longest day has: 12, 32 rows of 24, 64 of 16 and 512 tickets of 108
abbrev pub most_read : ℕ
most_read = 57_101

abbrev pub header_length : ℕ
header_length = 12

abbrev pub participant_length : ℕ
participant_length = 24

abbrev pub route_length : ℕ
route_length = 16
