-- How many bytes one ticket more needs, on both sides of each edge: 108 of tickets, 4 of answers, 6,528 of reports. Assumes nothing.
use mathlib.Core.Path.{◌≡◌, refl}
use mathlib.Core.Bool.{true, false}
use Rattle.course.specs.Running.{room_left}

pub room-for-one : room_left 108 4 6_528 ≡ true
room-for-one = refl

pub a-byte-of-its-ticket-missing : room_left 107 4 6_528 ≡ false
a-byte-of-its-ticket-missing = refl

pub a-byte-of-its-answer-missing : room_left 108 3 6_528 ≡ false
a-byte-of-its-answer-missing = refl

pub a-byte-of-its-reports-missing : room_left 108 4 6_527 ≡ false
a-byte-of-its-reports-missing = refl
