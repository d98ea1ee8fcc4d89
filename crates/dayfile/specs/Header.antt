-- The header of a day file, 12 bytes, and refusal 1. Assumes nothing.
use Rattle.std.specs.Prelude.{ℕ, ◌+◌, cond, List, ltb, length, None, Option, Some}
use Rattle.fields.specs.Number.{number_at}
use Rattle.dayfile.specs.FileLimits.{header_length}
use Rattle.dayfile.specs.declared.header.Sections.{Sections}
use Rattle.dayfile.specs.declared.header.Header.{Header}

-- 01: counts of participants, routes, tickets, then their offsets, two bytes each
abbrev pub sections_at : ℕ → List ℕ → Sections
sections_at at f = record { participants = number_at 2 at f; routes = number_at 2 (at + 2) f; tickets = number_at 2 (at + 4) f }

abbrev pub header_of : List ℕ → Header
header_of f = record { counts = sections_at 0 f; offsets = sections_at 6 f }

-- 1. File below 12 bytes
abbrev pub headed : List ℕ → Option Header
headed f = cond (ltb (length f) header_length) None (Some (header_of f))
