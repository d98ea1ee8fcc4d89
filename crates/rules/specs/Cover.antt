-- How a participant's cover moves, and all cover together.
--     moved         what each move makes of a cover
--     Enough        what each takes is there
--     transferred   one participant's cover moves
--     whole         available, reserved and held
--     total         those of all participants
-- Assumes nothing.
use Rattle.std.specs.Prelude.{ℕ, ◌+◌, ◌-◌, ◌≤◌, List, set}
use Rattle.fields.specs.UpTo.{sum_to}
use Rattle.rules.specs.Book.{cover_of}
use Rattle.rules.specs.declared.decision.Move.{Move}
use Rattle.rules.specs.declared.decision.Move.TheVariants.{Stay, Give, Draw, Reserve, Release, Spend, Credit, Debit}
use Rattle.rules.specs.declared.decision.Transfer.{Transfer}
use Rattle.rules.specs.declared.Cover.{Cover}
use Rattle.rules.specs.declared.Book.{Book}

abbrev pub moved : Move → ℕ → Cover → Cover
moved Stay n c = c
-- available rises, or falls
moved Give n c = record { available = c.available + n; reserved = c.reserved; held = c.held; debit = c.debit }
moved Draw n c = record { available = c.available - n; reserved = c.reserved; held = c.held; debit = c.debit }
-- available to reserved, and back
moved Reserve n c = record { available = c.available - n; reserved = c.reserved + n; held = c.held; debit = c.debit }
moved Release n c = record { available = c.available + n; reserved = c.reserved - n; held = c.held; debit = c.debit }
-- reserved falls
moved Spend n c = record { available = c.available; reserved = c.reserved - n; held = c.held; debit = c.debit }
-- a confirmed credit: held becomes 0
moved Credit n c = record { available = c.available; reserved = c.reserved; held = 0; debit = c.debit }
-- a confirmed debit: the amount joins available and the open debit becomes 0
moved Debit n c = record { available = c.available + n; reserved = c.reserved; held = c.held; debit = 0 }

-- there is as much as the move takes
abbrev pub Enough : Move → ℕ → Cover → Type 0
Enough Stay n c = Unit {0}
Enough Give n c = Unit {0}
Enough Draw n c = n ≤ c.available
Enough Reserve n c = n ≤ c.available
Enough Release n c = n ≤ c.reserved
Enough Spend n c = n ≤ c.reserved
Enough Credit n c = Unit {0}
Enough Debit n c = Unit {0}

abbrev pub transferred : Transfer → List Cover → List Cover
transferred m cs = set cs m.who (moved m.how m.amount (cover_of cs m.who))

abbrev pub whole : Cover → ℕ
whole c = c.available + c.reserved + c.held

abbrev pub total_of : ℕ → List Cover → ℕ
total_of size cs = sum_to (λ p. whole (cover_of cs p)) size

unfoldable pub total : Book → ℕ
total b = total_of b.roster.size b.covers

-- 01, refusal 22
abbrev pub most_total : ℕ
most_total = 1_000_000_000_000_000_000
