-- What is kept beside a book over many tickets, so that no ticket looks at all orders or adds up all cover.
--     Kept        the index of keys, all cover together, and a number below which no order waits for a bank
--     moved_by    the covers after a move
--     Movable     a move fits: the cover that it changes, and all cover with it
-- Assumes nothing.
use Rattle.std.specs.Prelude.{◌≡◌, ℕ, ◌+◌, ◌≤◌, ◌<◌, List, length, set}
use Rattle.dayfile.specs.FileLimits.{most_participants}
use Rattle.dayfile.specs.declared.roster.Roster.{Roster}
use Rattle.rules.specs.Book.{cover_of}
use Rattle.rules.specs.Cover.{moved, whole, total_of}
use Rattle.rules.specs.declared.verdict.Mover.{Mover}
use Rattle.rules.specs.declared.Cover.{Cover}
use Rattle.rules.specs.declared.Book.{Book}
use Rattle.course.specs.Expiry.{Passed}
use Rattle.course.specs.Room.{most_number, Room}
use Rattle.turns.specs.Index.{KeyIndex}

pub record Kept (words_of : Roster → ℕ × List ℕ → List ℕ) (b : Book) (keys : List (List ℕ)) (all m : ℕ) : Type 0 where
  pub index : KeyIndex (words_of b.roster) b keys
  -- who is no participant has no cover, so all 32 places may be added up
  pub sum : all ≡ total_of most_participants b.covers
  -- no order below m waits for a bank
  pub passed : Passed m b
  pub few : m ≤ b.count

abbrev pub moved_by : Mover → ℕ → List Cover → List Cover
moved_by m n cs = set cs m.who (moved m.how n (cover_of cs m.who))

pub record Movable (m : Mover) (n : ℕ) (cs : List Cover) : Type 0 where
  pub long : length cs ≡ most_participants
  pub who : m.who < most_participants
  pub room : Room m.how n (cover_of cs m.who)
  pub least : whole (cover_of cs m.who) ≤ total_of most_participants cs
  pub most : total_of most_participants cs + whole (moved m.how n (cover_of cs m.who)) ≤ most_number
