-- The book that a day file opens.
--     opened_day   refusal, fresh book, tickets: those of the day file
--     Opens        the promise: that, and that the book is sound
-- Assumes nothing.
use Rattle.std.specs.Prelude.{◌≡◌, ℕ, List}
use Rattle.dayfile.specs.DayFile.{day_file}
use Rattle.rules.specs.Book.{book_of}
use Rattle.rules.specs.Sound.{Sound}
use Rattle.book.specs.declared.opening.Opened.{Opened}

abbrev pub opened_day : List ℕ → Opened
opened_day file =
    record { refusal = (day_file file).refusal; book = book_of file; tickets = (day_file file).tickets; first = (day_file file).first }

pub record Opens (file : List ℕ) (r : Opened) : Type 0 where
  pub opened : r ≡ opened_day file
  pub sound : Sound r.book
