-- A batch: the tickets that the core takes with the buffers that it is lent here.
--     answers_room, reports_room   their lengths
--     most_text                   what the lines of all that they hold take up at most
--     batch                      the steps of the tickets taken
--     Batched                    the book, how many, and the text afterwards: their lines from its start, numbered from k on
-- Assumes nothing.
use Rattle.std.specs.Prelude.{◌≡◌, ℕ, ◌≤◌, List, length}
use Rattle.rules.specs.Tick.{Step}
use Rattle.rules.specs.Step.{book_after}
use Rattle.rules.specs.Program.{lines_from}
use Rattle.rules.specs.Sound.{Sound}
use Rattle.rules.specs.declared.Book.{Book}
use Rattle.course.specs.Running.{ran}
use Rattle.lines.specs.Written.{Written}

-- 512 answers of 4 bytes
abbrev pub answers_room : ℕ
answers_room = 2_048

-- 1,024 reports of 12 bytes
abbrev pub reports_room : ℕ
reports_room = 12_288

-- 37 bytes for each of 1,536 lines
abbrev pub most_text : ℕ
most_text = 56_832

unfoldable pub batch : Book → List ℕ → List Step
batch b tickets = ran b tickets answers_room reports_room

pub record Batched (b : Book) (tickets : List ℕ) (k : ℕ) (text₀ : List ℕ) (c : Book) (n : ℕ) (text : List ℕ) (end : ℕ) : Type 0 where
  pub book : c ≡ book_after b (batch b tickets)
  pub sound : Sound c
  pub taken : n ≡ length (batch b tickets)
  pub lines : Written text₀ text 0 (lines_from k (batch b tickets)) end
  pub within : end ≤ length text₀
