-- A day that is printed piece by piece.
--     begun       a day of which nothing is printed yet
--     Under       a day is one of a file: its book is sound, and the tickets not yet taken lie where the file has them
--     steps_left   the steps of the tickets not yet taken; lines_left: their lines, and the participants'
--     to_print     what is still to be printed
--     next_batch   the steps of the next batch of tickets
--     piece_text   the next piece: the lines of that batch, at the end the participants', or the one line of a refused day file
--     day_after    the day when that is printed
--     pieces_to    at most n pieces, one after the other; turns_left: how many there are at most
--     PieceOf     what is left behind by the next piece of n bytes: the day, and every byte of the text
--     NextPiece   that, of a day that has not ended; else nothing is done, and all stays as it was
-- Assumes nothing.
use Rattle.std.specs.Prelude.{◌≡◌, ℕ, zero, suc, ◌+◌, ◌-◌, ◌*◌, ◌≤◌, true, false, cond, Option, Some, None, List, [], ◌∷◌, ◌++◌, length, drop, ◌==◌, nat_lt}
use Rattle.ticket.specs.TicketLayout.{ticket_length}
use Rattle.dayfile.specs.FileLimits.{most_tickets}
use Rattle.dayfile.specs.DayFile.{day_file}
use Rattle.rules.specs.Book.{book_of}
use Rattle.rules.specs.Tick.{Step}
use Rattle.rules.specs.Step.{steps_of, book_after}
use Rattle.rules.specs.Program.{refusal_line, lines_from, cover_lines, tickets_from}
use Rattle.rules.specs.Sound.{Sound}
use Rattle.rules.specs.declared.Book.{Book}
use Rattle.lines.specs.Written.{Written}
use Rattle.output.specs.Batch.{batch}
use Rattle.output.specs.declared.piece.Day.{Day}

abbrev pub begun : List ℕ → Day
begun file =
    record {
      refusal = (day_file file).refusal;
      book = book_of file;
      tickets = (day_file file).tickets;
      first = (day_file file).first;
      taken = 0;
      ended = false;
    }

pub record Under (file : List ℕ) (d : Day) : Type 0 where
  pub sound : Sound d.book
  pub first : d.first ≡ (day_file file).first
  pub taken : d.taken ≤ d.tickets
  pub tickets : d.refusal ≡ 0 → d.tickets ≤ most_tickets
  pub end : d.refusal ≡ 0 → length file ≡ d.first + ticket_length * d.tickets

abbrev pub steps_left : List ℕ → Day → List Step
steps_left file d = steps_of d.book (tickets_from file d.taken (d.tickets - d.taken))

abbrev pub lines_left : Day → List Step → List ℕ
lines_left d ss = let c = book_after d.book ss in lines_from d.taken ss ++ cover_lines c c.roster.size

unfoldable pub to_print : List ℕ → Day → List ℕ
to_print file d = cond d.ended [] (cond (d.refusal == 0) (lines_left d (steps_left file d)) (refusal_line d.refusal))

abbrev pub next_batch : List ℕ → Day → List Step
next_batch file d = batch d.book (drop (d.first + ticket_length * d.taken) file)

unfoldable pub piece_text : List ℕ → Day → List ℕ
piece_text file d =
    cond (d.refusal == 0)
    (cond (nat_lt d.taken d.tickets) (lines_from d.taken (next_batch file d)) (cover_lines d.book d.book.roster.size))
    (refusal_line d.refusal)

-- n tickets more
abbrev pub advanced : Day → Book → ℕ → Day
advanced d c n = record { refusal = d.refusal; book = c; tickets = d.tickets; first = d.first; taken = d.taken + n; ended = false }

abbrev pub ended_day : Day → Day
ended_day d = record { refusal = d.refusal; book = d.book; tickets = d.tickets; first = d.first; taken = d.taken; ended = true }

unfoldable pub day_after : List ℕ → Day → Day
day_after file d =
    cond (d.refusal == 0)
    (cond (nat_lt d.taken d.tickets) (advanced d (book_after d.book (next_batch file d)) (length (next_batch file d))) (ended_day d))
    (ended_day d)

-- a batch takes at least one ticket, and behind the tickets comes one piece more
abbrev pub turns_left : Day → ℕ
turns_left d = cond d.ended 0 (suc (d.tickets - d.taken))

abbrev pub pieces_to : ℕ → List ℕ → Day → List (List ℕ)
pieces_to zero file d = []
pieces_to (suc n) file d = cond d.ended [] (piece_text file d ∷ pieces_to n file (day_after file d))

pub record PieceOf (file : List ℕ) (d : Day) (text₀ : List ℕ) (n : ℕ) (d' : Day) (text' : List ℕ) : Type 0 where
  pub day : d' ≡ day_after file d
  pub text : Written text₀ text' 0 (piece_text file d) n
  pub within : n ≤ length text₀
  pub under : Under file d'

abbrev pub NextPiece : List ℕ → Day → List ℕ → Option ℕ → Day → List ℕ → Type 0
NextPiece file d text₀ (Some n) d' text' = (d.ended ≡ false) × PieceOf file d text₀ n d' text'
NextPiece file d text₀ None d' text' = (d.ended ≡ true) × (d' ≡ d) × (text' ≡ text₀)
