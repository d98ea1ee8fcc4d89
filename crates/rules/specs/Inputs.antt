-- Inputs: tickets of any bytes and length, each with a buffer lent for it, of any bytes and length, handed to a book one after the
-- other, and nobody else writes the book in between. Lists of them are oldest first.
--     Input         a ticket and its buffer
--     Seen          what a caller sees of one: the ticket, its answer, and the buffer as it was when the ticket returned
--     outcome_of     what an input does to a book
--     steps_from     the steps of inputs that are handed to a book
--     book_from      the book after them
--     seen_from      what is seen of them
-- Assumes nothing.
use Rattle.std.specs.Prelude.{ℕ, List, [], ◌∷◌}
use Rattle.rules.specs.Tick.{Step}
use Rattle.rules.specs.Step.{handed, Outcome, outcome, book_after}
use Rattle.rules.specs.declared.Book.{Book}

pub record Input : Type 0 where
  pub ticket : List ℕ
  pub buffer : List ℕ

pub record Seen : Type 0 where
  pub ticket : List ℕ
  pub refusal : ℕ
  pub reports : ℕ
  pub rows : ℕ
  pub buffer : List ℕ

abbrev pub seen : Input → Outcome → Seen
seen x o = record { ticket = x.ticket; refusal = o.refusal; reports = o.reports; rows = o.rows; buffer = o.buffer }

abbrev pub outcome_of : Book → Input → Outcome
outcome_of b x = outcome b x.ticket x.buffer

abbrev pub steps_from : Book → List Input → List Step
steps_from b [] = []
steps_from b (x ∷ xs) = let s = handed b x.ticket x.buffer in s ∷ steps_from s.book xs

abbrev pub book_from : Book → List Input → Book
book_from b xs = book_after b (steps_from b xs)

abbrev pub seen_from : Book → List Input → List Seen
seen_from b [] = []
seen_from b (x ∷ xs) = let o = outcome_of b x in seen x o ∷ seen_from o.book xs
