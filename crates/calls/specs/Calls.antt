-- What a caller sees who hands in tickets one after the other, and nobody else writes the book in between. It is put together from what
-- `hand_in` promises, and from nothing else. Inputs and what was seen are oldest first.
--     seen_of     what is seen of one ticket: its answer, and the buffer as it was when it returned
--     Called     from a book: the inputs, what was seen of them, and the book at the end
-- Assumes nothing.
use Rattle.std.specs.Prelude.{ℕ, List, [], ◌∷◌}
use Rattle.rules.specs.Inputs.{Input, Seen}
use Rattle.rules.specs.declared.Book.{Book}
use Rattle.book.specs.Handing.{Hands}
use Rattle.book.specs.declared.handing.Handed.{Handed}

abbrev pub seen_of : Input → Handed → List ℕ → Seen
seen_of x r after = record { ticket = x.ticket; refusal = r.refusal; reports = r.reports; rows = r.rows; buffer = after }

pub data Called : Book → List Input → List Seen → Book → Type 0 where
  -- nothing is handed in
  done : {b : Book} → Called b [] [] b
  -- one input is handed in, and the others to the book that it left
  then : {b end : Book} {x : Input} {r : Handed} {after : List ℕ} {inputs : List Input} {seen : List Seen}
      → Hands b x.ticket x.buffer r after → Called r.book inputs seen end
      → Called b (x ∷ inputs) (seen_of x r after ∷ seen) end
