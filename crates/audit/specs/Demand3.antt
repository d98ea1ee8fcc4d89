-- Demand 3, as one statement: whatever the day file and whatever the list of inputs, the claim holds of what is seen and of the book at
-- the end. Every beginning of a list is a list, so it speaks of the book after each ticket. There is no premise.
--     Holds      the claim, from a book, of every list of inputs
--     Demand3    from the book of every day file
-- Assumes nothing.
use Rattle.std.specs.Prelude.{ℕ, List}
use Rattle.rules.specs.Book.{book_of}
use Rattle.rules.specs.Inputs.{Input, book_from}
use Rattle.rules.specs.declared.Book.{Book}
use Rattle.audit.specs.Claim.{Claim}
use Rattle.audit.specs.Run.{history_of}

abbrev pub Holds : Book → Type 0
Holds b = (inputs : List Input) → Claim (history_of b inputs) (book_from b inputs)

abbrev pub Demand3 : Type 0
Demand3 = (file : List ℕ) → Holds (book_of file)
