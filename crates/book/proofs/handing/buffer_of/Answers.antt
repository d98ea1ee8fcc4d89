-- `book::handing::buffer_of` meets its contract. Assumes nothing.
use borrow.Author.Tests.{lt-ltb, le-ltb}
use Rattle.book.proofs.handing.buffer_of.Goals as goal

pub returns-then-count-lt-LEAST_BUFFER : goal.returns-then-count-lt-LEAST_BUFFER
returns-then-count-lt-LEAST_BUFFER c =
    rw (lt-ltb _ _ c.if-count-lt-LEAST_BUFFER.true)

pub returns-else-count-lt-LEAST_BUFFER : goal.returns-else-count-lt-LEAST_BUFFER
returns-else-count-lt-LEAST_BUFFER c =
    rw (le-ltb _ _ c.if-count-lt-LEAST_BUFFER.false)
