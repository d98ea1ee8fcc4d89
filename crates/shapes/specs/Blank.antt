-- Words of a ticket that are all the same.
--     four_are    four words of eight bytes, one behind the other, are each w
-- Assumes nothing.
use Rattle.std.specs.Prelude.{ℕ, ◌+◌, Bool, ◌&&◌, List, eqb}
use Rattle.fields.specs.Number.{part}
use Rattle.index.specs.Words.{word}

abbrev pub four_are : ℕ → ℕ → List ℕ → Bool
four_are w at t =
    eqb (word (part 8 at t)) w
    && eqb (word (part 8 (at + 8) t)) w
    && eqb (word (part 8 (at + 16) t)) w
    && eqb (word (part 8 (at + 24) t)) w
