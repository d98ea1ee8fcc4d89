-- `shapes::blanks::four_are` meets its contract. Assumes nothing.
use Rattle.shapes.proofs.blanks.four_are.Goals as goal

pub returns : goal.returns
returns c =
    simp (c.word_at.ensures, c.word_at-2.ensures, c.word_at-3.ensures, c.word_at-4.ensures)
