-- `shapes::blanks::from_amount` meets its contract. Assumes nothing.
use Rattle.shapes.proofs.BlankWords as words
use Rattle.shapes.proofs.blanks.from_amount.Goals as goal

pub returns : goal.returns
returns c =
    let t = c.args.t.now in
    simp (c.four_are.ensures, c.four_are-2.ensures, c.four_are-3.ensures)
    (words.from-amount t c.word_at-first.result c.word_at-first.ensures)
