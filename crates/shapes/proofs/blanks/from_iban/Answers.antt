-- `shapes::blanks::from_iban` meets its contract. Assumes nothing.
use Rattle.shapes.proofs.BlankWords as words
use Rattle.shapes.proofs.blanks.from_iban.Goals as goal

pub returns : goal.returns
returns c =
    let t = c.args.t.now in
    simp c.four_are.ensures (words.from-iban t c.word_at-first.result c.word_at-first.ensures)
