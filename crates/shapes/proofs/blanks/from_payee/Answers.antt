-- `shapes::blanks::from_payee` meets its contract. Assumes nothing.
use Rattle.shapes.proofs.BlankWords as words
use borrow.Author.Rules.{rules}
use Rattle.shapes.proofs.blanks.from_payee.Goals as goal

pub returns : goal.returns
returns c =
    let t = c.args.t.now in
    let law = words.from-payee t c.word_at-first.result c.word_at.result c.word_at-first.ensures
    c.word_at.ensures (search rules) in
    simp (c.four_are.ensures, c.four_are-2.ensures) law
