-- `same_four` tells whether four bytes are the same. Assumes nothing.
use borrow.Author.Rules.{rules}
use Rattle.reader.proofs.Alike.{from-four}
use Rattle.reader.proofs.names.same_four.Goals as goal

pub returns : goal.returns
returns c =
    let a = c.args in
    from-four a.a.now a.b.now a.i (search rules) (search rules)
