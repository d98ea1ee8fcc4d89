-- What is searched is what the book finds. Assumes nothing.
use Rattle.std.proofs.Common.{lit<}
use mathlib.Core.Path.{refl, ◌∙◌}
use Rattle.index.proofs.Comparing.{slice-bytes}
use Rattle.engine.proofs.Searching.{keys-lent, all_found}
use Rattle.engine.proofs.kept.KeptBook.see.Goals as goal

pub see-requires : goal.see-requires
see-requires c =
    let d = c.requires.lent in (
      lit< tt,
      (
        lit< tt,
        (
          lit< tt,
          (c.requires.whole, d.senders, keys-lent c.requires.sound c.args.self.now.kept.index, d.payees),
        ),
      ),
    )

pub returns : goal.returns
returns c =
    c.see.ensures
    ∙ all_found c.requires.sound.roster c.requires.lent c.args.t.now c.requires.whole (slice-bytes _ c.type_inv.t) c.requires.sound
    c.args.self.now.kept.index refl
