-- Held and open debit anywhere are looked for at a cut alone. Assumes nothing.
use Rattle.std.specs.Prelude.{false, cond}
use mathlib.Core.Path.{sym, ◌∙◌, ap}
use Rattle.ticket.specs.declared.kinds.Kind.{Kind}
use Rattle.rules.specs.Find.{any_open}
use Rattle.rules.specs.Terms.{terms_of}
use Rattle.moves.proofs.InUse.{open-front}
use Rattle.course.specs.Seeking.{seeks_open}
use Rattle.course.proofs.Seeking.{open-sum}
use Rattle.engine.proofs.kept.KeptBook.unconfirmed.Goals as goal

pub returns-in-Cut : goal.returns-in-Cut
returns-in-Cut c =
    let b = c.args.self.now.book in
    c.any_open.ensures
    ∙ open-front b.covers b.roster.size
    ∙ open-sum b
    ∙ sym (ap (λ (k : Kind). cond (seeks_open (terms_of k).flow) (any_open b) false) c.in-Cut.is)
