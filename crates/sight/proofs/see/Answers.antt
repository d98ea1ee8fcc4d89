-- `sight::see` meets its contract: what is asked for was found, and amount and time follow. Assumes nothing.
use mathlib.Core.Path.{sym, ◌∙◌}
use Rattle.sight.proofs.Seeing.{sight-unknown}
use borrow.Author.Rules.{rules}
use Rattle.sight.proofs.see.Goals as goal

pub returns-in_default : goal.returns-in_default
returns-in_default g c =
    let a = c.args in
    sym (sight-unknown a.clock a.t.now _ _ _ (sym c.kind_of.ensures ∙ c.in_default.is))

pub parties_of-requires : goal.parties_of-requires
parties_of-requires g c =
    let p = c.requires in
    let l = p.0 in
    let k = sym c.kind_of.ensures ∙ c.in-Some.is in
    let b = p.1 in
    let o = p.2 in
    let r = p.3 in
    search rules
