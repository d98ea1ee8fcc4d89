-- A ticket is judged on the facts. Assumes nothing.
use Rattle.std.specs.Prelude.{◌<◌}
use mathlib.Core.Path.{◌∙◌, ap}
use native.Mathlib.Omega.{arith}
use borrow.Author.Rules.{rules}
use Rattle.course.proofs.SoughtFitting.{any-payee}
use Rattle.verdict.specs.Judgement.{verdict_of}
use Rattle.engine.proofs.Passing.{kept-total, facts-as}
use Rattle.engine.proofs.kept.KeptBook.judge.Goals as goal

pub offset_bounds-self-i : goal.offset_bounds-self-i
offset_bounds-self-i c =
    let q = c.unwrap_or-i.ensures in let h = c.requires.order in let l : c.unwrap_or-i.result < 256 = omega arith in search rules

pub bounds-self-i : goal.bounds-self-i
bounds-self-i c = let q = c.unwrap_or-i.ensures in let h = c.requires.order in omega arith

pub offset_bounds-self-p : goal.offset_bounds-self-p
offset_bounds-self-p c =
    let q = c.unwrap_or-p.ensures in let h = c.requires.sender in let l : c.unwrap_or-p.result < 32 = omega arith in search rules

pub bounds-self-p : goal.bounds-self-p
bounds-self-p c = let q = c.unwrap_or-p.ensures in let h = c.requires.sender in omega arith

pub offset_bounds-self-o : goal.offset_bounds-self-o
offset_bounds-self-o c =
    let q = c.unwrap_or-i.ensures in
    let h = c.requires.order in
    let k = any-payee c.args.self.now.book c.requires.sound c.unwrap_or-i.result (omega arith) in
    search rules

pub bounds-self-o : goal.bounds-self-o
bounds-self-o c =
    let q = c.unwrap_or-i.ensures in
    let h = c.requires.order in
    any-payee c.args.self.now.book c.requires.sound c.unwrap_or-i.result (omega arith)

pub unconfirmed-requires : goal.unconfirmed-requires
unconfirmed-requires c = c.requires.sound.roster.size

pub judge-requires : goal.judge-requires
judge-requires c =
    let b = c.args.self.now.book in
    let e = kept-total b c.requires.sound c.args.self.now.kept.sum in
    let l = c.requires.sound.limited in
    omega arith

pub returns : goal.returns
returns c =
    let b = c.args.self.now.book in
    c.judge.ensures
    ∙ ap verdict_of
    (facts-as b c.args.s c.args.way c.unwrap_or-p.ensures c.unwrap_or-i.ensures c.is_bank.ensures c.unconfirmed.ensures
    (kept-total b c.requires.sound c.args.self.now.kept.sum))
