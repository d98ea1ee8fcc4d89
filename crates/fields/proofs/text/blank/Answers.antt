use mathlib.Core.Path.{sym, ◌∙◌, ap}
use mathlib.Core.Bool.{◌&&◌, and-true, and_assoc}
use Prim.Native.Nat.{◌+◌}
use lib.Dec.{eqb}
use lib.ListN.{get_or, drop, drop_of_length-le}
use Rattle.fields.specs.Text.{blank}
use Rattle.fields.proofs.FromFront.{left-from}
use borrow.Author.Rules.{rules}
use Rattle.fields.proofs.text.blank.Goals as goal

pub loop-b-preserved : goal.loop-b-preserved
loop-b-preserved c =
    let s = c.args.s.now in
    let l = c.loop-b in
    l.invariant
    ∙ ap (λ t. l.zeros && blank t) (left-from s l.b-index (search rules))
    ∙ sym (and_assoc l.zeros (eqb (get_or s l.b-index 0) 0) (blank (drop (l.b-index + 1) s)))

pub returns : goal.returns
returns c =
    let none = drop_of_length-le c.args.s.now c.loop-b-test.false in
    sym (c.loop-b.invariant ∙ ap (λ t. c.loop-b.zeros && blank t) none ∙ and-true c.loop-b.zeros)
