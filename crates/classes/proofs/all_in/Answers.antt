use Prim.Native.Nat.{◌+◌}
use mathlib.Core.Bool.{Bool, ◌&&◌, and-true, and_assoc}
use mathlib.Core.Path.{◌∙◌, ap, sym}
use borrow.Author.Rules.{rules}
use lib.ListN.{get_or, drop, drop_of_length-le}
use Rattle.classes.specs.Class.{is_in, all_in}
use Rattle.fields.proofs.FromFront.{left-from}
use Rattle.classes.proofs.all_in.Goals as goal

pub loop-c-preserved : goal.loop-c-preserved
loop-c-preserved c =
    let class = c.args.class in
    let s = c.args.s.now in
    let l = c.loop-c in
    let rest = all_in class (drop (l.c-index + 1) s) in
    l.invariant
    ∙ ap (λ t. l.all && all_in class t) (left-from s l.c-index (search rules))
    ∙ sym (and_assoc l.all (is_in class (get_or s l.c-index 0)) rest)
    ∙ ap (λ (b : Bool). l.all && b && rest) (sym c.is_in-all.ensures)

pub returns : goal.returns
returns c =
    let l = c.loop-c in
    sym (l.invariant ∙ ap (λ t. l.all && all_in c.args.class t) (drop_of_length-le _ c.loop-c-test.false) ∙ and-true l.all)
