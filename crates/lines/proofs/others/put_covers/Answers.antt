use mathlib.Core.Path.{◌≡◌}
use native.Mathlib.Numerals.{add-one}
use native.Mathlib.Omega.{arith}
use lib.ListN.{length}
use Rattle.lines.proofs.WritingParts.{filled_none, filled-behind}
use borrow.Author.Rules.{rules}
use Rattle.lines.proofs.others.put_covers.Goals as goal

pub loop-p-init : goal.loop-p-init
loop-p-init c =
    (search rules, filled_none c.args.text.now 0, search rules)

pub put_cover-at-requires : goal.put_cover-at-requires
put_cover-at-requires c =
    let kept = c.loop-p.invariant.1.kept in omega arith

pub loop-p-preserved : goal.loop-p-preserved
loop-p-preserved c = (
  search rules,
  rw (add-one c.loop-p.p) (filled-behind c.loop-p.invariant.1 c.put_cover-at.ensures.0 c.put_cover-at.auto.text),
  search rules,
)

pub shape_of-text : goal.shape_of-text
shape_of-text c =
    c.loop-p.invariant.1.kept

pub returns : goal.returns
returns c =
    let all : c.loop-p.p ≡ length c.args.covers.now = search rules in
    (rw (← all) c.loop-p.invariant.1.written, search rules)
