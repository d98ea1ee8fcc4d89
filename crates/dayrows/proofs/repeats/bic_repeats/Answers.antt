use Rattle.std.proofs.Common.{◌+◌, ◌*◌, length, sym, ap, ◌∙◌, subst, arith}
use Rattle.index.specs.RowChains.{Distinct}
use Rattle.index.proofs.Comparing.{slice-bytes}
use Rattle.index.proofs.RowsOf.{length-of}
use Rattle.dayrows.proofs.Repeating.{words-at, rows-apart, told, one-more, repeats-here}
use Rattle.dayrows.proofs.repeats.bic_repeats.Goals as goal

pub find-requires : goal.find-requires
find-requires c =
    let a = c.args in
    let p = c.requires in (
      omega arith,
      (
        omega arith,
        subst Distinct (sym c.loop-i.invariant.0)
            (rows-apart a.start a.width a.n a.f.now (slice-bytes _ c.type_inv.f) p.0 p.2 c.loop-i.i (omega arith) c.loop-i.invariant.1),
      ),
    )

pub returns-then-is_some : goal.returns-then-is_some
returns-then-is_some c =
    let a = c.args in
    let p = c.requires in
    let bytes = slice-bytes _ c.type_inv.f in
    sym
    (repeats-here a.start a.width a.n a.f.now bytes p.0 p.2 c.loop-i.i c.loop-i-test.true
    (sym (told a.start a.width a.n a.f.now bytes p.0 p.2 c.loop-i.i c.loop-i-test.true c.loop-i.invariant.0
    (words-at (a.start + a.width * c.loop-i.i) a.f.now c.bic_words-bic.ensures) c.find.ensures c.is_some.ensures) ∙ c.if-is_some.true))

pub push-requires : goal.push-requires
push-requires c =
    let e = ap length c.loop-i.invariant.0 ∙ length-of _ c.loop-i.i in
    let few = c.requires.1 in
    let below = c.loop-i-test.true in
    (omega arith, (omega arith, omega arith))

pub loop-i-preserved : goal.loop-i-preserved
loop-i-preserved c =
    let a = c.args in
    let p = c.requires in
    let bytes = slice-bytes _ c.type_inv.f in
    let words = words-at (a.start + a.width * c.loop-i.i) a.f.now c.bic_words-bic.ensures in
    let m = one-more a.start a.width a.n a.f.now bytes p.0 p.2 c.loop-i.i c.loop-i.invariant.0 words c.loop-i.invariant.1
    (sym (told a.start a.width a.n a.f.now bytes p.0 p.2 c.loop-i.i c.loop-i-test.true c.loop-i.invariant.0 words c.find.ensures c.is_some.ensures)
    ∙ c.if-is_some.false) in
    (c.push.ensures ∙ m.0, m.1)
