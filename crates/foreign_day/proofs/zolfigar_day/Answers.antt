-- `foreign_day::zolfigar_day` meets its contract: piece by piece (`BetweenPieces`). Assumes nothing.
use Rattle.std.specs.Prelude.{ℕ}
use mathlib.Core.Path.{◌∙◌}
use lib.ListN.{length-replicate}
use Rattle.foreign_day.proofs.BetweenPieces.{before-pieces, fewer, piece-more, ended-length, ended-text}
use Rattle.foreign_day.proofs.zolfigar_day.Goals as goal

pub loop-length-init : goal.loop-length-init
loop-length-init c =
    let a = c.args in
    (rw c.begin-day.ensures.0 (before-pieces a.file.now a.text.now), length-replicate {A = ℕ} 56832 0)

pub loop-length-smaller : goal.loop-length-smaller
loop-length-smaller c =
    let a = c.args in
    let l = c.loop-length in
    let next = c.in-Some.ensures in
    fewer a.file.now a.text.now l.text l.day l.at l.invariant.0 next.0 l.piece _ c.in-Some.length _ next.1 l.invariant.1

pub loop-length-preserved : goal.loop-length-preserved
loop-length-preserved c =
    let a = c.args in
    let l = c.loop-length in
    let next = c.in-Some.ensures in
    let law = piece-more a.file.now a.text.now l.text l.day l.at l.invariant.0 next.0 l.piece _ c.in-Some.length _ next.1 l.invariant.1 in
    (law _ c.put_piece.ensures, c.next_piece.auto.text ∙ l.invariant.1)

pub returns : goal.returns
returns c =
    let a = c.args in
    let l = c.loop-length in
    let ended = c.in_default.ensures.0 in (
      ended-length a.file.now a.text.now l.text l.day l.at l.invariant.0 ended,
      ended-text a.file.now a.text.now l.text l.day l.at l.invariant.0 ended,
    )
