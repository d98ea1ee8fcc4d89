-- `foreign_steps::zolfigar_steps` meets its contract. Assumes nothing.
use mathlib.Core.Path.{sym, ◌∙◌}
use native.Mathlib.Omega.{arith}
use Rattle.fields.proofs.FromFront.{to_end}
use Rattle.foreign_steps.proofs.Stepping.{refused-stepped, roomless-stepped, accepted-stepped, first-within}
use Rattle.foreign_steps.proofs.zolfigar_steps.Goals as goal

pub returns-then-o-ne0 : goal.returns-then-o-ne0
returns-then-o-ne0 c =
    let a = c.args in
    refused-stepped a.file.now a.answers.now a.reports.now c.open-o.result c.open-o.ensures.opened
    c.if-o-ne0.true

pub returns-then-lacks_room : goal.returns-then-lacks_room
returns-then-lacks_room c =
    let a = c.args in
    roomless-stepped a.file.now a.answers.now a.reports.now c.open-o.result c.open-o.ensures.opened
    c.if-o-ne0.false (sym c.lacks_room.ensures ∙ c.if-lacks_room.true)

-- the tickets lie within the file
pub slice_bounds-run-count : goal.slice_bounds-run-count
slice_bounds-run-count c =
    let a = c.args in
    let w = first-within a.file.now a.answers.now a.reports.now c.open-o.result c.open-o.ensures.opened c.if-o-ne0.false in
    omega arith

pub slice_bounds-run-start : goal.slice_bounds-run-start
slice_bounds-run-start c =
    let a = c.args in
    let w = first-within a.file.now a.answers.now a.reports.now c.open-o.result c.open-o.ensures.opened c.if-o-ne0.false in
    omega arith

pub run-requires : goal.run-requires
run-requires c =
    c.open-o.ensures.sound

pub returns : goal.returns
returns c =
    let a = c.args in
    accepted-stepped a.file.now a.answers.now a.reports.now c.open-o.result
    c.open-o.ensures.opened c.if-o-ne0.false (sym c.lacks_room.ensures ∙ c.if-lacks_room.false)
    (rw (to_end a.file.now c.open-o.result.first) at c.run.ensures)
