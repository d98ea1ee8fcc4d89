use mathlib.Core.Path.{◌≡◌, refl, ap}
use Prim.Native.Nat.{◌+◌, ◌≤◌}
use native.Mathlib.Numerals.{add-one}
use native.Mathlib.Omega.{arith}
use Rattle.report.specs.Answer.{answer_at}
use Rattle.report.specs.declared.answer.Answer.{Answer}
use Rattle.lines.specs.Lines.{start_of, ticket_text}
use Rattle.lines.proofs.Starts.{start-next, start-within}
use Rattle.lines.proofs.WritingParts.{filled_none, filled-behind}
use borrow.Author.Rules.{rules}
use Rattle.lines.proofs.tickets.put_lines.Goals.{After-answer_at-a}
use Rattle.lines.proofs.tickets.put_lines.Goals as goal

-- the ticket's reports are among those that all tickets count
counted : (c : After-answer_at-a)
    → let a = c.args in
    c.loop-i.from + c.answer_at-a.result.reports ≤ start_of a.answers.now a.taken
counted c =
    let a = c.args in
    let e = ap (λ (x : Answer). x.reports) c.answer_at-a.ensures in
    let w = start-within a.answers.now a.taken c.loop-i.i (search rules) in
    omega arith

pub loop-i-init : goal.loop-i-init
loop-i-init c =
    (search rules, refl, filled_none c.args.text.now 0, search rules)

pub put_ticket-at-requires : goal.put_ticket-at-requires
put_ticket-at-requires c =
    let kept = c.loop-i.invariant.2.kept in
    let n = counted (goal.at.put_ticket-at-requires c).After-answer_at-a in
    (omega arith, omega arith)

pub overflow_add-from : goal.overflow_add-from
overflow_add-from c =
    let n = counted (goal.at.overflow_add-from c).After-answer_at-a in omega arith

pub loop-i-preserved : goal.loop-i-preserved
loop-i-preserved c =
    let a = c.args in
    let e = ap (λ (x : Answer). x.reports) c.answer_at-a.ensures in
    let next = start-next a.answers.now c.loop-i.i in
    let w = rw (c.answer_at-a.ensures, c.loop-i.invariant.1) at c.put_ticket-at.ensures.0 in
    let text = ticket_text (a.k + c.loop-i.i) (answer_at a.answers.now c.loop-i.i) a.reports.now
    (start_of a.answers.now c.loop-i.i) in
    let most = c.put_ticket-at.ensures.1 in (
      search rules,
      omega arith,
      rw (add-one c.loop-i.i) (filled-behind {b = text} c.loop-i.invariant.2 w c.put_ticket-at.auto.text),
      omega arith,
    )

pub shape_of-text : goal.shape_of-text
shape_of-text c =
    c.loop-i.invariant.2.kept

pub returns : goal.returns
returns c =
    let all : c.loop-i.i ≡ c.args.taken = search rules in
    let e = ap (start_of c.args.answers.now) all in
    (rw (← all) c.loop-i.invariant.2.written, omega arith)
