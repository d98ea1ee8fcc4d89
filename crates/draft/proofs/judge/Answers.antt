-- `draft::judge` meets its contract. Assumes nothing.
use Rattle.std.proofs.Common.{ap}
use Rattle.pacs.specs.declared.refusals.Refused.{Refused}
use Rattle.pacs.specs.Wrongs.{wrong_refusal}
use Rattle.draft.proofs.Verdicts.{refuses}
use Rattle.draft.proofs.KeptTells.{told-fault, told-missing, told-texts}
use Rattle.draft.proofs.judge.Goals as goal

pub returns-in-Some : goal.returns-in-Some
returns-in-Some c seen k =
    let h = told-fault c.args.time seen c.args.notes.now c.in-Some.refused k c.in-Some.is in
    let j = refuses c.args.ticket.now h.0 h.1 in
    (j.number, j.ticket)

pub returns-then-notes-lt-COUNT : goal.returns-then-notes-lt-COUNT
returns-then-notes-lt-COUNT c seen k =
    let j =
    refuses c.args.ticket.now (told-missing c.args.time seen c.args.notes.now k c.in_default.is c.if-notes-lt-COUNT.true)
    (ap (λ (r : Refused). wrong_refusal r.wrong) c.at.ensures)
    in
    (j.number, j.ticket)

pub returns : goal.returns
returns c seen k =
    let j = told-texts c.args.time seen c.args.notes.now _ k c.in_default.is c.if-notes-lt-COUNT.false
    c.judge_texts.ensures in
    (j.number, j.ticket)
