-- `zolfigar_pacs008` answers by a verdict that is the text's. Assumes nothing.
use Rattle.std.proofs.Common.{refl, sym, ◌∙◌, ap}
use borrow.Author.Tests.{lt-ltb, le-ltb}
use Rattle.pacs.specs.Walk.{found}
use Rattle.pacs.specs.Answering.{verdict_of}
use Rattle.pacs.specs.Wrongs.{refusal_in}
use Rattle.pacs.proofs.Answers.{answered}
use Rattle.reader.proofs.zolfigar_pacs008.Goals as goal

pub returns-then-ticket-lt108 : goal.returns-then-ticket-lt108
returns-then-ticket-lt108 c =
    let v = verdict_of c.args.time (found c.args.text.now) in
    let short = lt-ltb _ _ c.if-ticket-lt108.true in
    record { verdict = v; answered = answered _ _ v refl; number = rw short; ticket = rw short }

pub returns-in-Ok : goal.returns-in-Ok
returns-in-Ok c =
    let v = verdict_of c.args.time (found c.args.text.now) in
    let long = le-ltb _ _ c.if-ticket-lt108.false in
    let read = c.read.ensures in
    record {
      verdict = v;
      answered = answered _ _ v refl;
      number = rw long (sym (ap refusal_in c.in-Ok.is) ∙ read.0);
      ticket = rw long read.1;
    }

pub returns-in-Err : goal.returns-in-Err
returns-in-Err c =
    let v = verdict_of c.args.time (found c.args.text.now) in
    let long = le-ltb _ _ c.if-ticket-lt108.false in
    let read = c.read.ensures in
    record {
      verdict = v;
      answered = answered _ _ v refl;
      number = rw long (c.refusal.ensures ∙ sym (ap refusal_in c.in-Err.is) ∙ read.0);
      ticket = rw long read.1;
    }
