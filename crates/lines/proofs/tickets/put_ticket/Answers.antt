-- `lines::tickets::put_ticket` meets its contract. Assumes nothing.
use Rattle.lines.proofs.WritingParts.{written-more}
use borrow.Author.Rules.{rules}
use Rattle.lines.proofs.tickets.put_ticket.Goals as goal

pub returns : goal.returns
returns c =
    (written-more c.put_answer_line-end.ensures.0 c.put_reports.ensures.0, search rules)
