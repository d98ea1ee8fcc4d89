-- `draft::writing::put_padded` meets its contract. Assumes nothing.
use Rattle.draft.proofs.TicketStores.{padded-filled}
use Rattle.draft.proofs.writing.put_padded.Goals as goal

pub returns : goal.returns
returns c =
    let a = c.args in
    padded-filled a.ticket.now a.s.now a.at a.width c.requires.0 c.requires.1 c.put_bytes.ensures (c.fill.ensures.after (λ y e. e))
