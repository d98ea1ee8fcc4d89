-- `draft::writing::put_ticket` meets its contract. Assumes nothing.
use Rattle.std.proofs.Common.{◌≡◌, ◌^◌, ◌<◌, length, refl, arith}
use Rattle.draft.proofs.TicketStores.{ticket-written}
use Rattle.draft.proofs.writing.put_ticket.Goals as goal

pub returns : goal.returns
returns c =
    let fits : c.args.time < 256 ^ 4 = omega arith in
    let s : length c.args.sender.now ≡ 11 = omega arith in
    let p : length c.args.payee.now ≡ 11 = omega arith in
    ticket-written c.args.ticket.now c.args.time c.args.amount c.args.sender.now c.args.payee.now c.args.txid.now c.args.iban.now fits
    c.requires.0 s p c.requires.1 c.requires.2 c.put_u64.ensures c.put_u64-2.ensures
    c.put_bytes.ensures c.put_bytes-2.ensures c.put_padded.ensures c.put_padded-2.ensures refl
