-- `output::piece::Day::tickets_piece` meets its contract: the batch is one of the tickets from the first not yet taken on. Assumes nothing.
use Rattle.std.specs.Prelude.{◌+◌, Bool}
use mathlib.Core.Path.{sym, subst}
use native.Mathlib.Omega.{arith}
use Rattle.fields.proofs.FromFront.{to_end}
use Rattle.output.specs.Pieces.{PieceOf}
use Rattle.output.proofs.Piecewise.{batch-within, batch-piece}
use Rattle.output.proofs.piece.Day.tickets_piece.Goals as goal

pub overflow_add-self : goal.overflow_add-self
overflow_add-self c =
    let d = c.args.self.now in
    let p = c.requires in
    let l = p.0.tickets p.2 in
    let w = batch-within c.args.file.now d p.0 p.2 in
    let b = rw to_end at c.take_batch-p.ensures in
    let e = b.taken in
    omega arith

pub returns : goal.returns
returns c =
    let d = c.args.self.now in
    let p = c.requires in
    let b = c.take_batch-p in
    let h = rw to_end at b.ensures in
    subst
    (λ (ended : Bool).
    PieceOf c.args.file.now d c.args.text.now b.result.length
    (record {
      refusal = d.refusal;
      book = b.result.book;
      tickets = d.tickets;
      first = d.first;
      taken = d.taken + b.result.taken;
      ended = ended;
    })
    b.new.text)
    (sym p.1) (batch-piece c.args.file.now d p.0 p.2 p.3 h)
