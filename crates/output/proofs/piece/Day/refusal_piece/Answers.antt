-- `output::piece::Day::refusal_piece` meets its contract. Assumes nothing.
use Rattle.output.proofs.Piecewise.{refusal-piece}
use Rattle.output.proofs.piece.Day.refusal_piece.Goals as goal

pub returns : goal.returns
returns c =
    let p = c.requires in
    let l = c.put_refusal.ensures in
    refusal-piece c.args.file.now c.args.self.now p.0 p.2 l.0 l.1
