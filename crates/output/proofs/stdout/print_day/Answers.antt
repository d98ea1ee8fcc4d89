-- `output::stdout::print_day` ends: each piece leaves fewer of them. Assumes nothing.
use Rattle.output.proofs.Piecewise.{piece-goes-on}
use Rattle.output.proofs.stdout.print_day.Goals as goal

pub loop-length-smaller : goal.loop-length-smaller
loop-length-smaller g c =
    let l = c.loop-length in
    let next = c.in-Some.ensures in
    rw next.1.day (piece-goes-on c.args.file.now l.day l.invariant.0 next.0).less
