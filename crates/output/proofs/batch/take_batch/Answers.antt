-- `output::batch::take_batch` meets its contract. Assumes nothing.
use Rattle.std.specs.Prelude.{ℕ}
use lib.ListN.{length-replicate}
use Rattle.output.proofs.Batching.{batch-lined, batch-written}
use Rattle.output.proofs.batch.take_batch.Goals as goal

pub put_lines-requires : goal.put_lines-requires
put_lines-requires c =
    let a = c.args in
    let p = c.requires in
    batch-lined p.0 (length-replicate {A = ℕ} 2048 0) (length-replicate {A = ℕ} 12288 0) c.run-batch.ensures a.k a.text.now p.1 p.2

pub returns : goal.returns
returns c =
    let l = c.put_lines.ensures in
    batch-written c.requires.0 (length-replicate {A = ℕ} 2048 0) (length-replicate {A = ℕ} 12288 0) c.run-batch.ensures c.args.k l.0 l.1
