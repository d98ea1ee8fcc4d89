use Rattle.std.proofs.Common.{◌<◌, arith}
use Rattle.index.proofs.RowsInUse.{count-is, pushed-chained}
use Rattle.index.proofs.table.Index.push.Goals as goal

pub invariant_of-self : goal.invariant_of-self
invariant_of-self g c =
    let x = c.self.inside in
    let room : x.count < g.row.ROWS =
    let long = count-is x.rows x.count c.self.view_is c.self.told2 c.self.invariant.0 in let r = c.requires in omega arith in (
      omega arith,
      c.self.invariant.1,
      pushed-chained x.rows x.count c.self.invariant.2 c.self.told (let l = c.self.told3 in omega arith) (let l = c.self.told2 in omega arith)
          c.args.words.now c.bucket-h.ensures.0 c.bucket-h.ensures.1,
    )
