-- `engine::directory::put_directory` meets its contract. Assumes nothing.
use Rattle.std.proofs.Common.{sym, subst}
use Rattle.codes.proofs.WholeCodes.{bic-length}
use Rattle.dayfile.specs.Roster.{participant_in, row_of}
use Rattle.index.specs.LentRows.{BicRows}
use Rattle.index.proofs.LentRows.{bic-rows}
use Rattle.engine.proofs.directory.put_directory.Goals as goal

pub put_bics-requires-clause-formed : goal.put_bics-requires-clause-formed
put_bics-requires-clause-formed c =
    let g = c.requires.roster in (g.size, λ p h. bic-length _ (g.bic p h))

pub put_bics-requires-clause-empty : goal.put_bics-requires-clause-empty
put_bics-requires-clause-empty c = c.requires.senders

pub put_route_bics-requires-clause-formed : goal.put_route_bics-requires-clause-formed
put_route_bics-requires-clause-formed c =
    let g = c.requires.roster in (g.rows, λ i h. bic-length _ (g.route_bic i h))

pub put_route_bics-requires-clause-empty : goal.put_route_bics-requires-clause-empty
put_route_bics-requires-clause-empty c = c.requires.payees

pub returns : goal.returns
returns c =
    let g = c.requires.roster in
    let r = c.args.roster.now in
    record {
      sender = c.put_bics.ensures;
      senders =
          subst BicRows (sym c.put_bics.ensures) (bic-rows (λ p. (participant_in r.participants p).bic) r.size g.bic g.distinct);
      payee = c.put_route_bics.ensures;
      payees =
          subst BicRows (sym c.put_route_bics.ensures)
          (bic-rows (λ i. (row_of r.routes i).bic) r.rows g.route_bic g.route_distinct);
    }
