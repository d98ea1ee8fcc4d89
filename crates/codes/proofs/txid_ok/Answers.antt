-- `codes::txid_ok` meets its contract. Assumes nothing.
use mathlib.Core.Path.{◌∙◌, ap}
use mathlib.Core.Bool.{Bool, ◌&&◌, not}
use lib.Dec.{eqb}
use lib.ListN.{get_or}
use Rattle.codes.proofs.Padded.{txid-padded}
use Rattle.codes.proofs.txid_ok.Goals as goal

pub returns : goal.returns
returns c =
    let s = c.args.s.now in
    ap (λ (b : Bool). not (eqb (get_or s 0 0) 0) && b) c.all_padded.ensures ∙ txid-padded s c.requires
