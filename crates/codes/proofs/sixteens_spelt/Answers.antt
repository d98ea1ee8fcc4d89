-- `codes::sixteens_spelt` meets its contract. Assumes nothing.
use mathlib.Core.Path.{◌∙◌, ap, ap₂}
use mathlib.Core.Bool.{◌&&◌}
use Prim.Native.Nat.{◌-◌}
use native.Mathlib.Omega.{arith}
use lib.ListN.{length}
use Rattle.classes.specs.Class.{all_in}
use Rattle.classes.specs.declared.Class.TheVariants.{CapitalOrDigit}
use Rattle.fields.proofs.FromFront.{to_end}
use Rattle.codes.proofs.TwoEnds.{both_ends}
use Rattle.codes.proofs.sixteens_spelt.Goals as goal

pub returns : goal.returns
returns c =
    let s = c.args.s.now in
    let from = length s - 16 in
    let last = c.all_in-2.ensures ∙ ap (all_in CapitalOrDigit) (to_end s from) in
    ap₂ ◌&&◌ c.all_in.ensures last ∙ both_ends CapitalOrDigit s from 16 (omega arith)
