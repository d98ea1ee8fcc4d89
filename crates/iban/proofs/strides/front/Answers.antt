-- `iban::strides::front` meets its contract. Assumes nothing.
use native.Mathlib.Omega.{arith}
use Rattle.iban.proofs.FrontNumber.{front_read}
use Rattle.iban.proofs.strides.front.Goals as goal

pub returns : goal.returns
returns c =
    let read = front_read c.args.s.now c.requires.0 c.requires.1 c.requires.2 in
    (omega arith, omega arith)
