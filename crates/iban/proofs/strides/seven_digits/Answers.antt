-- `iban::strides::seven_digits` meets its contract. Assumes nothing.
use mathlib.Core.Path.{refl}
use native.Mathlib.Omega.{arith}
use Rattle.iban.proofs.StrideNumbers.{seven-write}
use Rattle.iban.proofs.strides.seven_digits.Goals as goal

pub returns : goal.returns
returns c =
    (seven-write c.args.s.now c.args.i c.requires.0 c.requires.1 _ refl refl (omega arith), omega arith)
