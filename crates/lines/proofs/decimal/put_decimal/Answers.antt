-- `lines::decimal::put_decimal` meets its contract. Assumes nothing.
use Prim.Native.Nat.{◌+◌}
use native.Mathlib.Omega.{arith}
use Rattle.lines.proofs.Digits.{decimal-one, decimal-length-one}
use Rattle.lines.proofs.WritingParts.{written_byte}
use Rattle.lines.proofs.decimal.put_decimal.Goals as goal

pub bounds-text-at : goal.bounds-text-at
bounds-text-at c =
    let l = decimal-length-one c.args.n c.if-digit.true in omega arith

pub returns-then-digit : goal.returns-then-digit
returns-then-digit c =
    let a = c.args in
    rw (decimal-one a.n c.if-digit.true) (written_byte a.text.now a.at (48 + a.n))
