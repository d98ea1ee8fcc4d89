-- `prolog::is_declared` meets its contract. Assumes nothing.
use mathlib.Core.Path.{sym}
use native.Mathlib.Omega.{arith}
use lib.ListN.{take, length-take}
use Rattle.fields.specs.Text.{text}
use Rattle.fields.proofs.Same.{same-lengths}
use Rattle.prolog.proofs.is_declared.Goals as goal

pub returns-then-text-lt5 : goal.returns-then-text-lt5
returns-then-text-lt5 c =
    let s = c.args.text.now in
    sym (same-lengths (take 5 s) (text "<?xml") (λ e. omega (arith, length-take 5 s)))
