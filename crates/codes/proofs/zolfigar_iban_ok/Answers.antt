-- `codes::zolfigar_iban_ok` meets its contract. Assumes nothing.
use mathlib.Core.Path.{◌≡◌, refl, ◌∙◌, ap}
use mathlib.Core.Bool.{Bool, true, false}
use Prim.Native.Nat.{ℕ}
use mir.Val.{bool_byte}
use lib.Dec.{eqb}
use Rattle.classes.specs.CheckAnswer.{answer}
use Rattle.codes.proofs.IbanBytes.{remainder-tells}
use Rattle.codes.proofs.zolfigar_iban_ok.Goals as goal

one_or_none : (b : Bool) → bool_byte b ≡ answer b
one_or_none true = refl
one_or_none false = refl

pub returns : goal.returns
returns c =
    c.from.ensures
    ∙ one_or_none (eqb c.checked.result.remainder 1)
    ∙ ap answer (ap (λ (n : ℕ). eqb n 1) c.checked.ensures.0 ∙ remainder-tells c.args.s.now)
