-- How long an IBAN is, and that it is its own value: padding it loses nothing. Assumes nothing.
use mathlib.Core.Path.{◌≡◌}
use mathlib.Core.Bool.{true}
use mathlib.Core.List.{List}
use Prim.Native.Nat.{ℕ, ◌≤◌}
use lib.Dec.{eqb}
use lib.ListN.{length}
use Rattle.fields.specs.Text.{unpadded}
use Rattle.fields.proofs.Tests.{and_left}
use Rattle.iban.specs.Iban.{is_iban, iban_shape, remainder, rearranged}
use Rattle.iban.proofs.ShapeParts.{shape-most, shape-whole}

module _ (s : List ℕ) (e : is_iban s ≡ true) where
  shaped : iban_shape s ≡ true
  unfolding is_iban
  shaped = and_left (iban_shape s) (eqb (remainder (rearranged s)) 1) e

  pub iban-length : length s ≤ 34
  iban-length = shape-most s shaped

  pub iban-whole : unpadded s ≡ s
  iban-whole = shape-whole s shaped
