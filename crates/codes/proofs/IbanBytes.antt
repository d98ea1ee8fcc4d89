-- The shape of an IBAN, by the front of its bytes and their class; and what its remainder and its groups tell. Assumes nothing.
use mathlib.Core.Path.{◌≡◌, refl, sym, ◌∙◌, ap}
use mathlib.Core.Bool.{Bool, true, false, ◌&&◌, cond, and-false}
use mathlib.Core.List.{List}
use Prim.Native.Nat.{ℕ, ◌≤◌}
use native.Mathlib.Omega.{arith}
use lib.Dec.{eqb}
use lib.ListN.{length}
use Rattle.fields.specs.Text.{unpadded}
use Rattle.classes.specs.Class.{all_in}
use Rattle.classes.specs.declared.Class.TheVariants.{CapitalOrDigit}
use Rattle.iban.specs.Iban.{digits, rearranged, iban_shape, is_iban}
use Rattle.iban.specs.Groups.{over_groups}
use Rattle.iban.specs.Strides.{iban_front}
use Rattle.iban.proofs.IbanShape.{shape-padded}
use Rattle.iban.proofs.ShapeParts.{spelt-whole, shape-whole}
use Rattle.iban.proofs.GroupLaws.{iban-by-groups}

module _ (s : List ℕ) (least : 5 ≤ length s) (most : length s ≤ 34) where
  -- bytes without padding
  shape-of-whole : unpadded s ≡ s → (iban_front s && all_in CapitalOrDigit s) ≡ iban_shape s
  shape-of-whole e =
      ap (λ (u : List ℕ). iban_front s && all_in CapitalOrDigit u) (sym e) ∙ shape-padded s (omega arith) most ∙ ap iban_shape e

  pub shape-told : (iban_front s && all_in CapitalOrDigit s) ≡ iban_shape s
  shape-told = go (all_in CapitalOrDigit s) (iban_shape s) refl refl
    where
      go : (spelt shape : Bool) → all_in CapitalOrDigit s ≡ spelt → iban_shape s ≡ shape
          → (iban_front s && all_in CapitalOrDigit s) ≡ iban_shape s
      go true shape e f = shape-of-whole (spelt-whole s (omega arith) e)
      go false true e f = shape-of-whole (shape-whole s f)
      go false false e f = ap (◌&&◌ (iban_front s)) e ∙ and-false (iban_front s) ∙ sym f

-- whether bytes are an IBAN, by the remainder over their groups
pub remainder-tells : (s : List ℕ) → eqb (cond (iban_shape s) (over_groups (digits (rearranged s))) 0) 1 ≡ is_iban s
remainder-tells s = go (iban_shape s) ∙ sym (iban-by-groups s)
  where
    go : (b : Bool) → eqb (cond b (over_groups (digits (rearranged s))) 0) 1 ≡ (b && eqb (over_groups (digits (rearranged s))) 1)
    go true = refl
    go false = refl
