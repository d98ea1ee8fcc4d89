-- `iban::iban_ok` meets its contract. Assumes nothing.
use mathlib.Core.Path.{◌≡◌, sym, ◌∙◌, ap, ap₂}
use mathlib.Core.Bool.{Bool, ◌&&◌}
use mathlib.Core.List.{List}
use Prim.Native.Nat.{ℕ}
use native.Mathlib.Omega.{arith}
use lib.Dec.{eqb}
use lib.ListN.{length}
use Rattle.fields.specs.Text.{unpadded}
use Rattle.classes.specs.Class.{all_in}
use Rattle.classes.specs.declared.Class.TheVariants.{CapitalOrDigit}
use Rattle.iban.specs.Iban.{digits, rearranged, iban_shape}
use Rattle.iban.specs.Groups.{over_groups}
use Rattle.iban.specs.Strides.{iban_front}
use Rattle.iban.proofs.GroupLaws.{iban-by-groups}
use Rattle.iban.proofs.IbanShape.{shape-padded}
use Rattle.iban.proofs.iban_ok.Goals.{then-iban_front, else-iban_front}
use Rattle.iban.proofs.iban_ok.Goals as goal

-- the first two tests are those of the shape; the second is made where the first passed
first : (s : List ℕ) → length s ≡ 34 → {tested front value : Bool} → tested ≡ iban_front s → tested ≡ front
    → value ≡ (front && all_in CapitalOrDigit (unpadded s)) → value ≡ iban_shape (unpadded s)
first s h e is v =
    v
    ∙ ap (λ (b : Bool). b && all_in CapitalOrDigit (unpadded s)) (sym is ∙ e)
    ∙ shape-padded s (omega arith) (omega arith)

pub divided-requires : goal.divided-requires
divided-requires c =
    let s = c.args.s.now in
    let shaped : c.if-iban_front.value ≡ iban_shape (unpadded s) =
    elim c.if-iban_front.branch [
      | then-iban_front w ↦ first s c.requires c.iban_front.ensures w.if-iban_front.true (w.value-is ∙ w.all_padded.ensures)
      | else-iban_front w ↦ first s c.requires c.iban_front.ensures w.if-iban_front.false (w.value-is ∙ w.if-iban_front.false)
    ]
    in
    sym shaped ∙ c.if-all_padded.true

pub returns-then-all_padded : goal.returns-then-all_padded
returns-then-all_padded c =
    let s = c.args.s.now in
    let shaped : c.if-iban_front.value ≡ iban_shape (unpadded s) =
    elim c.if-iban_front.branch [
      | then-iban_front w ↦ first s c.requires c.iban_front.ensures w.if-iban_front.true (w.value-is ∙ w.all_padded.ensures)
      | else-iban_front w ↦ first s c.requires c.iban_front.ensures w.if-iban_front.false (w.value-is ∙ w.if-iban_front.false)
    ]
    in
    ap₂ (λ (b : Bool) (n : ℕ). b && eqb n 1) (sym c.if-all_padded.true ∙ shaped) c.divided.ensures.0 ∙ sym (iban-by-groups (unpadded s))

pub returns-else-all_padded : goal.returns-else-all_padded
returns-else-all_padded c =
    let s = c.args.s.now in
    let shaped : c.if-iban_front.value ≡ iban_shape (unpadded s) =
    elim c.if-iban_front.branch [
      | then-iban_front w ↦ first s c.requires c.iban_front.ensures w.if-iban_front.true (w.value-is ∙ w.all_padded.ensures)
      | else-iban_front w ↦ first s c.requires c.iban_front.ensures w.if-iban_front.false (w.value-is ∙ w.if-iban_front.false)
    ]
    in
    c.if-all_padded.false
    ∙ ap (λ (b : Bool). b && eqb (over_groups (digits (rearranged (unpadded s)))) 1) (sym c.if-all_padded.false ∙ shaped)
    ∙ sym (iban-by-groups (unpadded s))
