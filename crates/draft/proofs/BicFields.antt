-- The eleven bytes of a BIC are those of the filled text where that is a BIC, and no BIC where it isn't. Assumes nothing.
use mathlib.Core.Path.{◌≡◌, refl}
use mathlib.Core.Bool.{Bool, true, false, cond}
use mathlib.Core.List.{List, ◌++◌}
use Prim.Native.Nat.{ℕ}
use borrow.Author.Tests.{eqb-false}
use lib.Dec.{eqb}
use lib.ListN.{length}
use Rattle.std.specs.Prelude.{Some, None}
use Rattle.fields.specs.Text.{text}
use Rattle.codes.specs.Bic.{is_bic}
use Rattle.codes.proofs.WholeCodes.{bic-length}
use Rattle.pacs.specs.Judged.{filled}
use Rattle.draft.specs.Drafting.{bic_field}

not-eleven : (s : List ℕ) → (length s ≡ 11 → ⊥) → is_bic s ≡ false
not-eleven s h = go (is_bic s) refl
  where
    go : (b : Bool) → is_bic s ≡ b → b ≡ false
    go true e = absurd (h (bic-length s e))
    go false e = refl

pub field-none : (s : List ℕ) → bic_field s ≡ None → is_bic (filled s) ≡ false
field-none s = go (eqb (length s) 8) (eqb (length s) 11) refl
  where
    go : (a b : Bool) → eqb (length s) 11 ≡ b → cond a (Some (s ++ text "XXX")) (cond b (Some s) None) ≡ None
        → is_bic (cond a (s ++ text "XXX") s) ≡ false
    go true b e n = cc
    go false true e n = cc
    go false false e n = not-eleven s (eqb-false (length s) 11 e)

pub field-filled : (s : List ℕ) {field : List ℕ} → bic_field s ≡ Some field → field ≡ filled s
field-filled s {field} = go (eqb (length s) 8) (eqb (length s) 11)
  where
    go : (a b : Bool) → cond a (Some (s ++ text "XXX")) (cond b (Some s) None) ≡ Some field → field ≡ cond a (s ++ text "XXX") s
    go true b n = cc
    go false true n = cc
    go false false n = cc
