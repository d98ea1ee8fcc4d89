-- Whether the value of a padded field is a TxId, by the bytes of the field. Assumes nothing.
use mathlib.Core.Path.{◌≡◌, refl, sym, ◌∙◌, ap}
use mathlib.Core.Bool.{Bool, true, false, ◌&&◌, not, and-true}
use mathlib.Core.List.{List}
use Prim.Native.Nat.{ℕ}
use native.Mathlib.Omega.{arith}
use borrow.Author.Tests.{le-leb}
use lib.Dec.{leb, eqb}
use lib.ListN.{length, get_or}
use Rattle.fields.specs.Text.{unpadded}
use Rattle.classes.specs.Class.{all_in}
use Rattle.classes.specs.declared.Class.TheVariants.{Txid}
use Rattle.classes.proofs.Unpadding.{value-within, zero-first, used-first}
use Rattle.codes.specs.Txid.{is_txid}

-- the first byte is used, and all before the padding are of the class
pub txid-padded : (s : List ℕ) → length s ≡ 35 → (not (eqb (get_or s 0 0) 0) && all_in Txid (unpadded s)) ≡ is_txid (unpadded s)
unfolding is_txid
txid-padded s h = go (eqb (get_or s 0 0) 0) refl
  where
    short : leb (length (unpadded s)) 35 ≡ true
    short = le-leb (length (unpadded s)) 35 (omega (arith, value-within s))

    go : (z : Bool) → eqb (get_or s 0 0) 0 ≡ z
        → (not z && all_in Txid (unpadded s)) ≡ (leb 1 (length (unpadded s)) && leb (length (unpadded s)) 35 && all_in Txid (unpadded s))
    go false z = simp (le-leb 1 (length (unpadded s)) (used-first s z), short)
    go true z =
        sym (ap (λ (b : Bool). leb 1 (length (unpadded s)) && b && all_in Txid (unpadded s)) short ∙ simp and-true (zero-first Txid s z))
