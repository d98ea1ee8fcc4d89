-- How long a BIC and a TxId are; and a TxId is its own value, since its class has no zero byte: padding it loses nothing.
-- Assumes nothing.
use mathlib.Core.Path.{◌≡◌}
use mathlib.Core.Bool.{true, ◌&&◌}
use mathlib.Core.List.{List}
use Prim.Native.Nat.{ℕ, ◌-◌, ◌≤◌}
use native.Mathlib.Omega.{arith}
use borrow.Author.Tests.{eqb-true, leb-true}
use lib.Dec.{leb}
use lib.ListN.{length}
use Rattle.fields.specs.Text.{unpadded}
use Rattle.fields.proofs.Tests.{and_left, and_right}
use Rattle.fields.proofs.Padding.{unpadded-whole}
use Rattle.classes.specs.Class.{all_in}
use Rattle.classes.specs.declared.Class.TheVariants.{Txid}
use Rattle.classes.proofs.All.{none-zero}
use Rattle.codes.specs.Bic.{is_bic}
use Rattle.codes.specs.Txid.{is_txid}

pub txid-whole : (s : List ℕ) → is_txid s ≡ true → unpadded s ≡ s
unfolding is_txid
txid-whole s e =
    let lengths = leb 1 (length s) && leb (length s) 35 in
    let long = leb-true 1 (length s) (and_left _ _ (and_left lengths (all_in Txid s) e)) in
    unpadded-whole s (length s - 1) (omega arith) (none-zero Txid s (length s - 1) (and_right lengths (all_in Txid s) e) (omega arith))

pub bic-length : (s : List ℕ) → is_bic s ≡ true → length s ≡ 11
unfolding is_bic
bic-length s e = eqb-true (length s) 11 (and_left _ _ (and_left _ _ (and_left _ _ (and_left _ _ e))))

pub txid-length : (s : List ℕ) → is_txid s ≡ true → length s ≤ 35
unfolding is_txid
txid-length s e = leb-true (length s) 35 (and_right (leb 1 (length s)) (leb (length s) 35) (and_left _ _ e))
