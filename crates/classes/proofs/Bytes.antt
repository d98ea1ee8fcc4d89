-- The code's test for a byte of a TxId, compared with the definition at each of the 256. Assumes nothing.
use mathlib.Core.Path.{◌≡◌, refl}
use mathlib.Core.Bool.{Bool, true, false, ◌&&◌, ◌||◌, not, beq}
use Prim.Native.Nat.{ℕ, ◌<◌}
use Rattle.fields.proofs.UpTo.{all-at}
use Rattle.classes.specs.Class.{between, is, capital, small, is_in}
use Rattle.classes.specs.declared.Class.TheVariants.{Txid}

-- the test of the code
abbrev tested : ℕ → Bool
tested c = capital c || small c || is "?" c || (between "'" ":" c && not (is "*" c))

same : (a b : Bool) → beq a b ≡ true → a ≡ b
same true true e = refl
same true false e = cc
same false true e = cc
same false false e = refl

pub txid-tested : (c : ℕ) → c < 256 → tested c ≡ is_in Txid c
txid-tested c h = same (tested c) (is_in Txid c) (all-at (λ n. beq (tested n) (is_in Txid n)) 256 c refl h)
