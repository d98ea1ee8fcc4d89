-- The table of the bytes of a name, compared with the definition at each of the 256. Assumes nothing.
use mathlib.Core.Path.{◌≡◌, refl}
use mathlib.Core.Bool.{Bool, true, false, beq}
use Prim.Native.Nat.{ℕ, ◌<◌}
use mathlib.Core.List.{List}
use lib.Dec.{eqb}
use lib.ListN.{get_or}
use Rattle.fields.specs.UpTo.{all_to}
use Rattle.fields.proofs.UpTo.{all-at}
use Rattle.xml.specs.Bytes.{is_name}

same : (a b : Bool) → beq a b ≡ true → a ≡ b
same true true e = refl
same true false e = cc
same false true e = cc
same false false e = refl

pub name-tested : (table : List ℕ) → all_to (λ n. beq (eqb (get_or table n 0) 1) (is_name n)) 256 ≡ true → (b : ℕ) → b < 256
    → eqb (get_or table b 0) 1 ≡ is_name b
name-tested table e b h =
    same (eqb (get_or table b 0) 1) (is_name b) (all-at (λ n. beq (eqb (get_or table n 0) 1) (is_name n)) 256 b e h)
