-- The name of an encoding, a byte at a time. Assumes nothing.
use mathlib.Core.Path.{◌≡◌, refl, ap}
use mathlib.Core.Bool.{Bool, false, ◌&&◌}
use mathlib.Core.List.{List, [], ◌∷◌}
use Prim.Native.Nat.{ℕ, ◌+◌, ◌<◌}
use native.Mathlib.Omega.{arith}
use lib.ListN.{length, get_or, drop}
use Rattle.fields.proofs.FromFront.{left-from}
use Rattle.xml.specs.Bytes.{is_letter, is_encoding_byte, all_of}
use Rattle.xml.specs.WellFormed.{is_encoding}

pub first-letter : (s : List ℕ) → (length s ≡ 0 → ⊥) → is_encoding s ≡ (is_letter (get_or s 0 0) && all_of is_encoding_byte (drop 1 s))
first-letter [] h = absurd (h refl)
first-letter (b ∷ s) h = refl

pub none-empty : (s : List ℕ) → length s ≡ 0 → is_encoding s ≡ false
none-empty [] h = refl
none-empty (b ∷ s) h = absurd (omega arith)

pub all_from : (p : ℕ → Bool) (s : List ℕ) (i : ℕ) → i < length s → all_of p (drop i s) ≡ (p (get_or s i 0) && all_of p (drop (i + 1) s))
all_from p s i h = ap (all_of p) (left-from s i h)
