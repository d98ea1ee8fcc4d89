-- A part of a list, byte by byte. Assumes nothing.
use mathlib.Core.Path.{◌≡◌, refl, ◌∙◌, ap}
use mathlib.Core.List.{List, [], ◌∷◌}
use Prim.Native.Nat.{ℕ, zero, suc, ◌+◌, ◌≤◌}
use native.Mathlib.Omega.{arith}
use lib.ListN.{length, get_or, take}
use Rattle.fields.specs.Number.{part}
use Rattle.fields.proofs.FromFront.{left-from}

-- the k bytes from the n-th behind a place on
abbrev pub bytes_from : ℕ → ℕ → ℕ → List ℕ → List ℕ
bytes_from zero n at s = []
bytes_from (suc k) n at s = get_or s (at + n) 0 ∷ bytes_from k (suc n) at s

part-next : (k i j : ℕ) (s : List ℕ) → i + 1 ≡ j → j ≤ length s → part (suc k) i s ≡ get_or s i 0 ∷ part k j s
part-next k i j s e h =
    ap (take (suc k)) (left-from s i (omega arith)) ∙ ap (λ (n : ℕ). get_or s i 0 ∷ part k n s) e

part-from : (k n at : ℕ) (s : List ℕ) → at + n + k ≤ length s → part k (at + n) s ≡ bytes_from k n at s
part-from zero n at s h = refl
part-from (suc k) n at s h =
    part-next k (at + n) (at + suc n) s (omega arith) (omega arith)
    ∙ ap (λ (t : List ℕ). get_or s (at + n) 0 ∷ t) (part-from k (suc n) at s (omega arith))

pub part_bytes : (k at : ℕ) (s : List ℕ) → at + suc k ≤ length s → part (suc k) at s ≡ get_or s at 0 ∷ bytes_from k 1 at s
part_bytes k at s h =
    part-next k at (at + 1) s refl (omega arith) ∙ ap (λ (t : List ℕ). get_or s at 0 ∷ t) (part-from k 1 at s (omega arith))
