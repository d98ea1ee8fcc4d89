-- A place in a text: the byte there, and whether it is one of the text.
--     first-at       the byte at a place is the first of what stands from there on
--     byte-within    a byte that isn't 0 is one of the text
--     one-behind     what stands behind the byte at a place
--     tested_at      the test of the first byte is that of the byte at the place
-- Assumes nothing.
use mathlib.Core.Path.{◌≡◌, sym, ◌∙◌, ap}
use mathlib.Core.List.{List}
use mathlib.Core.Logic.{⊎_elim}
use Prim.Native.Nat.{ℕ, ◌+◌, ◌≤◌, ◌<◌}
use native.Mathlib.Nat.{add-zero}
use native.Mathlib.Omega.{arith}
use lib.Dec.{eqb}
use lib.ListN.{length, get_or, drop, get_or-eq_default}
use lib.Seq.{drop-drop, get_or-drop}
use Rattle.fields.proofs.Compared.{below_or_not}
use Rattle.xml.specs.Scanning.{first_byte}

pub first-at : (s : List ℕ) (i : ℕ) → first_byte (drop i s) ≡ get_or s i 0
first-at s i = get_or-drop i s 0 0 ∙ ap (λ (k : ℕ). get_or s k 0) (add-zero i)

pub byte-within : (s : List ℕ) (i b : ℕ) → get_or s i 0 ≡ b → 0 < b → i < length s
byte-within s i b e h =
    ⊎_elim
    (λ (l : i < length s). l)
    (λ (l : length s ≤ i). absurd (omega (arith, get_or-eq_default s 0 {n = i} l)))
    (below_or_not i (length s))

module _ (s : List ℕ) (i : ℕ) {t : List ℕ} (e : t ≡ drop i s) where
  pub one-behind : drop 1 t ≡ drop (i + 1) s
  one-behind = ap (drop 1) e ∙ drop-drop 1 i s

  pub tested_at : {b : ℕ} → b ≡ get_or s i 0 → (w : ℕ) → eqb (first_byte t) w ≡ eqb b w
  tested_at q w = ap (λ (k : ℕ). eqb k w) (ap first_byte e ∙ first-at s i ∙ sym q)
