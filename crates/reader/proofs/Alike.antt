-- Two names compared from a place on.
--     left         whether what is left of both is the same
--     from-four    by the four bytes there
--     goes_on      a test of some bytes that they pass: the rest tells
--     ends_so      one that they don't pass
--     from_byte, from-other   by the byte there
--     none_left    nothing is left
-- Assumes nothing.
use Prim.Native.Nat.{ℕ, ◌+◌, ◌≤◌, ◌<◌}
use mathlib.Core.Path.{◌≡◌, refl, ap, ap₂, sym, ◌∙◌}
use mathlib.Core.Bool.{Bool, true, false, ◌&&◌, not}
use mathlib.Core.List.{List}
use native.Mathlib.Omega.{arith}
use borrow.Author.Tests.{eq-eqb, ne_eqb}
use lib.Dec.{eqb}
use lib.ListN.{length, get_or, drop, drop_of_length-le}
use Rattle.fields.specs.Text.{same}
use Rattle.fields.proofs.Same.{same_from}
use Rattle.fields.proofs.Tests.{never}

grouped : (a b c d r : Bool) → (a && (b && (c && (d && r)))) ≡ (a && b && c && d && r)
grouped false b c d r = refl
grouped true false c d r = refl
grouped true true false d r = refl
grouped true true true d r = refl

module _ (s t : List ℕ) where
  abbrev pub left : ℕ → Bool
  left i = same (drop i s) (drop i t)

  abbrev pub alike : ℕ → Bool
  alike i = eqb (get_or s i 0) (get_or t i 0)

  from : (i k : ℕ) → i + k < length s → i + k < length t → left (i + k) ≡ (alike (i + k) && left (i + (k + 1)))
  from i k h g =
      let next : i + k + 1 ≡ i + (k + 1) = omega arith in
      same_from s t (i + k) h g ∙ ap (λ (n : ℕ). alike (i + k) && left n) next

  pub from-four : (i : ℕ) → i + 4 ≤ length s → i + 4 ≤ length t
      → left i ≡ (alike i && alike (i + 1) && alike (i + 2) && alike (i + 3) && left (i + 4))
  from-four i h g =
      same_from s t i (omega arith) (omega arith)
      ∙ ap (λ (b : Bool). alike i && b)
      (from i 1 (omega arith) (omega arith)
      ∙ ap (λ (b : Bool). alike (i + 1) && b)
      (from i 2 (omega arith) (omega arith) ∙ ap (λ (b : Bool). alike (i + 2) && b) (from i 3 (omega arith) (omega arith))))
      ∙ grouped (alike i) (alike (i + 1)) (alike (i + 2)) (alike (i + 3)) (left (i + 4))

  pub goes_on : (i j : ℕ) (r : Bool) → left i ≡ (r && left j) → not r ≡ false → left i ≡ left j
  goes_on i j true e h = e
  goes_on i j false e h = never h

  pub ends_so : (i j : ℕ) (r : Bool) → left i ≡ (r && left j) → not r ≡ true → left i ≡ false
  ends_so i j true e h = never (sym h)
  ends_so i j false e h = e

  module _ (i : ℕ) (h : i < length s) (g : i < length t) where
    pub from_byte : get_or s i 0 ≡ get_or t i 0 → left i ≡ left (i + 1)
    from_byte e = same_from s t i h g ∙ ap (λ (b : Bool). b && left (i + 1)) (eq-eqb (get_or s i 0) (get_or t i 0) e)

    pub from-other : (get_or s i 0 ≡ get_or t i 0 → ⊥) → left i ≡ false
    from-other n = same_from s t i h g ∙ ap (λ (b : Bool). b && left (i + 1)) (ne_eqb (get_or s i 0) (get_or t i 0) n)

  pub none_left : (i : ℕ) → length s ≤ i → length t ≤ i → left i ≡ true
  none_left i h g = ap₂ same (drop_of_length-le s {i = i} h) (drop_of_length-le t {i = i} g)
