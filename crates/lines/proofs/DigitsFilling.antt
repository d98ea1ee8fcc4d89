-- The turns of a loop that writes a number's digits, the last first. Assumes nothing.
use mathlib.Core.Path.{◌≡◌, refl, sym, ◌∙◌, ap}
use mathlib.Core.List.{List, [], ◌∷◌}
use Prim.Native.Nat.{ℕ, suc, ◌+◌, ◌-◌, ◌/◌, ◌%◌, ◌^◌, ◌≤◌, ◌<◌}
use native.Mathlib.Omega.{arith}
use lib.ListN.{length, set, length-set}
use lib.Seq.{sets, set_comm}
use Rattle.fields.proofs.Stores.{sets-append}
use Rattle.rules.specs.Program.{decimal}
use Rattle.lines.proofs.Digits.{decimal-one, decimal-more, decimal-length-one, decimal-length-more}

-- a byte behind a run of stores may as well be written before it
sets_last : (s : List ℕ) (at i : ℕ) (a : List ℕ) (b : ℕ) → at + length a ≤ i → sets (set s i b) at a ≡ set (sets s at a) i b
sets_last s at i [] b h = refl
sets_last s at i (x ∷ a) b h =
    ap (λ (t : List ℕ). sets t (suc at) a) (set_comm s i at b x (λ e. omega arith)) ∙ sets_last (set s at x) (suc at) i a b (omega arith)

-- the text s₀ became s, with the digits of n from i on: writing those of left before i gives the whole
pub record Ending (s₀ s : List ℕ) (at i n left : ℕ) : Type 0 where
  pub kept : length s ≡ length s₀
  pub fits : left < 10 ^ 20
  pub within : i ≤ length s₀
  pub place : i ≡ at + length (decimal left)
  pub text : sets s at (decimal left) ≡ sets s₀ at (decimal n)

module _ {s₀ s : List ℕ} {at i n left : ℕ} (e : Ending s₀ s at i n left) where
  -- the last digit of left: behind the others
  pub last-place : 10 ≤ left → i ≡ at + length (decimal (left / 10)) + 1
  last-place h = let l = decimal-length-more left h e.fits in let p = e.place in omega arith

  pub last_more : 10 ≤ left → Ending s₀ (set s (i - 1) (48 + left % 10)) at (i - 1) n (left / 10)
  last_more h =
      record {
        kept = length-set s (i - 1) (48 + left % 10) ∙ e.kept;
        fits = let f = e.fits in omega arith;
        within = let w = e.within in omega arith;
        place = behind;
        text =
            sets_last s at (i - 1) (decimal (left / 10)) (48 + left % 10) (omega (arith, behind))
            ∙ ap (λ (k : ℕ). set (sets s at (decimal (left / 10))) k (48 + left % 10)) behind
            ∙ sym (sets-append s at (decimal (left / 10)) ((48 + left % 10) ∷ []))
            ∙ ap (sets s at) (sym (decimal-more left h e.fits))
            ∙ e.text;
      }
    where
      behind : i - 1 ≡ at + length (decimal (left / 10))
      behind = let p = last-place h in omega arith

  -- the first digit
  pub first-room : left < 10 → at < length s
  first-room h = let l = decimal-length-one left h in let p = e.place in let w = e.within in let k = e.kept in omega arith

  pub first-written : left < 10 → set s at (48 + left) ≡ sets s₀ at (decimal n)
  first-written h = ap (sets s at) (sym (decimal-one left h)) ∙ e.text
