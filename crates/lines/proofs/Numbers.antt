-- The turns of a loop that writes numbers, each behind a space, and the end of the line. Assumes nothing.
use mathlib.Core.Path.{◌≡◌, sym, ◌∙◌, ap, ap₂}
use mathlib.Core.List.{List, [], ◌∷◌, ◌++◌}
use Prim.Native.Nat.{ℕ, ◌+◌, ◌≤◌, ◌<◌}
use native.Mathlib.Omega.{arith}
use lib.ListN.{length, get_or, set, drop, length-append, drop_of_length-le}
use lib.Seq.{sets}
use Rattle.fields.proofs.FromFront.{left-from}
use Rattle.fields.proofs.Stores.{sets-append}
use Rattle.lines.specs.Written.{Written}
use Rattle.rules.specs.Program.{decimal, numbers}
use Rattle.lines.proofs.Digits.{numbers-none, numbers_more}

-- the text s₀ became s, with the first i numbers: writing the others from end on gives the whole
pub record Begun (s₀ s : List ℕ) (at end : ℕ) (ns : List ℕ) (i : ℕ) : Type 0 where
  pub within : i ≤ length ns
  pub kept : length s ≡ length s₀
  pub text : sets s end (numbers (drop i ns)) ≡ sets s₀ at (numbers ns)
  pub place : end + length (numbers (drop i ns)) ≡ at + length (numbers ns)

-- what is left is the next number, and what is left then
next : (ns : List ℕ) (i : ℕ) → i < length ns → numbers (drop i ns) ≡ (32 ∷ decimal (get_or ns i 0)) ++ numbers (drop (i + 1) ns)
next ns i h = ap numbers (left-from ns i h) ∙ numbers_more (get_or ns i 0) (drop (i + 1) ns)

next-length : (ns : List ℕ) (i : ℕ) → i < length ns
    → length (numbers (drop i ns)) ≡ length (32 ∷ decimal (get_or ns i 0)) + length (numbers (drop (i + 1) ns))
next-length ns i h = ap length (next ns i h) ∙ length-append (32 ∷ decimal (get_or ns i 0)) (numbers (drop (i + 1) ns))

module _ {s₀ s : List ℕ} {at end : ℕ} {ns : List ℕ} {i : ℕ} (b : Begun s₀ s at end ns i) where
  pub number-room : i < length ns → at + length (numbers ns) ≤ length s₀ → end + length (32 ∷ decimal (get_or ns i 0)) ≤ length s
  number-room h r = let l = next-length ns i h in let p = b.place in let k = b.kept in omega arith

  pub number_more : {t : List ℕ} {r : ℕ} → i < length ns → Written s t end (32 ∷ decimal (get_or ns i 0)) r → length t ≡ length s
      → Begun s₀ t at r ns (i + 1)
  number_more {t} {r} h w k =
      record {
        within = omega arith;
        kept = k ∙ b.kept;
        text =
            ap₂ (λ (l : List ℕ) (n : ℕ). sets l n (numbers (drop (i + 1) ns))) w.text w.end
            ∙ sym (sets-append s end (32 ∷ decimal (get_or ns i 0)) (numbers (drop (i + 1) ns)))
            ∙ ap (sets s end) (sym (next ns i h))
            ∙ b.text;
        place = let l = next-length ns i h in let p = b.place in let e = w.end in omega arith;
      }

  -- all numbers are written: the end of the line is left
  done : length ns ≤ i → numbers (drop i ns) ≡ 10 ∷ []
  done h = ap numbers (drop_of_length-le ns h) ∙ numbers-none

  pub end-room : length ns ≤ i → at + length (numbers ns) ≤ length s₀ → end < length s
  end-room h r = let l = ap length (done h) in let p = b.place in let k = b.kept in omega arith

  pub numbers-written : length ns ≤ i → Written s₀ (set s end 10) at (numbers ns) (end + 1)
  numbers-written h =
      record {
        text = ap (sets s end) (sym (done h)) ∙ b.text;
        end = ap (λ (l : List ℕ). end + length l) (sym (done h)) ∙ b.place;
      }
