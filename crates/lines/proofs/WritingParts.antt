-- Writing text in parts, one behind the other. Assumes nothing.
use mathlib.Core.Path.{◌≡◌, refl, sym, ◌∙◌, ap, ap₂}
use mathlib.Core.List.{List, [], ◌∷◌, ◌++◌}
use Prim.Native.Nat.{ℕ, ◌+◌}
use native.Mathlib.Nat.{add-zero, add_assoc}
use lib.ListN.{length, set, length-append}
use lib.Seq.{sets}
use Rattle.fields.proofs.Stores.{sets-append}
use Rattle.lines.specs.Written.{Written}

-- nothing, one byte, and two parts
written_none : (s : List ℕ) (at : ℕ) → Written s s at [] at
written_none s at = record { text = refl; end = sym (add-zero at) }

pub written_byte : (s : List ℕ) (at b : ℕ) → Written s (set s at b) at (b ∷ []) (at + 1)
written_byte s at b = record { text = refl; end = refl }

pub written-more : {s t u a b : List ℕ} {at m r : ℕ} → Written s t at a m → Written t u m b r → Written s u at (a ++ b) r
written-more {s} {t} {u} {a} {b} {at} {m} {r} v w =
    record {
      text = w.text ∙ ap₂ (λ (l : List ℕ) (k : ℕ). sets l k b) v.text v.end ∙ sym (sets-append s at a b);
      end = w.end ∙ ap (λ (k : ℕ). k + length b) v.end ∙ add_assoc at (length a) (length b)
          ∙ ap (λ (k : ℕ). at + k) (sym (length-append a b));
    }

-- the text s₀ became s, as long: bytes stand from a place on, up to end
pub record Filled (s₀ s : List ℕ) (at : ℕ) (bytes : List ℕ) (end : ℕ) : Type 0 where
  pub kept : length s ≡ length s₀
  pub written : Written s₀ s at bytes end

pub filled_none : (s : List ℕ) (at : ℕ) → Filled s s at [] at
filled_none s at = record { kept = refl; written = written_none s at }

pub filled-behind : {s₀ s t a b : List ℕ} {at m r : ℕ} → Filled s₀ s at a m → Written s t m b r → length t ≡ length s
    → Filled s₀ t at (a ++ b) r
filled-behind f w k = record { kept = k ∙ f.kept; written = written-more f.written w }
