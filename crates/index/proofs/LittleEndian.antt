-- Words of eight and of three bytes, as std reads them. Assumes nothing.
use Rattle.std.proofs.Common.{◌≡◌, ℕ, List, [], ◌∷◌, length, arith, w64, w32}
use Rattle.std.specs.Int.{from_le_bytes}
use Rattle.index.specs.Words.{word}

pub word_eight : (s : List ℕ) → length s ≡ 8 → from_le_bytes w64 s ≡ word s
word_eight (a ∷ b ∷ c ∷ d ∷ e ∷ f ∷ g ∷ h ∷ []) l = omega arith
word_eight [] l = absurd (omega arith)
word_eight (a ∷ []) l = absurd (omega arith)
word_eight (a ∷ b ∷ []) l = absurd (omega arith)
word_eight (a ∷ b ∷ c ∷ []) l = absurd (omega arith)
word_eight (a ∷ b ∷ c ∷ d ∷ []) l = absurd (omega arith)
word_eight (a ∷ b ∷ c ∷ d ∷ e ∷ []) l = absurd (omega arith)
word_eight (a ∷ b ∷ c ∷ d ∷ e ∷ f ∷ []) l = absurd (omega arith)
word_eight (a ∷ b ∷ c ∷ d ∷ e ∷ f ∷ g ∷ []) l = absurd (omega arith)
word_eight (a ∷ b ∷ c ∷ d ∷ e ∷ f ∷ g ∷ h ∷ i ∷ s) l = absurd (omega arith)

pub word_three : (a b c : ℕ) → from_le_bytes w32 (a ∷ b ∷ c ∷ 0 ∷ []) ≡ word (a ∷ b ∷ c ∷ [])
word_three a b c = omega arith
