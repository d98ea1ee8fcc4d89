-- The laws of answers in a buffer: written field by field, laid down one more, and read back. Assumes nothing.
use mathlib.Core.Path.{◌≡◌, refl}
use mathlib.Core.List.{List, [], ◌∷◌, ◌++◌}
use Prim.Native.Nat.{ℕ, zero, suc, ◌+◌, ◌*◌, ◌≤◌, ◌<◌}
use native.Mathlib.Nat.{add-zero, not-suc-le-zero}
use native.Mathlib.Numerals.{add-one, add-three}
use native.Mathlib.Omega.{arith}
use lib.ListN.{length, get_or, set, drop}
use lib.Seq.{sets}
use Rattle.fields.specs.Number.{bytes_of}
use Rattle.fields.proofs.Holding.{HoldsAt, held_first, held-behind, held_whole, held_in, held_at, held-byte, held_number}
use Rattle.fields.proofs.Laid.{length-rows-laid, rows-laid-more, row-held}
use Rattle.report.specs.Answer.{answer_bytes, answer_at, answers_laid, FittingAnswer, AllFittingAnswers}
use Rattle.report.specs.declared.answer.Answer.{Answer}

pub answer-by-field : (s : List ℕ) (at : ℕ) (a : Answer)
    → set (sets (set s at a.refusal) (at + 1) (bytes_of 2 a.reports)) (at + 3) a.rows ≡ sets s at (answer_bytes a)
answer-by-field s at a = simp (add-one, add-three)

answer-width : (a : Answer) → length (answer_bytes a) ≡ 4
answer-width a = refl

pub length-answers-laid : (ans : List Answer) (s : List ℕ) → 4 * length ans ≤ length s → length (answers_laid ans s) ≡ length s
length-answers-laid ans s h = length-rows-laid 4 answer_bytes answer-width ans s h

-- one answer more
pub answers-laid-more : (ans : List Answer) (s : List ℕ) (a : Answer) → 4 * length ans + 4 ≤ length s
    → sets (answers_laid ans s) (4 * length ans) (answer_bytes a) ≡ answers_laid (ans ++ (a ∷ [])) s
answers-laid-more ans s a h = rows-laid-more 4 answer_bytes answer-width ans s a h

-- an answer whose bytes stand at 4 * k is answer k
answer-held : (s : List ℕ) (k : ℕ) (a : Answer) → FittingAnswer a → HoldsAt s (4 * k) (answer_bytes a) → answer_at s k ≡ a
answer-held s k a f h =
    λ i. record {
      refusal = held-byte (4 * k)
          (held_at (held_in h (held_first (a.refusal ∷ []) (bytes_of 2 a.reports ++ (a.rows ∷ [])))) (add-zero (4 * k))) i;
      reports = held_number 2 (4 * k + 1) a.reports
          (held_in h (held-behind (a.refusal ∷ []) (held_first (bytes_of 2 a.reports) (a.rows ∷ [])))) f.reports i;
      rows = held-byte (4 * k + 3) (held_in h (held-behind (a.refusal ∷ bytes_of 2 a.reports) (held_whole (a.rows ∷ [])))) i;
    }

fitting-at : (ans : List Answer) (i : ℕ) (d : Answer) → AllFittingAnswers ans → i < length ans → FittingAnswer (get_or ans i d)
fitting-at [] i d f h = absurd (not-suc-le-zero h)
fitting-at (a ∷ ans) zero d f h = f.0
fitting-at (a ∷ ans) (suc i) d f h = fitting-at ans i d f.1 (omega arith)

pub answer-reads-back : (ans : List Answer) (s : List ℕ) (i : ℕ) (d : Answer) → AllFittingAnswers ans → i < length ans
    → answer_at (answers_laid ans s) i ≡ get_or ans i d
answer-reads-back ans s i d f h =
    answer-held (answers_laid ans s) i (get_or ans i d) (fitting-at ans i d f h)
    (row-held 4 answer_bytes answer-width ans (drop (4 * length ans) s) i d h)
