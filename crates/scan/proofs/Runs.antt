-- Where a run of bytes of one class ends, for any class. Assumes nothing.
use mathlib.Core.Path.{◌≡◌, sym, ◌∙◌, ap}
use mathlib.Core.Bool.{Bool, true, false, not, cond}
use mathlib.Core.List.{List, [], ◌∷◌}
use Prim.Native.Nat.{ℕ, suc, ◌+◌, ◌-◌, ◌≤◌, ◌<◌}
use native.Mathlib.Nat.{add-zero}
use native.Mathlib.Omega.{arith}
use lib.ListN.{length, get_or, take, drop, length-drop, drop_of_length-le}
use lib.Seq.{drop-drop}
use Rattle.fields.proofs.FromFront.{left-from}
use Rattle.fields.proofs.Tests.{never}
use Rattle.xml.specs.Bytes.{run_length, run, past}

-- where the run from a place on ends
abbrev pub run_end : (ℕ → Bool) → List ℕ → ℕ → ℕ
run_end p s at = at + run_length p (drop at s)

module _ (p : ℕ → Bool) (s : List ℕ) where
  from-here : (i : ℕ) → i < length s → {t : Bool} → t ≡ p (get_or s i 0) → run_end p s i ≡ i + cond t (suc (run_length p (drop (i + 1) s))) 0
  from-here i h e =
      ap (λ (t : List ℕ). i + run_length p t) (left-from s i h)
      ∙ ap (λ (t : Bool). i + cond t (suc (run_length p (drop (i + 1) s))) 0) (sym e)

  -- a byte of the class: the run goes on
  pub run_on : (i : ℕ) → i < length s → {t : Bool} → t ≡ p (get_or s i 0) → not t ≡ false → run_end p s i ≡ run_end p s (i + 1)
  run_on i h {t = true} e f = from-here i h e ∙ omega arith
  run_on i h {t = false} e f = never f

  -- the same k bytes on
  pub run-on-at :
      (i k : ℕ) → i + k < length s → {t : Bool} → t ≡ p (get_or s (i + k) 0) → not t ≡ false → run_end p s (i + k) ≡ run_end p s (i + (k + 1))
  run-on-at i k h e f = let next : i + k + 1 ≡ i + (k + 1) = omega arith in run_on (i + k) h e f ∙ ap (λ (n : ℕ). run_end p s n) next

  -- a byte of another: it ends here
  pub run-stops : (i : ℕ) → i < length s → {t : Bool} → t ≡ p (get_or s i 0) → not t ≡ true → run_end p s i ≡ i
  run-stops i h {t = true} e f = never (sym f)
  run-stops i h {t = false} e f = from-here i h e ∙ add-zero i

  -- and so it does where the text ends
  pub run-over : (i : ℕ) → length s ≤ i → run_end p s i ≡ i
  run-over i h = ap (λ (t : List ℕ). i + run_length p t) (drop_of_length-le s {i = i} h) ∙ add-zero i

  -- what stands behind the run
  pub past-run : (i : ℕ) → past p (drop i s) ≡ drop (run_end p s i) s
  past-run i = drop-drop (run_length p (drop i s)) i s

  -- the same, by the place where the run ends
  pub past_to : (i : ℕ) {j : ℕ} {t : List ℕ} → t ≡ drop i s → j ≡ run_end p s i → past p t ≡ drop j s
  past_to i e q = ap (past p) e ∙ past-run i ∙ ap (λ (k : ℕ). drop k s) (sym q)

  -- the run itself, between its two places
  pub run-between : (i : ℕ) {j : ℕ} → j ≡ run_end p s i → take (j - i) (drop i s) ≡ run p (drop i s)
  run-between i {j} e = let as_long : j - i ≡ run_length p (drop i s) = omega arith in ap (λ (k : ℕ). take k (drop i s)) as_long

run-within : (p : ℕ → Bool) (s : List ℕ) → run_length p s ≤ length s
run-within p [] = omega arith
run-within p (b ∷ s) = go (p b) (run-within p s)
  where
    go : (t : Bool) → run_length p s ≤ length s → cond t (suc (run_length p s)) 0 ≤ suc (length s)
    go true h = omega arith
    go false h = omega arith

pub end-within : (p : ℕ → Bool) (s : List ℕ) (at : ℕ) → at ≤ length s → run_end p s at ≤ length s
end-within p s at h = omega (arith, run-within p (drop at s), length-drop at s)
