-- Before the first byte that isn't the fill all are the fill, and that one isn't; the same from a place of the buffer on.
-- Assumes nothing.
use Rattle.std.proofs.Common.{◌≡◌, ℕ, ◌+◌, ◌-◌, ◌≤◌, ◌<◌, ◌==◌, Bool, true, false, cond, ltb, not, Option, Some, None, unwrap_or, List, length, get_or, take, drop, arith, refl, sym, ap, subst, ◌∙◌, length-drop, take_all, get_or-drop, eqb-true, eq-eqb, ltb-false, true≢false}
use Rattle.std.specs.List.{position, position_or_len}
use Rattle.std.proofs.lemmas.List.Sums.{prefix_len-le-length, fails_before_first, passes_at_first}

same_if : (b : Bool) → not b ≡ false → b ≡ true
same_if true e = refl
same_if false e = absurd (true≢false e)

module _ (bytes : List ℕ) (fill : ℕ) where
  abbrev other : ℕ → Bool
  other b = not (b == fill)

  place : (within : Bool) → ltb (position_or_len other bytes) (length bytes) ≡ within
      → unwrap_or (cond within (Some (position_or_len other bytes)) None) (length bytes) ≡ position_or_len other bytes
  place true e = refl
  place false e =
      omega (arith, ltb-false (position_or_len other bytes) (length bytes) e, prefix_len-le-length (λ b. not (other b)) bytes)

  first : unwrap_or (position other bytes) (length bytes) ≡ position_or_len other bytes
  first = place (ltb (position_or_len other bytes) (length bytes)) refl

  before_first : (k : ℕ) → k < position_or_len other bytes → get_or bytes k 0 ≡ fill
  before_first k h = eqb-true (get_or bytes k 0) fill (same_if (get_or bytes k 0 == fill) (fails_before_first other bytes k 0 h))

  at_first : position_or_len other bytes < length bytes → get_or bytes (position_or_len other bytes) 0 ≡ fill → ⊥
  at_first h e =
      true≢false
      (sym (passes_at_first other bytes 0 h) ∙ ap not (eq-eqb (get_or bytes (position_or_len other bytes) 0) fill e))

-- what is counted: up to the first that isn't the fill, or all
module _ (bytes : List ℕ) (fill n : ℕ) (found : Option ℕ) (e : n ≡ unwrap_or found (length bytes))
    (f : found ≡ position (λ b. not (b == fill)) bytes) where
  counted : n ≡ position_or_len (λ b. not (b == fill)) bytes
  counted = e ∙ ap (λ (o : Option ℕ). unwrap_or o (length bytes)) f ∙ first bytes fill

  pub kept_before : (k : ℕ) → k < n → get_or bytes k 0 ≡ fill
  kept_before k l = before_first bytes fill k (omega (arith, counted))

  pub other_at : n < length bytes → get_or bytes n 0 ≡ fill → ⊥
  other_at l same =
      at_first bytes fill (omega (arith, counted)) (subst (λ i. get_or bytes i 0 ≡ fill) counted same)

pub kept_from : (buffer : List ℕ) (from fill n : ℕ)
    → ((k : ℕ) → k < n → get_or (take (length buffer - from) (drop from buffer)) k 0 ≡ fill)
    → (k : ℕ) → k < from + n → from ≤ k → get_or buffer k 0 ≡ fill
kept_from buffer from fill n all k l m =
    let rest : take (length buffer - from) (drop from buffer) ≡ drop from buffer =
    take_all (length buffer - from) (drop from buffer) (omega (arith, length-drop from buffer)) in
    let moved : from + (k - from) ≡ k = omega arith in
    subst (λ i. get_or buffer i 0 ≡ fill) moved
    (sym (get_or-drop from buffer (k - from) 0)
    ∙ ap (λ (xs : List ℕ). get_or xs (k - from) 0) (sym rest)
    ∙ all (k - from) (omega arith))
