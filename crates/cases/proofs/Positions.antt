-- The first number that passes a test on a list's items is the position of the first item that does. Assumes nothing.
use Rattle.std.proofs.Common.{◌≡◌, ℕ, zero, suc, ◌+◌, ◌≤◌, ◌<◌, Bool, true, false, cond, eqb, ltb, Option, Some, None, List, [], ◌∷◌, length, get_or, take, arith, refl, sym, ap, ap₂, not, ◌∙◌, lt-ltb, le-ltb, eq-eqb, ne_eqb, add-zero, length-append, length-take-le, take-suc}
use Rattle.std.specs.List.{position, position_or_len}
use Rattle.std.proofs.lemmas.List.Folds.{position_or_len_push}
use Rattle.std.proofs.lemmas.List.Sums.{prefix_len-le-length}
use Rattle.fields.specs.Search.{first_to, found_or}
use mathlib.Core.Logic.{⊎_elim}
use native.Mathlib.Nat.{eq-or-lt_of_le}

-- where the first of n + 1 items is that passes, by the first of n
abbrev after : ℕ → ℕ → Bool → ℕ
after n p passes = cond (eqb p n) (n + cond passes 0 1) p

abbrev placed : ℕ → ℕ → Option ℕ
placed p n = cond (ltb p n) (Some p) None

at_end : (n : ℕ) (passes : Bool) → found_or (placed n n) n passes ≡ placed (after n n passes) (n + 1)
at_end n true = rw (le-ltb n n (omega arith), eq-eqb n n refl, add-zero n, lt-ltb n (n + 1) (omega arith)) refl
at_end n false = rw (le-ltb n n (omega arith), eq-eqb n n refl, le-ltb (n + 1) (n + 1) (omega arith)) refl

before_end : (n p : ℕ) (passes : Bool) → p < n → found_or (placed p n) n passes ≡ placed (after n p passes) (n + 1)
before_end n p passes h =
    rw (lt-ltb p n h, ne_eqb p n (λ e. omega arith), lt-ltb p (n + 1) (omega arith)) refl

more : (n p : ℕ) (passes : Bool) → p ≤ n → found_or (placed p n) n passes ≡ placed (after n p passes) (n + 1)
more n p passes h =
    ⊎_elim (λ (e : p ≡ n). rw e (at_end n passes)) (λ (l : p < n). before_end n p passes l) (eq-or-lt_of_le h)

module _ {X : Type 0} (test : X → Bool) (xs : List X) (d : X) where
  pub first-position : (n : ℕ) → n ≤ length xs → first_to (λ i. test (get_or xs i d)) n ≡ position test (take n xs)
  first-position zero h = refl
  first-position (suc n) h =
      let y = get_or xs n d in
      let s = take n xs in
      let p = position_or_len test s in
      let l : length s ≡ n = length-take-le n xs (omega arith) in
      let within : p ≤ n = omega (arith, prefix_len-le-length (λ x. not (test x)) s) in
      ap (λ (o : Option ℕ). found_or o n (test y)) (first-position n (omega arith))
      ∙ ap (λ (m : ℕ). found_or (placed p m) n (test y)) l
      ∙ more n p (test y) within
      ∙ sym
      (ap (position test) (take-suc xs n d h)
      ∙ ap₂ placed (position_or_len_push test s y ∙ ap (λ (m : ℕ). cond (eqb p m) (m + cond (test y) 0 1) p) l)
      (length-append s (y ∷ []) ∙ ap (λ (m : ℕ). m + 1) l))
