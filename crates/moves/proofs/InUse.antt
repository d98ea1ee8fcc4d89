-- All covers that are in use, lent as the front of those that a book has room for. Past these each is none. Assumes nothing.
--     total-front    their total is that of so many of the book's
--     open-front     one of them is open where one of so many is
use mathlib.Core.Path.{◌≡◌, refl, sym, ◌∙◌, ap, ap₂}
use mathlib.Core.Bool.{Bool, true, false, ◌||◌}
use mathlib.Core.List.{List}
use mathlib.Core.Logic.{⊎_elim}
use Prim.Native.Nat.{ℕ, zero, suc, ◌≤◌, ◌<◌}
use native.Mathlib.Nat.{eq-or-lt_of_le}
use native.Mathlib.Omega.{arith}
use lib.Arith.{le-zero}
use lib.ListN.{length, take}
use Rattle.std.proofs.lemmas.List.{length-take, get_or-take, get_or_past}
use Rattle.fields.specs.UpTo.{any_to}
use Rattle.fields.proofs.UpTo.{sum_same, sum-beyond}
use Rattle.rules.specs.Book.{no_cover, cover_of}
use Rattle.rules.specs.Cover.{whole, total_of}
use Rattle.rules.specs.Find.{is_open}
use Rattle.rules.specs.declared.Cover.{Cover}

any-same : (f g : ℕ → Bool) (n : ℕ) → ((i : ℕ) → i < n → f i ≡ g i) → any_to f n ≡ any_to g n
any-same f g zero h = refl
any-same f g (suc n) h = ap₂ (λ (x y : Bool). x || y) (any-same f g n (λ i l. h i (omega arith))) (h n (omega arith))

or-false : (x : Bool) → (x || false) ≡ x
or-false true = refl
or-false false = refl

any-beyond : (f : ℕ → Bool) (m n : ℕ) → m ≤ n → ((i : ℕ) → m ≤ i → i < n → f i ≡ false) → any_to f n ≡ any_to f m
any-beyond f m zero h z = ap (any_to f) (sym (le-zero h))
any-beyond f m (suc n) h z =
    ⊎_elim
    (λ (q : m ≡ suc n). ap (any_to f) (sym q))
    (λ (l : m < suc n).
    ap₂ (λ (x y : Bool). x || y) (any-beyond f m n (omega arith) (λ i a b. z i a (omega arith))) (z n (omega arith) (omega arith))
    ∙ or-false (any_to f m))
    (eq-or-lt_of_le h)

module _ (cs : List Cover) (n : ℕ) where
  few : length (take n cs) ≤ n
  few = omega (arith, length-take n cs)

  same : (i : ℕ) → i < length (take n cs) → cover_of (take n cs) i ≡ cover_of cs i
  same i l = get_or-take n cs i _ (omega (arith, few))

  none : (i : ℕ) → length (take n cs) ≤ i → i < n → cover_of cs i ≡ no_cover
  none i a b = get_or_past cs i no_cover (omega (arith, length-take n cs))

  pub total-front : total_of (length (take n cs)) (take n cs) ≡ total_of n cs
  total-front =
      sum_same (λ p. whole (cover_of (take n cs) p)) (λ p. whole (cover_of cs p)) (length (take n cs)) (λ i l. ap whole (same i l))
      ∙ sym (sum-beyond (λ p. whole (cover_of cs p)) (length (take n cs)) n few (λ i a b. ap whole (none i a b)))

  pub open-front : any_to (λ p. is_open (cover_of (take n cs) p)) (length (take n cs)) ≡ any_to (λ p. is_open (cover_of cs p)) n
  open-front =
      any-same (λ p. is_open (cover_of (take n cs) p)) (λ p. is_open (cover_of cs p)) (length (take n cs)) (λ i l. ap is_open (same i l))
      ∙ sym (any-beyond (λ p. is_open (cover_of cs p)) (length (take n cs)) n few (λ i a b. ap is_open (none i a b)))
