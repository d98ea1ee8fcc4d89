-- What a search tells: the number found is below the bound and passes the test; where nothing is found, none does; tests that agree
-- find the same. Assumes nothing.
use Rattle.std.specs.Prelude.{Option, Some, None, is_some}
use mathlib.Core.Path.{◌≡◌, refl, ◌∙◌, ap}
use mathlib.Core.Bool.{Bool, true, false}
use mathlib.Core.Logic.{⊎_elim}
use Prim.Native.Nat.{ℕ, zero, suc, ◌<◌}
use native.Mathlib.Nat.{not-suc-le-zero, eq-or-lt_of_le, le_of_suc-le-suc}
use native.Mathlib.Omega.{arith}
use Rattle.fields.specs.Search.{number_of, found_or, first_to}

-- the number found
pub record FoundAt (test : ℕ → Bool) (n : ℕ) (i : ℕ) : Type 0 where
  pub below : i < n
  pub passes : test i ≡ true

pub found_at : (test : ℕ → Bool) (n : ℕ) → is_some (first_to test n) ≡ true → FoundAt test n (number_of (first_to test n))
found_at test zero e = let z : ◌≡◌ {A = ℕ} 0 1 = cc in absurd (omega arith)
found_at test (suc n) e = go (first_to test n) refl (test n) refl (found_at test n)
  where
    go : (f : Option ℕ) → first_to test n ≡ f → (b : Bool) → test n ≡ b
        → (is_some (first_to test n) ≡ true → FoundAt test n (number_of (first_to test n)))
        → FoundAt test (suc n) (number_of (found_or (first_to test n) n (test n)))
    go (Some i) f b t on =
        let r = on (ap is_some f) in
        rw f (record { below = let l = rw f at r.below in omega arith; passes = rw f at r.passes })
    go None f true t on = rw (f, t) (record { below = omega arith; passes = t })
    go None f false t on = let e' : ◌≡◌ {A = Bool} false true = rw (f, t) at e in let z : ◌≡◌ {A = ℕ} 0 1 = cc in absurd (omega arith)

pub not_found : (test : ℕ → Bool) (n : ℕ) → is_some (first_to test n) ≡ false → (i : ℕ) → i < n → test i ≡ false
not_found test zero e i h = absurd (not-suc-le-zero h)
not_found test (suc n) e i h = go (first_to test n) refl (test n) refl (not_found test n)
  where
    go : (f : Option ℕ) → first_to test n ≡ f → (b : Bool) → test n ≡ b
        → (is_some (first_to test n) ≡ false → (j : ℕ) → j < n → test j ≡ false) → test i ≡ false
    go (Some j) f b t on = let e' : ◌≡◌ {A = Bool} true false = rw f at e in cc
    go None f true t on = let e' : ◌≡◌ {A = Bool} true false = rw (f, t) at e in cc
    go None f false t on =
        ⊎_elim (λ (q : i ≡ n). ap test q ∙ t) (λ (l : i < n). on (ap is_some f) i l) (eq-or-lt_of_le (le_of_suc-le-suc h))

-- tests that agree below n find the same
pub first-same : (f g : ℕ → Bool) (n : ℕ) → ((i : ℕ) → i < n → f i ≡ g i) → first_to f n ≡ first_to g n
first-same f g zero h = refl
first-same f g (suc n) h = simp (first-same f g n (λ i l. h i (omega arith)), h n (omega arith))
