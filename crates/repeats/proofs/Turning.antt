-- One attribute more: what `has_name_in` and `repeats_in` say of it and of those behind it. Assumes nothing.
use mathlib.Core.Path.{◌≡◌, refl, sym, ◌∙◌, ap}
use mathlib.Core.Bool.{Bool, true, false, ◌||◌, or-true, or-false}
use mathlib.Core.List.{List}
use Prim.Native.Nat.{ℕ, zero, suc, ◌+◌, ◌-◌, ◌≤◌, ◌<◌}
use native.Mathlib.Nat.{suc-add}
use native.Mathlib.Omega.{arith}
use Rattle.fields.specs.Text.{same}
use Rattle.fields.proofs.Tests.{never}
use Rattle.repeats.specs.Repeats.{name_in, behind, has_name_in, repeats_in}

less_one : (n : ℕ) → n ≡ suc n - 1
less_one n = omega arith

has-next : (name s : List ℕ) (n : ℕ) → 0 < n → has_name_in name n s ≡ (same name (name_in s) || has_name_in name (n - 1) (behind s))
has-next name s zero h = absurd (omega arith)
has-next name s (suc n) h = ap (λ (k : ℕ). same name (name_in s) || has_name_in name k (behind s)) (less_one n)

repeats-next : (s : List ℕ) (n : ℕ) → 0 < n → repeats_in n s ≡ (has_name_in (name_in s) (n - 1) (behind s) || repeats_in (n - 1) (behind s))
unfolding repeats_in
repeats-next s zero h = absurd (omega arith)
repeats-next s (suc n) h = ap (λ (k : ℕ). has_name_in (name_in s) k (behind s) || repeats_in k (behind s)) (less_one n)

or-this : (b c : Bool) → b ≡ true → (b || c) ≡ true
or-this b c h = rw h

or-that : (b c : Bool) → b ≡ false → (b || c) ≡ c
or-that b c h = rw h

or-both : (a b c d : Bool) → (a || b) ≡ true → (a ≡ true → c ≡ true) → (b ≡ true → d ≡ true) → (c || d) ≡ true
or-both true b c d e f g = or-this c d (f refl)
or-both false b c d e f g = ap (◌||◌ c) (g e) ∙ or-true c

-- the attribute has the name, or it hasn't; t is what stands behind it
module _ (name s : List ℕ) (n : ℕ) (h : 0 < n) where
  pub has_here : same name (name_in s) ≡ true → has_name_in name n s ≡ true
  has_here e = has-next name s n h ∙ or-this _ _ e

  pub has-later : same name (name_in s) ≡ false → (t : List ℕ) → t ≡ behind s → has_name_in name n s ≡ has_name_in name (n - 1) t
  has-later e t q = has-next name s n h ∙ or-that _ _ e ∙ ap (has_name_in name (n - 1)) (sym q)

pub has_last : (name s : List ℕ) (n : ℕ) → 0 < n → n ≤ 1 → has_name_in name n s ≡ same name (name_in s)
has_last name s n h l =
    let one : n ≡ 1 = omega arith in ap (λ (k : ℕ). has_name_in name k s) one ∙ or-false (same name (name_in s))

-- the first attribute's name stands behind it, or it doesn't
module _ (s : List ℕ) (n : ℕ) (h : 0 < n) (t : List ℕ) (q : t ≡ behind s) where
  pub repeats-here : has_name_in (name_in s) (n - 1) t ≡ true → repeats_in n s ≡ true
  repeats-here e = repeats-next s n h ∙ or-this _ _ (ap (has_name_in (name_in s) (n - 1)) (sym q) ∙ e)

  pub repeats-later : has_name_in (name_in s) (n - 1) t ≡ false → repeats_in n s ≡ repeats_in (n - 1) t
  repeats-later e = repeats-next s n h ∙ or-that _ _ (ap (has_name_in (name_in s) (n - 1)) (sym q) ∙ e) ∙ ap (repeats_in (n - 1)) (sym q)

  pub repeats-behind : repeats_in (n - 1) t ≡ true → repeats_in n s ≡ true
  repeats-behind e =
      repeats-next s n h
      ∙ ap (◌||◌ (has_name_in (name_in s) (n - 1) (behind s))) (ap (repeats_in (n - 1)) (sym q) ∙ e)
      ∙ or-true (has_name_in (name_in s) (n - 1) (behind s))

-- of one no name stands twice
pub repeats-none : (s : List ℕ) (n : ℕ) → n ≤ 1 → repeats_in n s ≡ false
unfolding repeats_in
repeats-none s zero h = refl
repeats-none s (suc n) h = let none : n ≡ 0 = omega arith in ap (λ (k : ℕ). repeats_in (suc k) s) none

-- attributes that follow change no answer that was yes
has_more : (name s : List ℕ) (n k : ℕ) → has_name_in name n s ≡ true → has_name_in name (n + k) s ≡ true
has_more name s zero k e = never (sym e)
has_more name s (suc n) k e =
    let here = same name (name_in s) in
    ap (λ (m : ℕ). has_name_in name m s) (suc-add n k)
    ∙ or-both here (has_name_in name n (behind s)) here (has_name_in name (n + k) (behind s)) e (λ h. h) (has_more name (behind s) n k)

pub repeats-more : (s : List ℕ) (n k : ℕ) → repeats_in n s ≡ true → repeats_in (n + k) s ≡ true
unfolding repeats_in
repeats-more s zero k e = never (sym e)
repeats-more s (suc n) k e =
    ap (λ (m : ℕ). repeats_in m s) (suc-add n k)
    ∙ or-both
    (has_name_in (name_in s) n (behind s))
    (repeats_in n (behind s))
    (has_name_in (name_in s) (n + k) (behind s))
    (repeats_in (n + k) (behind s))
    e
    (has_more (name_in s) (behind s) n k)
    (repeats-more (behind s) n k)
