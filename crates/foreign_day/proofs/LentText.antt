-- Laws of text in a buffer that is lent for it. Assumes nothing.
use mathlib.Core.Path.{◌≡◌, refl, sym, ap, ◌∙◌}
use mathlib.Core.List.{List, [], ◌∷◌, ◌++◌, append-nil}
use Prim.Native.Nat.{ℕ, zero, suc, min, ◌-◌, ◌≤◌}
use native.Mathlib.Omega.{arith}
use native.Mathlib.Nat.{le_of_suc-le-suc, not-suc-le-zero}
use lib.ListN.{length, take, drop, length-drop}
use lib.Seq.{take-length, drop-length}
use Rattle.foreign_day.specs.LentText.{lent}

lent_none : (p : List ℕ) → lent p [] ≡ []
lent_none [] = refl
lent_none (x ∷ p) = refl

pub lent_length : (p t : List ℕ) → length (lent p t) ≡ length t
lent_length [] t = refl
lent_length (x ∷ p) [] = refl
lent_length (x ∷ p) (y ∷ t) = ap suc (lent_length p t)

-- more text goes behind the text that is there
pub lent-more : (w p t : List ℕ) → take (length w) (lent w t) ++ lent p (drop (length w) (lent w t)) ≡ lent (w ++ p) t
lent-more [] p t = refl
lent-more (x ∷ w) p [] = lent_none p
lent-more (x ∷ w) p (y ∷ t) = ap {B = List ℕ} (λ r. x ∷ r) (lent-more w p t)

-- from a place on: the rest of the buffer is lent, and comes back
pub lent-rest : (at : ℕ) (p t part : List ℕ) → part ≡ lent p (take (length t - at) (drop at t))
    → take at t ++ (part ++ drop (length t - at) (drop at t)) ≡ take at t ++ lent p (drop at t)
lent-rest at p t part e =
    ap (λ (n : ℕ). take at t ++ (part ++ drop n (drop at t))) (sym (length-drop at t))
    ∙ ap (λ (r : List ℕ). take at t ++ (part ++ r)) (drop-length (drop at t))
    ∙ ap (λ (r : List ℕ). take at t ++ r)
    (append-nil part ∙ e ∙ ap (λ (n : ℕ). lent p (take n (drop at t))) (sym (length-drop at t)) ∙ ap (lent p) (take-length (drop at t)))

-- behind the buffer's end nothing is written
pub lent-beyond : (at : ℕ) (p t : List ℕ) → length t ≤ at → t ≡ take at t ++ lent p (drop at t)
lent-beyond zero p [] room = sym (lent_none p)
lent-beyond zero p (y ∷ t) room = absurd (not-suc-le-zero room)
lent-beyond (suc at) p [] room = sym (lent_none p)
lent-beyond (suc at) p (y ∷ t) room = ap {B = List ℕ} (λ r. y ∷ r) (lent-beyond at p t (le_of_suc-le-suc room))

-- as far as both reach
pub lent-both : (p t : List ℕ) (n : ℕ) → n ≡ min (length p) (length t) → take n p ++ drop n t ≡ lent p t
lent-both [] t n e = let none : n ≡ 0 = omega arith in rw none refl
lent-both (x ∷ p) [] n e = let none : n ≡ 0 = omega arith in rw none refl
lent-both (x ∷ p) (y ∷ t) zero e = absurd (omega arith)
lent-both (x ∷ p) (y ∷ t) (suc n) e = ap {B = List ℕ} (λ r. x ∷ r) (lent-both p t n (omega arith))
