-- Digits: their class, and what is known of the first.
--     digits-class                the class is that of codes
--     ADigit                      a byte from 48 to 57
--     digit-first, digits-rest    the first of digits is one, and the others are digits
-- Assumes nothing.
use mathlib.Core.Path.{◌≡◌, refl, ap}
use mathlib.Core.Bool.{Bool, true, ◌&&◌}
use mathlib.Core.List.{List, [], ◌∷◌}
use Prim.Native.Nat.{ℕ, ◌≤◌}
use borrow.Author.Tests.{leb-true}
use lib.Dec.{leb}
use Rattle.fields.proofs.Tests.{and_left, and_right}
use Rattle.classes.specs.Class.{all_in}
use Rattle.classes.specs.declared.Class.TheVariants.{Digit}
use Rattle.xml.specs.Bytes.{all_of}
use Rattle.pacs.specs.Judged.{is_digit}

pub digits-class : (s : List ℕ) → all_of is_digit s ≡ all_in Digit s
unfolding is_digit
digits-class [] = refl
digits-class (b ∷ s) = ap (λ (z : Bool). leb 48 b && leb b 57 && z) (digits-class s)

-- a digit is from 48 to 57
pub record ADigit (b : ℕ) : Type 0 where
  pub low : 48 ≤ b
  pub high : b ≤ 57

is_digit_lem : (b : ℕ) → is_digit b ≡ true → ADigit b
unfolding is_digit
is_digit_lem b e =
    record { low = leb-true 48 b (and_left (leb 48 b) (leb b 57) e); high = leb-true b 57 (and_right (leb 48 b) (leb b 57) e) }

pub digit-first : (b : ℕ) (s : List ℕ) → all_of is_digit (b ∷ s) ≡ true → ADigit b
digit-first b s e = is_digit_lem b (and_left (is_digit b) (all_of is_digit s) e)

pub digits-rest : (b : ℕ) (s : List ℕ) → all_of is_digit (b ∷ s) ≡ true → all_of is_digit s ≡ true
digits-rest b s e = and_right (is_digit b) (all_of is_digit s) e
