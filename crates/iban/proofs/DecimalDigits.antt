-- Lists of decimal digits: the digits of any bytes are such, and what such a list, its first digits and its last read as. Assumes nothing.
use mathlib.Core.Path.{◌≡◌, refl, sym, ◌∙◌, ap}
use mathlib.Core.Bool.{Bool, true, false, cond}
use mathlib.Core.List.{List, [], ◌∷◌, ◌++◌}
use Prim.Native.Nat.{ℕ, zero, suc, ◌+◌, ◌-◌, ◌*◌, ◌/◌, ◌%◌, ◌^◌, ◌<◌}
use native.Mathlib.Omega.{arith}
use native.Mathlib.Numerals.{one-add}
use borrow.Author.Tests.{ltb-true}
use lib.Dec.{ltb}
use lib.Arith.{digits_div}
use lib.ListN.{length, take, drop, length-drop, take-append-drop}
use Rattle.remainder.proofs.DigitBounds.{digits-behind}
use Rattle.classes.specs.Class.{digit, capital}
use Rattle.iban.specs.Iban.{value, digits_of, digits, read_decimal}
use Rattle.iban.proofs.SpeltNumber.{read_decimal-append}
use Rattle.iban.proofs.Characters.{digit-bounds, capital-bounds}

-- each is a digit
abbrev pub Decimal : List ℕ → Type 0
Decimal [] = Unit {0}
Decimal (d ∷ ds) = (d < 10) × Decimal ds

decimal-append : (ds es : List ℕ) → Decimal ds → Decimal es → Decimal (ds ++ es)
decimal-append [] es p q = q
decimal-append (d ∷ ds) es p q = (p.0, decimal-append ds es p.1 q)

pub decimal-drop : (i : ℕ) (ds : List ℕ) → Decimal ds → Decimal (drop i ds)
decimal-drop zero ds p = p
decimal-drop (suc i) [] p = tt
decimal-drop (suc i) (d ∷ ds) p = decimal-drop i ds p.1

-- what any byte counts for is written with one digit or two
value-small : (c : ℕ) → value c < 36
value-small c =
    small (digit c) (λ e. let m = digit-bounds c e in omega arith)
    (small (capital c) (λ e. let m = capital-bounds c e in omega arith) (omega arith))
  where
    small : (b : Bool) {x y : ℕ} → (b ≡ true → x < 36) → y < 36 → cond b x y < 36
    small true p q = p refl
    small false p q = q

written-decimal : (v : ℕ) → v < 36 → Decimal (cond (ltb v 10) (v ∷ []) (v / 10 ∷ v % 10 ∷ []))
written-decimal v h = go (ltb v 10) refl
  where
    go : (b : Bool) → ltb v 10 ≡ b → Decimal (cond b (v ∷ []) (v / 10 ∷ v % 10 ∷ []))
    go true e = (ltb-true v 10 e, tt)
    go false e = (omega arith, (omega arith, tt))

pub digits_decimal : (s : List ℕ) → Decimal (digits s)
digits_decimal [] = tt
digits_decimal (c ∷ s) = decimal-append (digits_of c) (digits s) (written-decimal (value c) (value-small c)) (digits_decimal s)

pub number-below : (es : List ℕ) → Decimal es → read_decimal es < 10 ^ length es
number-below [] p = omega arith
number-below (d ∷ es) p = rw one-add at (digits-behind d (read_decimal es) 1 (length es) p.0 (number-below es p.1))

-- the first digits of a number, and those behind them
module _ (es : List ℕ) (i rest : ℕ) (decimal : Decimal es) (e : i + rest ≡ length es) where
  left-long : length (drop i es) ≡ rest
  left-long = length-drop i es ∙ omega arith

  in_parts : read_decimal (take i es) * 10 ^ rest + read_decimal (drop i es) ≡ read_decimal es
  in_parts =
      ap (λ (k : ℕ). read_decimal (take i es) * 10 ^ k + read_decimal (drop i es)) (sym left-long)
      ∙ sym (read_decimal-append (take i es) (drop i es))
      ∙ ap read_decimal (take-append-drop i es)

  pub first_read : read_decimal es / 10 ^ rest ≡ read_decimal (take i es)
  first_read =
      rw (← in_parts) (digits_div (read_decimal (take i es)) (rw left-long at (number-below (drop i es) (decimal-drop i es decimal))))

  pub left-read : read_decimal es - read_decimal es / 10 ^ rest * 10 ^ rest ≡ read_decimal (drop i es)
  left-read = rw first_read (omega (arith, in_parts))
