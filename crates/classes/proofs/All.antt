-- Bytes that are all of a class: each of them is, and none is the zero byte, which no class has. Assumes nothing.
use mathlib.Core.Path.{◌≡◌, refl}
use mathlib.Core.Bool.{true, false}
use mathlib.Core.List.{List, [], ◌∷◌}
use Prim.Native.Nat.{ℕ, zero, suc, ◌<◌}
use native.Mathlib.Nat.{not-suc-le-zero, le_of_suc-le-suc}
use lib.Dec.{eqb, eqb-suc-zero}
use lib.ListN.{length, get_or}
use Rattle.fields.proofs.Tests.{and_left, and_right}
use Rattle.classes.specs.Class.{is_in, all_in}
use Rattle.classes.specs.declared.Class.{Class}
use Rattle.classes.specs.declared.Class.TheVariants.{
  Capital,
  Digit,
  CapitalOr2To9,
  CapitalButOOrDigit,
  CapitalOrDigit,
  Txid,
}

pub in-at : (class : Class) (s : List ℕ) (i : ℕ) → all_in class s ≡ true → i < length s → is_in class (get_or s i 0) ≡ true
in-at class [] i e h = absurd (not-suc-le-zero h)
in-at class (c ∷ s) zero e h = and_left (is_in class c) (all_in class s) e
in-at class (c ∷ s) (suc i) e h = in-at class s i (and_right (is_in class c) (all_in class s) e) (le_of_suc-le-suc h)

pub no_zero : (class : Class) → is_in class 0 ≡ false
no_zero Capital = refl
no_zero Digit = refl
no_zero CapitalOr2To9 = refl
no_zero CapitalButOOrDigit = refl
no_zero CapitalOrDigit = refl
no_zero Txid = refl

not-zero : (class : Class) (c : ℕ) → is_in class c ≡ true → eqb c 0 ≡ false
not-zero class zero e = cc (no_zero class)
not-zero class (suc c) e = eqb-suc-zero c

pub none-zero : (class : Class) (s : List ℕ) (i : ℕ) → all_in class s ≡ true → i < length s → eqb (get_or s i 0) 0 ≡ false
none-zero class s i e h = not-zero class (get_or s i 0) (in-at class s i e h)
