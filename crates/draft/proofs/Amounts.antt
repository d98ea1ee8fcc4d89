-- An amount by its parts, as the code looks at them. Assumes nothing.
use mathlib.Core.Path.{◌≡◌, sym, ◌∙◌, ap}
use mathlib.Core.Bool.{true, false, and-false}
use mathlib.Core.List.{List}
use Prim.Native.Nat.{ℕ, ◌-◌, ◌≤◌, ◌<◌}
use native.Mathlib.Omega.{arith}
use borrow.Author.Tests.{le-leb, lt-leb, eq-eqb, ne_eqb}
use lib.ListN.{length, get_or, take, drop, length-drop}
use lib.Seq.{length-take-le}
use Rattle.std.specs.Prelude.{Some, None}
use Rattle.fields.proofs.FromFront.{to_end}
use Rattle.classes.specs.Class.{all_in}
use Rattle.classes.specs.declared.Class.TheVariants.{Digit}
use Rattle.xml.specs.Bytes.{all_of}
use Rattle.pacs.specs.Judged.{is_digit, digits_behind}
use Rattle.pacs.proofs.Accepting.{digits-below}
use Rattle.draft.specs.Drafting.{amount_in}
use Rattle.draft.proofs.Cents.{digits-class}

-- the digits before the point and those behind it
abbrev pub whole_part : List ℕ → List ℕ
whole_part s = take (length s - 3) s

abbrev pub last_part : List ℕ → List ℕ
last_part s = take (length s - (length s - 2)) (drop (length s - 2) s)

last-is : (s : List ℕ) → last_part s ≡ drop (length s - 2) s
last-is s = to_end s (length s - 2)

whole-digits : (s : List ℕ) → all_of is_digit (take (length s - 3) s) ≡ all_in Digit (whole_part s)
whole-digits s = digits-class (whole_part s)

last_digits : (s : List ℕ) → all_of is_digit (drop (length s - 2) s) ≡ all_in Digit (last_part s)
last_digits s = ap (all_of is_digit) (sym (last-is s)) ∙ digits-class (last_part s)

-- what is no amount
module _ (s : List ℕ) where
  pub too_short : length s < 4 → None ≡ amount_in s
  too_short h = simp (lt-leb 4 (length s) h)

  pub too_long : 12 < length s → None ≡ amount_in s
  too_long h = simp (lt-leb (length s) 12 h, and-false)

  pub no-point : (get_or s (length s - 3) 0 ≡ 46 → ⊥) → None ≡ amount_in s
  no-point h = simp (ne_eqb (get_or s (length s - 3) 0) 46 h, and-false)

  pub whole-wrong : all_in Digit (whole_part s) ≡ false → None ≡ amount_in s
  whole-wrong e = simp (whole-digits s ∙ e, and-false)

  pub last-wrong : all_in Digit (last_part s) ≡ false → None ≡ amount_in s
  last-wrong e = simp (last_digits s ∙ e, and-false)

-- what is
pub record Parts (s : List ℕ) : Type 0 where
  pub least : 4 ≤ length s
  pub most : length s ≤ 12
  pub point : get_or s (length s - 3) 0 ≡ 46
  pub whole : all_of is_digit (whole_part s) ≡ true
  pub last : all_of is_digit (last_part s) ≡ true

module _ (s : List ℕ) (p : Parts s) where
  pub whole-few : length (whole_part s) ≤ 9
  whole-few =
      let most = p.most in
      let l = length-take-le (length s - 3) s (omega arith) in
      omega arith

  pub last-few : length (last_part s) ≤ 2
  last-few =
      let least = p.least in
      let e = ap length (last-is s) ∙ length-drop (length s - 2) s in
      omega arith

  pub whole_below : digits_behind 0 (whole_part s) < 1000000000
  whole_below = digits-below 9 0 1 (whole_part s) whole-few (omega arith) p.whole

  pub cents-are : amount_in s ≡ Some (digits_behind (digits_behind 0 (whole_part s)) (last_part s))
  cents-are =
      simp (
        le-leb 4 (length s) p.least,
        le-leb (length s) 12 p.most,
        eq-eqb (get_or s (length s - 3) 0) 46 p.point,
        p.whole,
        ap (all_of is_digit) (sym (last-is s)) ∙ p.last,
      )
      (ap (λ (b : List ℕ). Some (digits_behind (digits_behind 0 (whole_part s)) b)) (sym (last-is s)))
