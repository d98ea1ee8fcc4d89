-- What stands ahead of a place in the value of a field of capitals and digits, by the tests of the code: one character, two, or seven
-- digits. Assumes nothing.
use mathlib.Core.Path.{◌≡◌, sym, ◌∙◌, ap, subst}
use mathlib.Core.Bool.{Bool, true, false, not, ◌&&◌, ◌||◌}
use mathlib.Core.List.{List, [], ◌∷◌, ◌++◌}
use Prim.Native.Nat.{ℕ, ◌+◌, ◌≤◌, ◌<◌}
use native.Mathlib.Omega.{arith}
use borrow.Author.Tests.{ne_eqb, ltb-true, leb-true, leb-false, not-true}
use lib.Dec.{ltb, leb, eqb}
use lib.ListN.{length, get_or}
use Rattle.fields.specs.Number.{part}
use Rattle.fields.specs.Text.{unpadded}
use Rattle.fields.proofs.Stores.{part_join, part-one, length_part}
use Rattle.fields.proofs.Tests.{and_left, and_right, or_left, or_right}
use Rattle.classes.specs.Class.{is_in, all_in}
use Rattle.classes.specs.declared.Class.TheVariants.{Capital, Digit, CapitalOrDigit}
use Rattle.classes.proofs.Unpadding.{value-within}
use Rattle.iban.specs.Strides.{five_more, Writes}
use Rattle.iban.specs.declared.strides.Stride.{Stride}
use Rattle.iban.proofs.Characters.{low_digit, high-capital}
use Rattle.iban.proofs.PartBytes.{part_bytes}
use Rattle.iban.proofs.ValueBytes.{used-within, value_in}

-- a stride that stays in the value, over at least a character
abbrev pub Strode : List ℕ → ℕ → Stride → Type 0
Strode s i r =
    (1 ≤ r.length) × (i + r.length ≤ length (unpadded s)) × Writes r (part r.length i s) × (r.digits ≤ 7)

strode : (s t : List ℕ) (i : ℕ) (r : Stride) → Writes r t × (r.digits ≤ 7) → part (length t) i s ≡ t → 1 ≤ length t
    → i + length t ≤ length (unpadded s) → Strode s i r
strode s t i r w e l h =
    let long = w.0.long in
    (omega arith, omega arith, subst (λ (u : List ℕ). Writes r u) (sym (ap (λ (n : ℕ). part n i s) long ∙ e)) w.0, w.1)

five-true : (a b c d e : Bool) → (a && b && c && d && e) ≡ true → (a ≡ true) × (b ≡ true) × (c ≡ true) × (d ≡ true) × (e ≡ true)
five-true a b c d e h =
    let four = and_left (a && b && c && d) e h in
    let three = and_left (a && b && c) d four in
    let two = and_left (a && b) c three in
    (and_left a b two, and_right a b two, and_right (a && b) c three, and_right (a && b && c) d four, and_right (a && b && c && d) e h)

-- five bytes that are no letters, the last no zero byte
module _ (s : List ℕ) (all : all_in CapitalOrDigit (unpadded s) ≡ true) (at : ℕ) (e : five_more s at ≡ true) where
  abbrev low : ℕ → Bool
  low j = ltb (get_or s j 0) 64

  abbrev five_low : Bool
  five_low = low at && low (at + 1) && low (at + 2) && low (at + 3) && low (at + 4)

  tested : (five_low && not (eqb (get_or s (at + 4) 0) 0)) ≡ true
  tested = and_right (not (ltb (length s) (at + 5))) _ e

  five-within : at + 5 ≤ length (unpadded s)
  five-within = omega (arith, used-within s (at + 4) (not-true (eqb (get_or s (at + 4) 0) 0) (and_right five_low _ tested)))

  low-at : (j : ℕ) → j < at + 5 → low j ≡ true → is_in Digit (get_or s j 0) ≡ true
  low-at j h l =
      low_digit (get_or s j 0) (value_in CapitalOrDigit s all j (omega (arith, five-within))) (ltb-true (get_or s j 0) 64 l)

  five-digits : all_in Digit (part 5 at s) ≡ true
  five-digits =
      let lows = five-true (low at) (low (at + 1)) (low (at + 2)) (low (at + 3)) (low (at + 4)) (and_left five_low _ tested) in
      ap (all_in Digit) (part_bytes 4 at s (omega (arith, five-within, value-within s)))
      ∙ simp (
        low-at at (omega arith) lows.0,
        low-at (at + 1) (omega arith) lows.1,
        low-at (at + 2) (omega arith) lows.2,
        low-at (at + 3) (omega arith) lows.3,
        low-at (at + 4) (omega arith) lows.4,
      )

-- the byte at i of the value, and b behind it
pub record Ahead (s : List ℕ) (i b : ℕ) : Type 0 where
  pub spelt : all_in CapitalOrDigit (unpadded s) ≡ true
  pub within : i < length (unpadded s)
  pub next : b ≡ get_or s (i + 1) 0

module _ {s : List ℕ} {i b : ℕ} (a : Ahead s i b) where
  pub first-spelt : is_in CapitalOrDigit (get_or s i 0) ≡ true
  first-spelt = value_in CapitalOrDigit s a.spelt i a.within

  pub one-strode : (r : Stride) → Writes r (get_or s i 0 ∷ []) × (r.digits ≤ 7) → Strode s i r
  one-strode r w =
      let one-within = a.within in
      strode s (get_or s i 0 ∷ []) i r w (part-one i s (omega (arith, value-within s))) (omega arith) (omega arith)

  -- b is no zero byte
  module _ (used : b ≡ 0 → ⊥) where
    pub two-within : i + 2 ≤ length (unpadded s)
    two-within = omega (arith, used-within s (i + 1) (ne_eqb (get_or s (i + 1) 0) 0 (λ z. used (a.next ∙ z))))

    pub second-spelt : is_in CapitalOrDigit b ≡ true
    second-spelt = ap (is_in CapitalOrDigit) a.next ∙ value_in CapitalOrDigit s a.spelt (i + 1) (omega (arith, two-within))

    two_at : part 2 i s ≡ get_or s i 0 ∷ b ∷ []
    two_at = part_bytes 1 i s (omega (arith, two-within, value-within s)) ∙ ap (λ (c : ℕ). get_or s i 0 ∷ c ∷ []) (sym a.next)

    pub two-strode : (r : Stride) → Writes r (get_or s i 0 ∷ b ∷ []) × (r.digits ≤ 7) → Strode s i r
    two-strode r w = strode s (get_or s i 0 ∷ b ∷ []) i r w two_at (omega arith) two-within

    -- both are letters
    pub both-capitals : (leb 64 (get_or s i 0) && leb 64 b) ≡ true → (is_in Capital (get_or s i 0) ≡ true) × (is_in Capital b ≡ true)
    both-capitals high = (
      high-capital (get_or s i 0) first-spelt (leb-true 64 (get_or s i 0) (and_left (leb 64 (get_or s i 0)) (leb 64 b) high)),
      high-capital b second-spelt (leb-true 64 b (and_right (leb 64 (get_or s i 0)) (leb 64 b) high)),
    )

    -- neither is a letter
    module _ (low : (leb 64 (get_or s i 0) || leb 64 b) ≡ false) where
      pub both-digits : (is_in Digit (get_or s i 0) ≡ true) × (is_in Digit b ≡ true)
      both-digits = (
        low_digit (get_or s i 0) first-spelt (leb-false 64 (get_or s i 0) (or_left _ (leb 64 b) low)),
        low_digit b second-spelt (leb-false 64 b (or_right (leb 64 (get_or s i 0)) _ low)),
      )

      -- nor one of the five behind them
      module _ (more : five_more s (i + 2) ≡ true) where
        seven-within : i + 7 ≤ length (unpadded s)
        seven-within = omega (arith, five-within s a.spelt (i + 2) more)

        pub seven-there : (i + 7 ≤ length s) × (all_in Digit (part 7 i s) ≡ true)
        seven-there = (
          omega (arith, seven-within, value-within s),
          ap (all_in Digit) (part_join 2 5 i s ∙ ap (λ (t : List ℕ). t ++ part 5 (i + 2) s) two_at)
              ∙ simp (both-digits.0, both-digits.1, five-digits s a.spelt (i + 2) more),
        )

        pub seven-strode : (r : Stride) → Writes r (part 7 i s) × (r.digits ≤ 7) → Strode s i r
        seven-strode r w =
            let long = length_part 7 i s seven-there.0 in
            let fits = seven-within in
            strode s (part 7 i s) i r w (ap (λ (n : ℕ). part n i s) long) (omega arith) (omega arith)
