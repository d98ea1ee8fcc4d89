-- The walk over an IBAN's bytes, padded or not: what is held behind the first strides, and at the end. Assumes nothing.
use mathlib.Core.Path.{◌≡◌, sym, subst, ◌∙◌, ap, ap₂}
use mathlib.Core.Bool.{true}
use mathlib.Core.List.{List, ◌++◌}
use Prim.Native.Nat.{ℕ, ◌+◌, ◌-◌, ◌^◌, ◌≤◌, ◌<◌}
use native.Mathlib.Omega.{arith}
use lib.ListN.{length, take, drop, length-take, length-drop, length-append}
use Rattle.fields.specs.Number.{part}
use Rattle.fields.specs.Text.{unpadded}
use Rattle.fields.proofs.Stores.{part_join, length_part}
use Rattle.classes.proofs.Unpadding.{value-within}
use Rattle.remainder.specs.Held.{Fitting, nothing_held, joined}
use Rattle.remainder.specs.declared.Held.{Held}
use Rattle.iban.specs.Iban.{digits, read_decimal, rearranged, iban_shape}
use Rattle.iban.specs.Strides.{Writes}
use Rattle.iban.specs.declared.strides.Stride.{Stride}
use Rattle.iban.proofs.SpeltNumber.{digits_append}
use Rattle.iban.proofs.IbanDigits.{digits-range, front-digits}
use Rattle.iban.proofs.ShapeParts.{shape-least, shape-country, shape-check}
use Rattle.iban.proofs.ValueBytes.{value-part, value-rest}
use Rattle.iban.proofs.DecimalDigits.{digits_decimal, number-below}
use Rattle.iban.proofs.HeldDigits.{Holds, nothing-holds, put_holds, holds_fits}

-- a stride is a number of its digits
pub stride-small : {r : Stride} (t : List ℕ) → Writes r t → r.number < 10 ^ r.digits
stride-small t w = rw (w.read, w.counted) (number-below (digits t) (digits_decimal t))

-- i characters of the value of a field s are passed, the first four of which are not held
pub record Walked (s : List ℕ) (h : Held) (i : ℕ) : Type 0 where
  pub least : 4 ≤ i
  pub within : i ≤ length (unpadded s)
  pub holds : Holds h (digits (part (i - 4) 4 s))

module _ (s : List ℕ) where
  pub walk_begins : 4 ≤ length (unpadded s) → Walked s nothing_held 4
  walk_begins l = record { least = omega arith; within = l; holds = nothing-holds }

  pub walk-fits : {h : Held} {i : ℕ} → length (unpadded s) ≤ 34 → Walked s h i → Fitting h
  walk-fits {h} {i} l w =
      let t = part (i - 4) 4 s in
      let long : length t ≡ i - 4 = length_part (i - 4) 4 s (let a = w.least in let b = w.within in omega (arith, value-within s)) in
      holds_fits h (digits t) w.holds (digits_decimal t)
      (let a = w.least in let b = w.within in omega (arith, digits-range t, long))

  pub walk-strides : {h : Held} {i : ℕ} (r : Stride) → Walked s h i → Writes r (part r.length i s) → r.digits ≤ 7
      → i + r.length ≤ length (unpadded s) → Walked s (joined h r.number r.digits) (i + r.length)
  walk-strides {h} {i} r w writes most l =
      let a = w.least in
      let t = part (i - 4) 4 s in
      let u = part r.length i s in
      let at : 4 + (i - 4) ≡ i = omega arith in
      let more : i - 4 + r.length ≡ i + r.length - 4 = omega arith in
      let both : t ++ u ≡ part (i + r.length - 4) 4 s =
      ap (λ (k : ℕ). t ++ part r.length k s) (sym at) ∙ sym (part_join (i - 4) r.length 4 s) ∙ ap (λ (k : ℕ). part k 4 s) more
      in
      record {
        least = omega arith;
        within = l;
        holds =
            subst (λ (ds : List ℕ). Holds (joined h r.number r.digits) ds)
            (sym (digits_append t u) ∙ ap digits both)
            (put_holds h (digits t) (digits u) r.number r.digits w.holds (digits_decimal u) writes.counted writes.read most);
      }

  -- the end: the first four behind the others
  pub walk_ends : {h : Held} (n : ℕ) → iban_shape (unpadded s) ≡ true → Walked s h (length (unpadded s)) → n ≡ read_decimal (digits (take 4 s))
      → Holds (joined h n 6) (digits (rearranged (unpadded s)))
  walk_ends {h} n e w en =
      let v = unpadded s in
      let least = shape-least v e in
      let front : take 4 v ≡ take 4 s = value-part s 4 0 (omega arith) in
      let six : 6 ≡ length (digits (take 4 s)) =
      sym (front-digits v (omega arith) (shape-country v e) (shape-check v e)) ∙ ap (λ (t : List ℕ). length (digits t)) front
      in
      let rest = part (length v - 4) 4 s in
      let all : rest ++ take 4 s ≡ rearranged v = sym (ap₂ ◌++◌ (value-rest s 4 (omega arith)) front) in
      subst (λ (ds : List ℕ). Holds (joined h n 6) ds)
      (sym (digits_append rest (take 4 s)) ∙ ap digits all)
      (put_holds h (digits rest) (digits (take 4 s)) n 6 w.holds (digits_decimal (take 4 s)) six en (omega arith))

  pub end_fits : {h : Held} → length (unpadded s) ≤ 34 → Holds h (digits (rearranged (unpadded s))) → Fitting h
  end_fits {h} l holds =
      let v = unpadded s in
      let long : length (rearranged v) ≡ length v =
      length-append (drop 4 v) (take 4 v) ∙ omega (arith, length-drop 4 v, length-take 4 v)
      in
      holds_fits h (digits (rearranged v)) holds (digits_decimal (rearranged v)) (omega (arith, digits-range (rearranged v), long))
