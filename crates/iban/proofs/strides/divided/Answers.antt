use mathlib.Core.Path.{◌≡◌, sym, subst, ◌∙◌, ap}
use mathlib.Core.Bool.{true}
use mathlib.Core.List.{List}
use Prim.Native.Nat.{ℕ, ◌+◌, ◌<◌}
use native.Mathlib.Omega.{arith}
use borrow.Author.Tests.{ne_eqb}
use lib.ListN.{length, get_or, take}
use Rattle.fields.specs.Text.{unpadded}
use Rattle.classes.proofs.Unpadding.{value-within}
use Rattle.classes.specs.Class.{all_in}
use Rattle.classes.specs.declared.Class.TheVariants.{Capital, Digit, CapitalOrDigit}
use Rattle.iban.specs.Iban.{digits, rearranged, read_decimal, iban_shape}
use Rattle.remainder.specs.Held.{joined}
use Rattle.remainder.specs.declared.Held.{Held}
use Rattle.remainder.specs.declared.Divided.{Divided}
use Rattle.iban.proofs.ShapeParts.{shape-least, shape-most, shape-country, shape-check, shape-spelt}
use Rattle.iban.proofs.ValueBytes.{used-within, value-stops, value-part}
use Rattle.iban.proofs.HeldDigits.{Holds, end-remainder, end-groups}
use Rattle.iban.proofs.Walk.{Walked, stride-small, walk-fits, walk-strides, walk_ends, end_fits}
use Rattle.iban.proofs.strides.divided.Goals as goal

-- the bytes of a field whose value has the shape of an IBAN
module _ (s : List ℕ) (e : iban_shape (unpadded s) ≡ true) where
  -- no character stands at i
  passed : (h : Held) (i : ℕ) → Walked s h i → get_or s i 0 ≡ 0 → Walked s h (length (unpadded s))
  passed h i w z = subst (Walked s h) (value-stops CapitalOrDigit s (shape-spelt (unpadded s) e) i w.within z) w

  -- the first four are held behind the others
  all_held : (h held : Held) (i n : ℕ) → Walked s held i → get_or s i 0 ≡ 0 → n ≡ read_decimal (digits (take 4 s)) → h ≡ joined held n 6
      → Holds h (digits (rearranged (unpadded s)))
  all_held h held i n w z en eh =
      subst (λ (k : Held). Holds k (digits (rearranged (unpadded s)))) (sym eh) (walk_ends s n e (passed held i w z) en)

-- a character stands at i
inside : (s : List ℕ) (i b : ℕ) → b ≡ get_or s i 0 → (b ≡ 0 → ⊥) → i < length (unpadded s)
inside s i b e used = used-within s i (ne_eqb (get_or s i 0) 0 (λ z. used (e ∙ z)))

pub next_stride-next-requires : goal.next_stride-next-requires
next_stride-next-requires c =
    (shape-spelt (unpadded c.args.s.now) c.requires, inside c.args.s.now c.loop-next.i c.byte.result c.byte.ensures c.loop-next-test.true)

pub put-held-requires : goal.put-held-requires
put-held-requires c =
    let s = c.args.s.now in
    let r = c.next_stride-next.result in (
      walk-fits s (shape-most (unpadded s) c.requires) c.loop-next.invariant,
      c.next_stride-next.ensures.3,
      stride-small _ c.next_stride-next.ensures.2,
    )

pub loop-next-preserved : goal.loop-next-preserved
loop-next-preserved c =
    let r = c.next_stride-next.result in
    let e = c.next_stride-next.ensures in
    subst (λ (h : Held). Walked c.args.s.now h (c.loop-next.i + r.length))
    (sym c.put-held.ensures)
    (walk-strides c.args.s.now r c.loop-next.invariant e.2 e.3 e.1)

pub front-requires : goal.front-requires
front-requires c =
    let s = c.args.s.now in
    let v = unpadded s in
    let least = shape-least v c.requires in (
      omega (arith, value-within s),
      ap (all_in Capital) (sym (value-part s 2 0 (omega arith))) ∙ shape-country v c.requires,
      ap (all_in Digit) (sym (value-part s 2 2 (omega arith))) ∙ shape-check v c.requires,
    )

pub put-requires : goal.put-requires
put-requires c = (
  walk-fits c.args.s.now (shape-most (unpadded c.args.s.now) c.requires) c.loop-next.invariant,
  omega arith,
  c.front.ensures.1,
)

pub ended-requires : goal.ended-requires
ended-requires c =
    end_fits c.args.s.now (shape-most (unpadded c.args.s.now) c.requires) (all_held c.args.s.now c.requires c.put.result c.loop-next.held c.loop-next.i c.front.result c.loop-next.invariant (sym c.byte.ensures ∙ c.loop-next-test.false) c.front.ensures.0 c.put.ensures)

pub returns : goal.returns
returns c =
    let h = c.put.result in (
      ap (λ (d : Divided). d.remainder) c.ended.ensures ∙ end-remainder h _ (all_held c.args.s.now c.requires c.put.result c.loop-next.held c.loop-next.i c.front.result c.loop-next.invariant (sym c.byte.ensures ∙ c.loop-next-test.false) c.front.ensures.0 c.put.ensures),
      ap (λ (d : Divided). d.groups) c.ended.ensures ∙ end-groups h _ (all_held c.args.s.now c.requires c.put.result c.loop-next.held c.loop-next.i c.front.result c.loop-next.invariant (sym c.byte.ensures ∙ c.loop-next-test.false) c.front.ensures.0 c.put.ensures),
    )
