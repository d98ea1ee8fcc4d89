-- `repeats::repeated` meets its contract. Assumes nothing.
use mathlib.Core.Path.{◌≡◌, sym, ◌∙◌, ap}
use mathlib.Core.Bool.{Bool, true, not}
use mathlib.Core.List.{List}
use Prim.Native.Nat.{ℕ, ◌+◌, ◌-◌, ◌<◌}
use native.Mathlib.Omega.{arith}
use lib.ListN.{length, drop}
use Rattle.xml.specs.Tree.{Attribute}
use Rattle.xml.specs.Scanning.{attributed, attributes_in}
use Rattle.xml.specs.WellFormed.{distinct}
use Rattle.repeats.specs.Repeats.{repeats_in}
use Rattle.repeats.proofs.Reading.{repeats-read}
use Rattle.repeats.proofs.Turning.{repeats-more}
use Rattle.repeats.proofs.repeated.Goals as goal

-- for any text and count: what the code answers is what the definition of a tag asks
told : (text : List ℕ) (at count : ℕ) (r : Bool) → r ≡ repeats_in count (drop at text)
    → (fuel : ℕ) (more : List Attribute) (space z : List ℕ) → attributes_in fuel (drop at text) ≡ attributed more space z
    → count ≡ length more → r ≡ not (distinct more)
told text at count r r-is fuel more space z read counted =
    r-is ∙ ap (λ (n : ℕ). repeats_in n (drop at text)) counted ∙ repeats-read fuel (drop at text) more space z read

-- more than 13,104: a name that stands twice among these
told-first : (s : List ℕ) (most count : ℕ) (found : Bool) → most < count → found ≡ repeats_in most s → found ≡ true
    → true ≡ repeats_in count s
told-first s most count found more found-is e =
    let sum : most + (count - most) ≡ count = omega arith in
    sym (ap (λ (n : ℕ). repeats_in n s) (sym sum) ∙ repeats-more s most (count - most) (sym found-is ∙ e))

pub returns-then-count-le16 : goal.returns-then-count-le16
returns-then-count-le16 c =
    let a = c.args in
    told a.text.now a.at a.count _ (c.repeats.ensures ∙ ap (repeats_in a.count) c.from_place-s.ensures)

pub returns-then-count-le13104 : goal.returns-then-count-le13104
returns-then-count-le13104 c =
    let a = c.args in
    told a.text.now a.at a.count _ (c.many.ensures ∙ ap (repeats_in a.count) c.from_place-s.ensures)

pub returns-then-many : goal.returns-then-many
returns-then-many c =
    let a = c.args in
    let first = c.many-2.ensures ∙ ap (repeats_in 13_104) c.from_place-s.ensures in
    told a.text.now a.at a.count _
    (c.if-many.true ∙ told-first (drop a.at a.text.now) 13_104 a.count _ c.if-count-le13104.false first c.if-many.true)

pub returns-else-many : goal.returns-else-many
returns-else-many c =
    let a = c.args in
    told a.text.now a.at a.count _ (c.repeats-else-many.ensures ∙ ap (repeats_in a.count) c.from_place-s.ensures)
