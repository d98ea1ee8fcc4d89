-- The end of a tag by the bytes behind its attributes. Assumes nothing.
use mathlib.Core.Path.{◌≡◌, refl, sym, ◌∙◌, ap, subst}
use mathlib.Core.Bool.{Bool, true, false, ◌&&◌, not, cond}
use mathlib.Core.List.{List, [], ◌∷◌}
use Prim.Native.Nat.{ℕ, suc, ◌+◌, ◌≤◌}
use native.Mathlib.Omega.{arith}
use borrow.Author.Tests.{eq-eqb, ne_eqb, le-ltb, not-true, not-false}
use lib.Dec.{eqb}
use lib.ListN.{length, get_or, drop}
use lib.Seq.{drop-drop}
use Rattle.xml.specs.Bytes.{is_space, is_first, run}
use Rattle.xml.specs.Tree.{Attribute, Tag}
use Rattle.xml.specs.WellFormed.{distinct}
use Rattle.xml.specs.Scanning.{
  misread,
  attributed,
  attributes_of,
  TagRead,
  no_tag,
  opens,
  closes,
  tag_ending,
  tag_behind,
}
use Rattle.xml.proofs.Places.{byte-within, one-behind, tested_at}
use Rattle.xml.proofs.FirstAttribute.{as-in}
use Rattle.scan.proofs.Runs.{run-stops}
use Rattle.tags.specs.Tagged.{RepeatsTold, Tagged}
use Rattle.tags.specs.declared.TagEnd.{TagEnd}
use Rattle.tags.specs.declared.TagEnd.TheVariants.{Opens, Closes}
use Rattle.tags.specs.declared.TagFault.{TagFault}
use Rattle.std.specs.Prelude.{Result, Ok, Err, IsErr}
use Rattle.fields.proofs.Tests.{never}
use Rattle.tags.proofs.Attributes.{all_read, starts}

-- fewer than two attributes have no name twice
pub few-distinct : (more : List Attribute) {count : ℕ} → count ≡ length more → count ≤ 1 → false ≡ not (distinct more)
few-distinct [] e h = refl
few-distinct (a ∷ []) e h = refl
few-distinct (a ∷ b ∷ more) e h = absurd (omega arith)

module _ (s : List ℕ) (at : ℕ) where
  tag_is : (p : Result TagEnd TagFault) {r r' : TagRead} → r ≡ r' → Tagged s at r' p → Tagged s at r p
  tag_is p e = subst (λ (x : TagRead). Tagged s at x p) (sym e)

  -- attributes that can't be read
  pub misread-tag : (name : List ℕ) (r : Result TagEnd TagFault) → IsErr r → attributes_of (drop at s) ≡ misread
      → Tagged s at (tag_behind name (attributes_of (drop at s))) r
  misread-tag name (Ok p) h e = never (sym h)
  misread-tag name (Err f) h e = tag_is (Err f) (ap (tag_behind name) e) tt

  module _ (end : ℕ) {count : ℕ} {r : Bool} (told : RepeatsTold s at count r) (name : List ℕ) (more : List Attribute) (space : List ℕ)
      (behind : at ≤ end) (read : attributes_of (drop at s) ≡ attributed more space (drop end s)) (counted : count ≡ length more) where
    abbrev tag : Tag
    tag = record { name = name; attributes = more; space = space }

    whether : {v : Bool} → distinct more ≡ v → tag_behind name (attributes_of (drop at s)) ≡ cond v (tag_ending tag (drop end s)) no_tag
    whether e = ap (tag_behind name) read ∙ ap (λ (v : Bool). cond v (tag_ending tag (drop end s)) no_tag) e

    told_here : r ≡ not (distinct more)
    told_here = told (suc (length (drop at s))) more space (drop end s) (sym (as-in (drop at s)) ∙ read) counted

    pub repeated-tag : (p : TagFault) → r ≡ true → Tagged s at (tag_behind name (attributes_of (drop at s))) (Err p)
    repeated-tag p e = tag_is (Err p) (whether (not-true (distinct more) (sym told_here ∙ e))) tt

    module _ (once : r ≡ false) {b : ℕ} (b-is : b ≡ get_or s end 0) where
      single : tag_behind name (attributes_of (drop at s)) ≡ tag_ending tag (drop end s)
      single = whether (not-false (distinct more) (sym told_here ∙ once))

      first-tested : (w : ℕ) → eqb (get_or (drop end s) 0 0) w ≡ eqb b w
      first-tested w = tested_at s end refl b-is w

      opens-there : b ≡ 62 → tag_behind name (attributes_of (drop at s)) ≡ opens tag (drop 1 (drop end s))
      opens-there e = single ∙ rw (first-tested 62 ∙ eq-eqb b 62 e)

      neither-there : (b ≡ 62 → ⊥) → (b ≡ 47 → ⊥) → tag_behind name (attributes_of (drop at s)) ≡ no_tag
      neither-there e f = single ∙ rw (first-tested 62 ∙ ne_eqb b 62 e, first-tested 47 ∙ ne_eqb b 47 f)

      pub opening : b ≡ 62 → Tagged s at (tag_behind name (attributes_of (drop at s))) (Ok (Opens (end + 1)))
      opening e =
          tag_is (Ok (Opens (end + 1))) (opens-there e)
          (one-behind s end refl, omega arith, omega (arith, byte-within s end 62 (sym b-is ∙ e) (omega arith)))

      pub neither : (p : TagFault) → (b ≡ 62 → ⊥) → (b ≡ 47 → ⊥) → Tagged s at (tag_behind name (attributes_of (drop at s))) (Err p)
      neither p e f = tag_is (Err p) (neither-there e f) tt

      module _ (slash : b ≡ 47) {d : ℕ} (d-is : d ≡ get_or s (end + 1) 0) where
        second-tested : (w : ℕ) → eqb (get_or (drop 1 (drop end s)) 0 0) w ≡ eqb d w
        second-tested w = tested_at s (end + 1) (one-behind s end refl) d-is w

        other : eqb (get_or (drop end s) 0 0) 62 ≡ false
        other = first-tested 62 ∙ ne_eqb b 62 (λ e. omega arith)

        same : eqb (get_or (drop end s) 0 0) 47 ≡ true
        same = first-tested 47 ∙ eq-eqb b 47 slash

        closes-there : d ≡ 62 → tag_behind name (attributes_of (drop at s)) ≡ closes tag (drop 2 (drop end s))
        closes-there e = single ∙ rw (other, same, second-tested 62 ∙ eq-eqb d 62 e)

        slashed-there : (d ≡ 62 → ⊥) → tag_behind name (attributes_of (drop at s)) ≡ no_tag
        slashed-there e = single ∙ rw (other, same, second-tested 62 ∙ ne_eqb d 62 e)

        pub closing : d ≡ 62 → Tagged s at (tag_behind name (attributes_of (drop at s))) (Ok (Closes (end + 2)))
        closing e =
            tag_is (Ok (Closes (end + 2))) (closes-there e)
            (drop-drop 2 end s, omega arith, omega (arith, byte-within s (end + 1) 62 (sym d-is ∙ e) (omega arith)))

        pub slashed : (p : TagFault) → (d ≡ 62 → ⊥) → Tagged s at (tag_behind name (attributes_of (drop at s))) (Err p)
        slashed p e = tag_is (Err p) (slashed-there e) tt

  -- a tag that ends right behind its name
  pub short-tag : (name : List ℕ) {b : ℕ} → b ≡ get_or s at 0 → b ≡ 62
      → Tagged s at (tag_behind name (attributes_of (drop at s))) (Ok (Opens (at + 1)))
  unfolding is_space
  short-tag name b-is e =
      let l = byte-within s at 62 (sym b-is ∙ e) (omega arith) in
      let run_none = sym (run-stops is_space s at l (sym (ap is_space (sym b-is ∙ e))) refl) in
      let none-begins = sym (ap (λ (v : Bool). v && is_first (get_or s at 0)) (le-ltb at at (omega arith))) in
      let g = starts s at run_none in
      opening at (λ fuel more space z read counted. few-distinct more counted (omega arith)) name g.done
      (run is_space (drop at s))
      (omega arith)
      (all_read s at g none-begins refl)
      g.counted
      refl
      b-is
      e
