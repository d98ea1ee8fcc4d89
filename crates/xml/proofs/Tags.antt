-- A tag that is read from the left is the one that is written there.
--     tag-opens     a right start tag is read as it is
--     tag-closes    and a right self-closing one
--     tag-opened    a start tag that is read is right, and written so
--     tag-closed    and a self-closing one
-- Assumes nothing.
use Prim.Native.Nat.{ℕ}
use mathlib.Core.Path.{◌≡◌, refl, sym, ◌∙◌, ap, ap₂, subst}
use mathlib.Core.Bool.{Bool, true, false, ◌&&◌, cond}
use mathlib.Core.List.{List, ◌∷◌, ◌++◌}
use lib.Dec.{eqb}
use lib.ListN.{drop}
use lib.Seq.{drop-drop}
use Rattle.fields.proofs.Tests.{and_left, and_right}
use Rattle.xml.specs.Bytes.{is_space, is_first, is_name, all_of, is_named, run, past}
use Rattle.xml.specs.Tree.{Attribute, Tag}
use Rattle.xml.specs.Writing.{written_attributes, written_tag}
use Rattle.xml.specs.WellFormed.{right_attributes, distinct, right_tag}
use Rattle.xml.specs.Scanning.{
  first_byte,
  Attributed,
  misread,
  attributed,
  attributes_of,
  TagRead,
  no_tag,
  opens,
  closes,
  tag_ending,
  tag_behind,
  tag_of,
}
use Rattle.xml.proofs.Runs.{
  run-up-to,
  past_to,
  run_past,
  at_byte,
  slash-no-space,
  slash-no-first,
  slash-no-name,
  greater-no-space,
  greater-no-first,
  greater-no-name,
  name-all,
  first-of-name,
  named-run,
}
use Rattle.xml.proofs.Attributes.{taken, attributes_of-read, attributes_of-written, first-of-attributes}

-- a right tag before a byte that is no part of it
module _ (t : Tag) (c : ℕ) (z : List ℕ) (right : right_tag t ≡ true) where
  abbrev named : Bool
  named = is_named t.name

  abbrev most : Bool
  most = named && right_attributes t.attributes && distinct t.attributes

  abbrev behind : List ℕ
  behind = written_attributes t.attributes (t.space ++ (c ∷ z))

  most-right : most ≡ true
  most-right = and_left most (all_of is_space t.space) right

  space-right : all_of is_space t.space ≡ true
  space-right = and_right most (all_of is_space t.space) right

  different : distinct t.attributes ≡ true
  different = and_right (named && right_attributes t.attributes) (distinct t.attributes) most-right

  two-right : (named && right_attributes t.attributes) ≡ true
  two-right = and_left (named && right_attributes t.attributes) (distinct t.attributes) most-right

  attributes-right : right_attributes t.attributes ≡ true
  attributes-right = and_right named (right_attributes t.attributes) two-right

  name-right : is_named t.name ≡ true
  name-right = and_left named (right_attributes t.attributes) two-right

  tag_read : is_space c ≡ false → is_first c ≡ false → is_name c ≡ false → tag_of (written_tag t (c ∷ z)) ≡ tag_ending t (c ∷ z)
  unfolding tag_of
  tag_read h k l =
      let whole = name-all t.name name-right in
      let ends = first-of-attributes t.attributes t.space c z attributes-right space-right l in
      taken (is_first (first_byte (t.name ++ behind))) _ _ (first-of-name t.name behind name-right)
      ∙ ap₂ (λ (n s : List ℕ). tag_behind n (attributes_of s))
      (run-up-to is_name t.name behind whole ends)
      (past_to is_name t.name behind whole ends)
      ∙ ap (tag_behind t.name) (attributes_of-read t.attributes t.space c z attributes-right space-right h k)
      ∙ taken (distinct t.attributes) _ _ different

pub tag-opens : (t : Tag) (z : List ℕ) → right_tag t ≡ true → tag_of (written_tag t (0x3e ∷ z)) ≡ opens t z
tag-opens t z right = tag_read t 0x3e z right greater-no-space greater-no-first greater-no-name

pub tag-closes : (t : Tag) (z : List ℕ) → right_tag t ≡ true → tag_of (written_tag t (0x2f ∷ 0x3e ∷ z)) ≡ closes t z
tag-closes t z right = tag_read t 0x2f (0x3e ∷ z) right slash-no-space slash-no-first slash-no-name

-- what holds of a reading: it is written so, and right
abbrev Holds : List ℕ → TagRead → Type 0
Holds s no_tag = Unit
Holds s (opens t z) = (written_tag t (0x3e ∷ z) ≡ s) × (right_tag t ≡ true)
Holds s (closes t z) = (written_tag t (0x2f ∷ 0x3e ∷ z) ≡ s) × (right_tag t ≡ true)

-- the end of a tag that is right and written before it
ending : (s : List ℕ) (t : Tag) (z : List ℕ) → written_tag t z ≡ s → right_tag t ≡ true → Holds s (tag_ending t z)
ending s t z writes right = go (eqb (first_byte z) 0x3e) (eqb (first_byte z) 0x2f) (eqb (first_byte (drop 1 z)) 0x3e) refl refl refl
  where
    go : (x y w : Bool) → eqb (first_byte z) 0x3e ≡ x → eqb (first_byte z) 0x2f ≡ y → eqb (first_byte (drop 1 z)) 0x3e ≡ w
        → Holds s (cond x (opens t (drop 1 z)) (cond (y && w) (closes t (drop 2 z)) no_tag))
    go true y w e h k = (ap (written_tag t) (at_byte z 0x3e refl e) ∙ writes, right)
    go false true true e h k =
        let last : 0x3e ∷ drop 2 z ≡ drop 1 z = ap (λ (r : List ℕ). 0x3e ∷ r) (sym (drop-drop 1 1 z)) ∙ at_byte (drop 1 z) 0x3e refl k in
        (ap (λ (r : List ℕ). written_tag t (0x2f ∷ r)) last ∙ ap (written_tag t) (at_byte z 0x2f refl h) ∙ writes, right)
    go false true false e h k = tt
    go false false w e h k = tt

behind-name : (s : List ℕ) (more : List Attribute) (space z : List ℕ) → is_first (first_byte s) ≡ true
    → attributes_of (past is_name s) ≡ attributed more space z → Holds s (tag_behind (run is_name s) (attributed more space z))
behind-name s more space z first read = go (distinct more) refl
  where
    go : (x : Bool) → distinct more ≡ x
        → Holds s (cond x (tag_ending (record { name = run is_name s; attributes = more; space = space }) z) no_tag)
    go false e = tt
    go true e =
        let known = attributes_of-written (past is_name s) more space z read in
        ending s (record { name = run is_name s; attributes = more; space = space }) z
        (ap (λ (r : List ℕ). run is_name s ++ r) known.0 ∙ run_past is_name s)
        (ap₂ ◌&&◌ (ap₂ ◌&&◌ (ap₂ ◌&&◌ (named-run s first) known.1) e) known.2)

holds : (s : List ℕ) → Holds s (tag_of s)
unfolding tag_of
holds s = go (is_first (first_byte s)) (attributes_of (past is_name s)) refl refl
  where
    go : (x : Bool) (read : Attributed) → is_first (first_byte s) ≡ x → attributes_of (past is_name s) ≡ read
        → Holds s (cond x (tag_behind (run is_name s) read) no_tag)
    go false read e h = tt
    go true misread e h = tt
    go true (attributed more space z) e h = behind-name s more space z e h

pub tag-opened : (s : List ℕ) (t : Tag) (z : List ℕ) → tag_of s ≡ opens t z → (written_tag t (0x3e ∷ z) ≡ s) × (right_tag t ≡ true)
tag-opened s t z e = subst (Holds s) e (holds s)

pub tag-closed : (s : List ℕ) (t : Tag) (z : List ℕ) → tag_of s ≡ closes t z → (written_tag t (0x2f ∷ 0x3e ∷ z) ≡ s) × (right_tag t ≡ true)
tag-closed s t z e = subst (Holds s) e (holds s)
