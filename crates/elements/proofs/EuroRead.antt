-- Whether the attributes are the one Ccy="EUR", by the bytes.
--     not_three, three-at    three bytes and the test of each
--     none-there             no attribute is read first
--     one-there              one is
-- Assumes nothing.
use mathlib.Core.Path.{◌≡◌, refl, sym, ◌∙◌, ap, ap₂}
use mathlib.Core.Bool.{Bool, true, false, ◌&&◌, not, and-true, and-false, and_assoc}
use mathlib.Core.List.{List, [], ◌∷◌}
use Prim.Native.Nat.{ℕ, ◌+◌, ◌-◌, ◌≤◌}
use native.Mathlib.Omega.{arith}
use lib.Dec.{ltb, eqb}
use lib.ListN.{length, get_or, take, drop}
use lib.Seq.{length-take-le}
use Rattle.fields.specs.Text.{text, same}
use Rattle.fields.proofs.FromFront.{left-from}
use Rattle.fields.proofs.Same.{same-lengths}
use Rattle.xml.specs.Bytes.{is_space, is_first, run, past}
use Rattle.xml.specs.Tree.{Attribute}
use Rattle.xml.specs.Scanning.{
  from_close,
  attribute_of,
  is_attribute,
  begins,
  Attributed,
  misread,
  attributed,
  with_attribute,
  attributes_in,
  attributes_of,
}
use Rattle.xml.proofs.FirstAttribute.{none-begins, one-broken, one-read, not-read, of-in}
use Rattle.scan.specs.AttributeParts.{attribute_from, AttributeRead}
use Rattle.std.specs.Prelude.{Option, Some, None}
use Rattle.scan.specs.declared.attributes.AttributePlaces.{AttributePlaces}
use Rattle.scan.proofs.Runs.{run_end}
use Rattle.scan.proofs.AttributeParts.{begins-at, not_there, there}
use Rattle.pacs.specs.Judged.{is_euro}

module _ (s : List ℕ) (a b c : ℕ) where
  pub not_three : (n : ℕ) → n ≤ length s → (n ≡ 3 → ⊥) → same (take n s) (a ∷ b ∷ c ∷ []) ≡ false
  not_three n h other = same-lengths (take n s) (a ∷ b ∷ c ∷ []) (λ e. other (sym (length-take-le n s h) ∙ e))

  in_order : (x y z : Bool) → (x && (y && (z && true))) ≡ ((x && y) && z)
  in_order x y z = ap (λ (w : Bool). x && (y && w)) (and-true z) ∙ sym (and_assoc x y z)

  pub three-at : (at : ℕ) → at + 3 ≤ length s
      → same (take 3 (drop at s)) (a ∷ b ∷ c ∷ []) ≡ (eqb (get_or s at 0) a && eqb (get_or s (at + 1) 0) b && eqb (get_or s (at + 2) 0) c)
  three-at at h =
      let two : at + 1 + 1 ≡ at + 2 = omega arith in
      let last = ap (λ (k : ℕ). drop k s) two ∙ left-from s (at + 2) (omega arith) in
      let back = left-from s (at + 1) (omega arith) ∙ ap (λ (t : List ℕ). get_or s (at + 1) 0 ∷ t) last in
      let whole = left-from s at (omega arith) ∙ ap (λ (t : List ℕ). get_or s at 0 ∷ t) back in
      ap (λ (t : List ℕ). same (take 3 t) (a ∷ b ∷ c ∷ [])) whole
      ∙ in_order (eqb (get_or s at 0) a) (eqb (get_or s (at + 1) 0) b) (eqb (get_or s (at + 2) 0) c)

abbrev is_none : List Attribute → Bool
is_none [] = true
is_none (a ∷ more) = false

abbrev names : Attribute → Bool
names a = same a.name (text "Ccy") && same a.value (text "EUR")

first-euro : (a : Attribute) (more : List Attribute) → is_euro (a ∷ more) ≡ (names a && is_none more)
first-euro a [] = sym (and-true (names a))
first-euro a (b ∷ more) = sym (and-false (names a))

module _ {more : List Attribute} {space z : List ℕ} where
  one-added : (a : Attribute) (x : Attributed) → with_attribute a x ≡ attributed more space z → is_none more ≡ false
  one-added a misread e = not-read e
  one-added a (attributed m sp y) e = let q : more ≡ a ∷ m = cc in ap is_none q

  euro-added : (a : Attribute) (x : Attributed) → with_attribute a x ≡ attributed more space z → (v : Bool)
      → ((m : List Attribute) (sp y : List ℕ) → x ≡ attributed m sp y → is_none m ≡ v) → is_euro more ≡ (names a && v)
  euro-added a misread e v h = not-read e
  euro-added a (attributed m sp y) e v h =
      let q : more ≡ a ∷ m = cc in
      ap is_euro q ∙ first-euro a m ∙ ap (λ (w : Bool). names a && w) (h m sp y refl)

  none-added : (sp y : List ℕ) → attributed [] sp y ≡ attributed more space z → more ≡ []
  none-added sp y e = cc

-- none is read where none begins
any-read : (t : List ℕ) (more : List Attribute) (space z : List ℕ) → attributes_of t ≡ attributed more space z
    → is_none more ≡ not (begins t)
any-read t more space z e = go (begins t) refl (is_attribute (past is_space t)) refl
  where
    go : (v : Bool) → begins t ≡ v → (w : Bool) → is_attribute (past is_space t) ≡ w → is_none more ≡ not v
    go false p w q = ap is_none (none-added (run is_space t) (past is_space t) (sym (none-begins t p) ∙ e))
    go true p false q = not-read (sym (one-broken t p q) ∙ e)
    go true p true q =
        one-added (attribute_of (run is_space t) (past is_space t)) (attributes_of (drop 1 (from_close (past is_space t))))
        (sym (one-read t p q) ∙ e)

-- by the attribute that is read first
module _ (s : List ℕ) (at : ℕ) {r : Option AttributePlaces} (first : AttributeRead s at r) (n : ℕ) (more : List Attribute) (space z : List ℕ)
    (read : attributes_in n (drop at s) ≡ attributed more space z) where
  pub none-there : r ≡ None → false ≡ is_euro more
  none-there e = go more (of-in n (drop at s) read)
    where
      go : (m : List Attribute) → attributes_of (drop at s) ≡ attributed m space z → false ≡ is_euro m
      go [] h = refl
      go (a ∷ []) h = sym (not_there s at first names e a [] space z h)
      go (a ∷ b ∷ m) h = refl

  -- it has to be that one, and none begins behind it
  pub one-there : {p : AttributePlaces} → r ≡ Some p → {next : ℕ} → next ≡ run_end is_space s (p.close + 1)
      → {v w d : Bool} → v ≡ same (take (p.end - p.name) (drop p.name s)) (text "Ccy")
      → w ≡ same (take (p.close - p.value) (drop p.value s)) (text "EUR") → d ≡ (ltb (p.close + 1) next && is_first (get_or s next 0))
      → (v && w && not d) ≡ is_euro more
  one-there {p} e next-is n-is v-is d-is =
      let h = there s at first e in
      let rest = drop (p.close + 1) s in
      let named = n-is ∙ ap (λ (t : List ℕ). same t (text "Ccy")) h.name-is in
      let valued = v-is ∙ ap (λ (t : List ℕ). same t (text "EUR")) h.value-is in
      ap₂ ◌&&◌ (ap₂ ◌&&◌ named valued) (ap not (d-is ∙ sym (begins-at s (p.close + 1) next-is)))
      ∙ sym
      (euro-added (attribute_from s at p.name) (attributes_of rest) (sym h.read ∙ of-in n (drop at s) read) (not (begins rest))
      (any-read rest))
