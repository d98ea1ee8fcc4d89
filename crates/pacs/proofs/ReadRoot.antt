-- A text that a well-formed document writes is read as that document.
--     root-walked     the root, and the named elements in it
--     read-written    the whole text
-- Assumes nothing.
use Prim.Native.Nat.{ℕ, suc, ◌+◌, ◌-◌, ◌≤◌}
use mathlib.Core.Path.{◌≡◌, refl, ap, ap₂, sym, ◌∙◌}
use mathlib.Core.Bool.{Bool, true, false}
use mathlib.Core.List.{List, [], ◌∷◌, ◌++◌}
use native.Mathlib.Omega.{arith}
use borrow.Author.Tests.{eqb-true}
use lib.Dec.{eqb, leb}
use lib.ListN.{length, take, length-append}
use Rattle.fields.specs.Text.{text, same}
use Rattle.fields.proofs.Tests.{and_left, never}
use Rattle.xml.specs.Bytes.{is_space, is_first, all_of, run, past}
use Rattle.xml.specs.Tree.{
  Attribute,
  Tag,
  Element,
  self_closing,
  nesting,
  Content,
  last_text,
  text_then,
  Prolog,
  undeclared,
  declared,
  Document,
}
use Rattle.xml.specs.Writing.{written_attributes, written_tag, written_end, written_element, written_content, written_prolog, written}
use Rattle.xml.specs.WellFormed.{right_element, right_prolog, depth, deepest, longest, well_formed}
use Rattle.xml.specs.Scanning.{first_byte}
use Rattle.xml.proofs.Runs.{run_of, past_of, less-no-space, question-no-first, question-no-space, first-of-name}
use Rattle.xml.proofs.Attributes.{attributes_of-read}
use Rattle.xml.proofs.Parts.{
  tag-name,
  nesting-tag,
  nesting-content,
  nesting-space,
  declared-declares,
  declared-attributes,
  declared-space,
  document-prolog,
  document-space,
  document-root,
  document-end,
  document-depth,
}
use Rattle.pacs.specs.Named.{met, outside, row_of, named, leading_text, is_plain}
use Rattle.pacs.specs.Walk.{arrived, Frame, walk, root_walked, read_as, closed, behind_prolog, found}
use Rattle.pacs.proofs.ReadWritten.{fuel_for, fuel_in, closes-started, opens-started, content-walked}

mutual
  fuel-adds : (e : Element) (n : ℕ) → fuel_for e n ≡ fuel_for e 0 + n
  fuel-adds (self_closing t) n = omega arith
  fuel-adds (nesting t c s) n = omega (arith, fuel-adds-in c n)

  fuel-adds-in : (c : Content) (n : ℕ) → fuel_in c n ≡ fuel_in c 0 + n
  fuel-adds-in (last_text s) n = omega arith
  fuel-adds-in (text_then s e c) n =
      omega (arith, fuel-adds e (fuel_in c n), fuel-adds e (fuel_in c 0), fuel-adds-in c n)

attributes-longer : (more : List Attribute) (z : List ℕ) → length z ≤ length (written_attributes more z)
attributes-longer [] z = omega arith
attributes-longer (a ∷ more) z =
    simp length-append (omega (arith, attributes-longer more z))

tag-longer : (t : Tag) (z : List ℕ) → length z ≤ length (written_tag t z)
tag-longer t z =
    let h = attributes-longer t.attributes (t.space ++ z) in
    simp length-append (omega (arith, h, length-append t.space z))

mutual
  fuel-fits : (e : Element) (z : List ℕ) → fuel_for e 0 + length z ≤ length (written_element e z)
  fuel-fits (self_closing t) z = omega (arith, tag-longer t (0x2f ∷ 0x3e ∷ z))
  fuel-fits (nesting t c s) z =
      let w = written_end t.name s z in
      let a = length-append t.name (s ++ (0x3e ∷ z)) in
      let b = length-append s (0x3e ∷ z) in
      omega (arith, tag-longer t (0x3e ∷ written_content c w), fuel-fits-in c w, a, b)

  fuel-fits-in : (c : Content) (z : List ℕ) → fuel_in c 0 + length z ≤ suc (length (written_content c z))
  fuel-fits-in (last_text s) z = omega (arith, length-append s z)
  fuel-fits-in (text_then s e c) z =
      omega (
        arith,
        length-append s (written_element e (written_content c z)),
        fuel-fits e (written_content c z),
        fuel-adds e (fuel_in c 0),
        fuel-fits-in c z,
      )

-- fuel that is enough is the turns and some more
enough : (c : Content) (m : ℕ) → fuel_in c 0 ≤ m → fuel_in c (m - fuel_in c 0) ≡ m
enough c m h = omega (arith, fuel-adds-in c (m - fuel_in c 0))

space-no-less : (b : ℕ) → is_space b ≡ true → eqb b 0x3c ≡ false
space-no-less b h = go (eqb b 0x3c) refl
  where
    go : (k : Bool) → eqb b 0x3c ≡ k → k ≡ false
    go true e = never (sym h ∙ ap is_space (eqb-true b 0x3c e) ∙ less-no-space)
    go false e = refl

first-no-question : (b : ℕ) → is_first b ≡ true → eqb b 0x3f ≡ false
first-no-question b h = go (eqb b 0x3f) refl
  where
    go : (k : Bool) → eqb b 0x3f ≡ k → k ≡ false
    go true e = never (sym h ∙ ap is_first (eqb-true b 0x3f e) ∙ question-no-first)
    go false e = refl

-- where there is no declaration a text doesn't begin as one
no-declaration : (s name z : List ℕ) → all_of is_space s ≡ true → is_first (first_byte (name ++ z)) ≡ true
    → same (take 5 (s ++ (0x3c ∷ (name ++ z)))) (text "<?xml") ≡ false
no-declaration [] [] [] h n = refl
no-declaration [] [] (c ∷ z) h n = rw (first-no-question c n)
no-declaration [] (b ∷ name) z h n = rw (first-no-question b n)
no-declaration (b ∷ s) name z h n = rw (space-no-less b (and_left (is_space b) (all_of is_space s) h))

pub root-walked : (e : Element) (z : List ℕ) → right_element e ≡ true → depth e ≤ deepest
    → root_walked (written_element e z) ≡ arrived e (met e outside) z
root-walked (self_closing t) z h d =
    closes-started (walk (length (written_element (self_closing t) z))) [] outside [] [] t z h (omega arith)
root-walked (nesting t c s) z h d =
    let m = length (written_element (nesting t c s) z) in
    let f : Frame = record { before = []; tag = t; row = row_of outside t.name; pieces = [] } in
    let fits : fuel_in c 0 ≤ m = omega (arith, fuel-fits (nesting t c s) z) in
    let seen = named (row_of outside t.name) t (leading_text c) (is_plain c) in
    opens-started (walk m) [] outside [] [] t c s z h (omega arith)
    ∙ ap (λ (k : ℕ). walk k (f ∷ []) seen (written_content c (written_end t.name s z))) (sym (enough c m fits))
    ∙ content-walked
    c
    (m - fuel_in c 0)
    f
    []
    seen
    s
    z
    (nesting-content t c s h)
    (nesting-space t c s h)
    (omega arith)

-- an element begins with <
element-begins : (e : Element) (s z : List ℕ) → all_of is_space s ≡ true
    → (run is_space (s ++ written_element e z) ≡ s) × (past is_space (s ++ written_element e z) ≡ written_element e z)
element-begins (self_closing t) s z h = (run_of is_space s 0x3c _ h less-no-space, past_of is_space s 0x3c _ h less-no-space)
element-begins (nesting t c sp) s z h = (run_of is_space s 0x3c _ h less-no-space, past_of is_space s 0x3c _ h less-no-space)

behind-prolog : (p : Prolog) (s : List ℕ) (e : Element) (z : List ℕ) → all_of is_space s ≡ true → right_element e ≡ true
    → depth e ≤ deepest → all_of is_space z ≡ true
    → behind_prolog p (s ++ written_element e z)
    ≡ read_as (record { prolog = p; space = s; root = e; end = z }) (met e outside)
behind-prolog p s e z hs h d hz =
    let b = element-begins e s z hs in
    ap₂ (λ (x : List ℕ) (y : List ℕ). closed p x (root_walked y)) b.0 b.1
    ∙ ap (closed p s) (root-walked e z h d)
    ∙ rw hz

undeclared-begins : (e : Element) (s z : List ℕ) → all_of is_space s ≡ true → right_element e ≡ true
    → same (take 5 (s ++ written_element e z)) (text "<?xml") ≡ false
undeclared-begins (self_closing t) s z hs h =
    no-declaration s t.name _ hs (first-of-name t.name _ (tag-name t h))
undeclared-begins (nesting t c sp) s z hs h =
    no-declaration s t.name _ hs (first-of-name t.name _ (tag-name t (nesting-tag t c sp h)))

-- by the prolog, which a document that is a variable doesn't show
prolog-read : (p : Prolog) (s : List ℕ) (e : Element) (z : List ℕ) → right_prolog p ≡ true → all_of is_space s ≡ true
    → right_element e ≡ true → depth e ≤ deepest → all_of is_space z ≡ true
    → leb (length (written_prolog p (s ++ written_element e z))) longest ≡ true
    → found (written_prolog p (s ++ written_element e z))
    ≡ read_as (record { prolog = p; space = s; root = e; end = z }) (met e outside)
unfolding found
prolog-read undeclared s e z hp hs h d hz fits =
    rw (fits, undeclared-begins e s z hs h) (behind-prolog undeclared s e z hs h d hz)
prolog-read (declared more sp) s e z hp hs h d hz fits =
    rw (
      fits,
      attributes_of-read
          more
          sp
          0x3f
          (0x3e ∷ (s ++ written_element e z))
          (declared-attributes more sp hp)
          (declared-space more sp hp)
          question-no-space
          question-no-first,
      declared-declares more sp hp,
    )
    (behind-prolog (declared more sp) s e z hs h d hz)

pub read-written : (d : Document) → well_formed d ≡ true → leb (length (written d)) longest ≡ true
    → found (written d) ≡ read_as d (met d.root outside)
read-written d h =
    prolog-read
    d.prolog
    d.space
    d.root
    d.end
    (document-prolog d h)
    (document-space d h)
    (document-root d h)
    (document-depth d h)
    (document-end d h)
