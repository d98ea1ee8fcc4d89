-- The attributes that a text begins with, one at a time; names that end in -in are of attributes_in, with its fuel.
--     as-in           attributes_of is attributes_in with fuel for each byte
--     none-begins     no attribute begins: there is none; none-begins-in
--     one-broken      what begins isn't one: nothing is read; one-broken-in
--     one-read        an attribute, and what is read behind it; one-read-in
--     not-read        nothing is read, so no attributes are
--     not-misread     an attribute is first: so something is read, and not_none, an attribute
--     first-is        the attribute that was read first is the first
--     none-behind     where no attribute is read, white space is passed
--     of-in           what is read with some fuel is what attributes_of reads
--     prepended       attributes before what is read behind them; to-misread, to-all, to-one-more
-- Assumes nothing.
use mathlib.Core.Path.{◌≡◌, refl, sym, ◌∙◌, ap}
use mathlib.Core.Bool.{Bool, true, false, ◌&&◌, cond}
use mathlib.Core.List.{List, [], ◌∷◌, ◌++◌}
use Prim.Native.Nat.{ℕ, zero, suc, ◌≤◌, ◌<◌}
use native.Mathlib.Omega.{arith}
use lib.ListN.{length, drop, length-drop}
use Rattle.fields.proofs.Tests.{never}
use Rattle.xml.specs.Bytes.{is_space, is_first, is_name, is_value, run_length, run, past}
use Rattle.xml.specs.Tree.{Attribute}
use Rattle.xml.specs.Scanning.{
  first_byte,
  from_equals,
  from_quote,
  from_close,
  attribute_of,
  is_attribute,
  begins,
  Attributed,
  misread,
  attributed,
  with_attribute,
  attributes_in,
  attributes_of,
}
use Rattle.xml.proofs.Runs.{zero-no-space}

-- what stands behind an attribute
abbrev behind : List ℕ → List ℕ
behind s = drop 1 (from_close (past is_space s))

past-less : (p : ℕ → Bool) (s : List ℕ) → length (past p s) ≤ length s
past-less p s = omega (arith, length-drop (run_length p s) s)

one_less : (s : List ℕ) → length (drop 1 s) ≤ length s
one_less s = omega (arith, length-drop 1 s)

shorter : (s : List ℕ) → 0 < length s → length (behind s) < length s
shorter s h =
    let r = past is_space s in
    omega (
      arith,
      length-drop 1 (from_close r),
      past-less is_value (drop 1 (from_quote r)),
      one_less (from_quote r),
      past-less is_space (drop 1 (from_equals r)),
      one_less (from_equals r),
      past-less is_space (past is_name r),
      past-less is_name r,
      past-less is_space s,
    )

-- what is read by what is read behind the first
abbrev read_by : List ℕ → Attributed → Attributed
read_by s later =
    cond (begins s) (cond (is_attribute (past is_space s)) (with_attribute (attribute_of (run is_space s) (past is_space s)) later) misread)
    (attributed [] (run is_space s) (past is_space s))

at-end : (x : Attributed) → read_by [] x ≡ attributed [] [] []
at-end x = rw zero-no-space

-- attributes are read the same with any fuel that is more than the text's length
more-fuel : (n m : ℕ) (s : List ℕ) → length s < n → length s < m → attributes_in n s ≡ attributes_in m s
more-fuel zero m s h k = absurd (omega arith)
more-fuel (suc n) zero s h k = absurd (omega arith)
more-fuel (suc n) (suc m) [] h k = at-end (attributes_in n (behind [])) ∙ sym (at-end (attributes_in m (behind [])))
more-fuel (suc n) (suc m) (b ∷ s) h k =
    let less = shorter (b ∷ s) (omega arith) in
    ap (read_by (b ∷ s)) (more-fuel n m (behind (b ∷ s)) (omega arith) (omega arith))

pub as-in : (s : List ℕ) → attributes_of s ≡ attributes_in (suc (length s)) s
unfolding attributes_of
as-in s = refl

by_first : (s : List ℕ) → 0 < length s → attributes_of s ≡ read_by s (attributes_of (behind s))
by_first s h =
    as-in s
    ∙ ap (read_by s) (more-fuel (length s) (suc (length (behind s))) (behind s) (shorter s h) (omega arith) ∙ sym (as-in (behind s)))

-- an attribute begins with a byte
begun : (s : List ℕ) → begins s ≡ true → 0 < length s
begun [] e = never (sym e ∙ ap (λ (b : Bool). b && is_first (first_byte (past is_space []))) zero-no-space)
begun (b ∷ s) e = omega arith

-- the first attribute, with fuel and without
pub none-begins-in : (n : ℕ) (s : List ℕ) → begins s ≡ false → attributes_in (suc n) s ≡ attributed [] (run is_space s) (past is_space s)
none-begins-in n s e = rw e

pub one-broken-in : (n : ℕ) (s : List ℕ) → begins s ≡ true → is_attribute (past is_space s) ≡ false → attributes_in (suc n) s ≡ misread
one-broken-in n s e f = rw (e, f)

pub one-read-in : (n : ℕ) (s : List ℕ) → begins s ≡ true → is_attribute (past is_space s) ≡ true
    → attributes_in (suc n) s ≡ with_attribute (attribute_of (run is_space s) (past is_space s)) (attributes_in n (behind s))
one-read-in n s e f = rw (e, f)

pub none-begins : (s : List ℕ) → begins s ≡ false → attributes_of s ≡ attributed [] (run is_space s) (past is_space s)
none-begins s e = as-in s ∙ none-begins-in (length s) s e

pub one-broken : (s : List ℕ) → begins s ≡ true → is_attribute (past is_space s) ≡ false → attributes_of s ≡ misread
one-broken s e f = as-in s ∙ one-broken-in (length s) s e f

pub one-read : (s : List ℕ) → begins s ≡ true → is_attribute (past is_space s) ≡ true
    → attributes_of s ≡ with_attribute (attribute_of (run is_space s) (past is_space s)) (attributes_of (drop 1 (from_close (past is_space s))))
one-read s e f = by_first s (begun s e) ∙ rw (e, f)

pub not-read : {A : Type 0} {more : List Attribute} {space z : List ℕ} → misread ≡ attributed more space z → A
not-read e = let n : ◌≡◌ {A = ℕ} 0 1 = cc in absurd (omega arith)

-- no attribute is first where nothing is read, or none
module _ {A : Type 0} {x : Attributed} {a : Attribute} {more : List Attribute} {space z : List ℕ}
    (read : x ≡ attributed (a ∷ more) space z) where
  pub not-misread : x ≡ misread → A
  not-misread e = not-read (sym e ∙ read)

  pub not_none : {space' z' : List ℕ} → x ≡ attributed [] space' z' → A
  not_none e = let n : ◌≡◌ {A = ℕ} 0 1 = cc in absurd (omega arith)

-- the attribute that was read first is the first
pub first-is : (a b : Attribute) (x : Attributed) {more : List Attribute} {space z : List ℕ}
    → with_attribute a x ≡ attributed (b ∷ more) space z → a ≡ b
first-is a b misread e = not-read e
first-is a b (attributed more space z) e = cc

no_more : {A : Type 0} (a : Attribute) (x : Attributed) {space z : List ℕ} → with_attribute a x ≡ attributed [] space z → A
no_more a misread e = not-read e
no_more a (attributed more space z) e = let n : ◌≡◌ {A = ℕ} 0 1 = cc in absurd (omega arith)

-- where no attribute is read, white space is passed
pub none-behind : (s : List ℕ) {space z : List ℕ} → attributes_of s ≡ attributed [] space z → z ≡ past is_space s
none-behind s {space} {z} read = go (begins s) (is_attribute (past is_space s)) refl refl
  where
    go : (x y : Bool) → begins s ≡ x → is_attribute (past is_space s) ≡ y → z ≡ past is_space s
    go false y e f = let w = none-begins s e in cc
    go true false e f = not-read (sym (one-broken s e f) ∙ read)
    go true true e f =
        let r = past is_space s in
        no_more (attribute_of (run is_space s) r) (attributes_of (drop 1 (from_close r))) (sym (one-read s e f) ∙ read)

-- what is read behind the first
later : (a : Attribute) (x : Attributed) {more : List Attribute} {space z : List ℕ} → with_attribute a x ≡ attributed more space z
    → (m : List Attribute) × (x ≡ attributed m space z)
later a misread e = not-read e
later a (attributed m space z) e = (m, cc)

pub of-in : (n : ℕ) (s : List ℕ) {more : List Attribute} {space z : List ℕ} → attributes_in n s ≡ attributed more space z
    → attributes_of s ≡ attributed more space z
of-in zero s read = not-read read
of-in (suc n) s {more} {space} {z} read = go (begins s) (is_attribute (past is_space s)) refl refl (λ m e. of-in n (behind s) e)
  where
    go : (x y : Bool) → begins s ≡ x → is_attribute (past is_space s) ≡ y
        → ((m : List Attribute) → attributes_in n (behind s) ≡ attributed m space z → attributes_of (behind s) ≡ attributed m space z)
        → attributes_of s ≡ attributed more space z
    go false y e f all = none-begins s e ∙ sym (none-begins-in n s e) ∙ read
    go true false e f all = not-read (sym (one-broken-in n s e f) ∙ read)
    go true true e f all =
        let a = attribute_of (run is_space s) (past is_space s) in
        let first = sym (one-read-in n s e f) ∙ read in
        let rest = later a (attributes_in n (behind s)) first in
        one-read s e f ∙ ap (with_attribute a) (all rest.0 rest.1 ∙ sym rest.1) ∙ first

abbrev pub prepended : List Attribute → Attributed → Attributed
prepended [] x = x
prepended (a ∷ front) x = with_attribute a (prepended front x)

pub to-misread : (front : List Attribute) → prepended front misread ≡ misread
to-misread [] = refl
to-misread (a ∷ front) = ap (with_attribute a) (to-misread front)

pub to-all : (front more : List Attribute) (space z : List ℕ)
    → prepended front (attributed more space z) ≡ attributed (front ++ more) space z
to-all [] more space z = refl
to-all (a ∷ front) more space z = ap (with_attribute a) (to-all front more space z)

pub to-one-more : (front : List Attribute) (a : Attribute) (x : Attributed)
    → prepended front (with_attribute a x) ≡ prepended (front ++ a ∷ []) x
to-one-more [] a x = refl
to-one-more (b ∷ front) a x = ap (with_attribute b) (to-one-more front a x)
