-- A document gets past 24 just where each named element stands exactly once in its parent, in the order listed, and none of the five
-- texts holds an element.
--     listed_in          the rows that are listed in a parent, in order
--     child_rows         the rows of an element's children, in order, those that have one
--     EachOnce          the root is the one named; in each named element the children's rows are those listed; the five texts are plain
--     each-in-order     then the named elements are in order
--     in-order-each     and only then
--     not-each-24, each-not-24    so 24 is judged where it isn't so, and nowhere else
--     text-24, text-not-24        the same of a text that is read
-- Assumes nothing.
use Prim.Native.Nat.{ℕ, zero, suc, ◌+◌, ◌-◌, ◌≤◌, ◌<◌}
use mathlib.Core.Path.{◌≡◌, refl, ap, ap₂, sym, subst, ◌∙◌}
use mathlib.Core.Logic.{◌⊎◌, inl, inr}
use mathlib.Core.Bool.{Bool, true, false, cond}
use mathlib.Core.List.{List, [], ◌∷◌, ◌++◌, map}
use native.Mathlib.Omega.{arith}
use borrow.Author.Tests.{eqb-true, eqb-false, eq-eqb, ne_eqb}
use lib.Dec.{eqb}
use lib.ListN.{length, get_or}
use Rattle.fields.specs.Text.{text, same, joined}
use Rattle.fields.specs.UpTo.{all_to}
use Rattle.fields.proofs.UpTo.{all-at}
use Rattle.fields.proofs.Tests.{never}
use Rattle.fields.proofs.Same.{same_true, same_refl}
use Rattle.xml.specs.Tree.{Element, self_closing, nesting, Content, last_text, text_then}
use Rattle.xml.specs.WellFormed.{Reading}
use Rattle.pacs.specs.Named.{Row, Named, rows, row_of, is_text_row, is_plain, met, met_in, outside, skipped}
use Rattle.pacs.specs.Judged.{Verdict, refused, in_order, judged}
use Rattle.pacs.specs.Answering.{Answered}
use Rattle.pacs.proofs.Words.{rows_of, numbers, PlainTexts, texts-plain, exactly-rows, disorder, judged-24, only-24}
use Rattle.pacs.proofs.Standing.{
  name,
  holds,
  Child,
  next,
  further,
  Siblings,
  next_of,
  further_of,
  Stands,
  top,
  below,
  row_at,
  in_table,
  row-range,
  skips,
  named_at,
  met-known,
  met_holds,
  met-stands,
  siblings-rise,
  text-low,
  missing,
  other-root,
}

abbrev listed_from : ℕ → List Row → ℕ → List ℕ
listed_from i [] parent = []
listed_from i (q ∷ more) parent = cond (eqb q.parent parent) (i ∷ listed_from (suc i) more parent) (listed_from (suc i) more parent)

unfoldable pub listed_in : ℕ → List ℕ
listed_in parent = listed_from 0 rows parent

abbrev pub child_rows : Content → ℕ → List ℕ
child_rows (last_text s) parent = []
child_rows (text_then s e c) parent =
    cond (eqb (row_of parent (name e)) skipped) (child_rows c parent) (row_of parent (name e) ∷ child_rows c parent)

pub record EachOnce (root : Element) : Type 0 where
  pub root-named : name root ≡ text "LBFastCdtTrf"
  pub children : (z : Element) (names : List (List ℕ)) → Stands root z names → row_at (name z ∷ names) < outside
      → child_rows (holds z) (row_at (name z ∷ names)) ≡ listed_in (row_at (name z ∷ names))
  pub plain : (x : Element) (names : List (List ℕ)) → Stands root x names → is_text_row (row_at (name x ∷ names)) ≡ true
      → is_plain (holds x) ≡ true

-- a row and all below it, to a depth
abbrev under : ℕ → ℕ → List ℕ
under zero r = []
under (suc k) r = r ∷ joined (map (under k) (listed_in r))

abbrev inside : List ℕ → List ℕ
inside rs = joined (map (under 6) rs)

-- the table is no deeper than that
abbrev closes : ℕ → Bool
closes r = same (under 6 r) (r ∷ inside (listed_in r))

all-close : all_to closes outside ≡ true
unfolding listed_in
all-close = refl

under-on : (r : ℕ) → r < outside → under 6 r ≡ r ∷ inside (listed_in r)
under-on r low = same_true (under 6 r) (r ∷ inside (listed_in r)) (all-at closes outside r all-close low)

rows_append : (a b : List Named) → rows_of (a ++ b) ≡ rows_of a ++ rows_of b
rows_append [] b = refl
rows_append (m ∷ a) b = ap (m.row ∷◌) (rows_append a b)

-- the rows below an element of a row, where its children's rows are those listed
own-rows : (x : Element) (parent : ℕ) → row_of parent (name x) < outside
    → child_rows (holds x) (row_of parent (name x)) ≡ listed_in (row_of parent (name x))
    → rows_of (met_in (holds x) (row_of parent (name x))) ≡ inside (child_rows (holds x) (row_of parent (name x)))
    → rows_of (met x parent) ≡ under 6 (row_of parent (name x))
own-rows x parent low listed inner =
    let r = row_of parent (name x) in
    ap rows_of (met-known x parent low) ∙ ap (r ∷◌) (inner ∙ ap inside listed) ∙ sym (under-on r low)

child-rows : (e : Element) (c : Content) (s : List ℕ) (parent : ℕ)
    → (row_of parent (name e) < outside → rows_of (met e parent) ≡ under 6 (row_of parent (name e)))
    → rows_of (met_in c parent) ≡ inside (child_rows c parent)
    → rows_of (met_in (text_then s e c) parent) ≡ inside (child_rows (text_then s e c) parent)
child-rows e c s parent own rest = go (row-range parent (name e))
  where
    go : (row_of parent (name e) < outside) ⊎ (row_of parent (name e) ≡ skipped)
        → rows_of (met e parent ++ met_in c parent) ≡ inside (child_rows (text_then s e c) parent)
    go (inl low) =
        rows_append (met e parent) (met_in c parent)
        ∙ ap₂ ◌++◌ (own low) rest
        ∙ rw (ne_eqb (row_of parent (name e)) skipped (λ h. omega arith))
    go (inr h) =
        ap (λ (ms : List Named). rows_of (ms ++ met_in c parent)) (skips e parent h)
        ∙ rest
        ∙ rw (eq-eqb (row_of parent (name e)) skipped h)

mutual
  rows-met : (x root : Element) (names : List (List ℕ)) → EachOnce root → Stands root x names → row_at (name x ∷ names) < outside
      → rows_of (met x (row_at names)) ≡ under 6 (row_at (name x ∷ names))
  rows-met (self_closing t) root names o st low =
      own-rows (self_closing t) (row_at names) low (o.children (self_closing t) names st low) refl
  rows-met (nesting t c s) root names o st low =
      own-rows
      (nesting t c s)
      (row_at names)
      low
      (o.children (nesting t c s) names st low)
      (rows_in c root (t.name ∷ names) o (λ x child. below st child))

  rows_in : (c : Content) (root : Element) (names : List (List ℕ)) → EachOnce root → ((x : Element) → Child x c → Stands root x names)
      → rows_of (met_in c (row_at names)) ≡ inside (child_rows c (row_at names))
  rows_in (last_text s) root names o st = refl
  rows_in (text_then s e c) root names o st =
      child-rows
      e
      c
      s
      (row_at names)
      (λ low. rows-met e root names o (st e (next refl)) low)
      (rows_in c root names o (λ x child. st x (further child)))

root-row : row_of outside (text "LBFastCdtTrf") ≡ 0
unfolding row_of
root-row = refl

all_under : under 6 0 ≡ numbers 16 0
unfolding listed_in
all_under = refl

pub each-in-order : (root : Element) → EachOnce root → in_order 0 (met root outside) ≡ true
each-in-order root o = exactly-rows (met root outside) all-rows plain-texts
  where
    first-row : row_at (name root ∷ []) ≡ 0
    first-row = ap (row_of outside) o.root-named ∙ root-row

    all-rows : rows_of (met root outside) ≡ numbers 16 0
    all-rows =
        rows-met root root [] o top (subst (λ (r : ℕ). r < outside) (sym first-row) (omega arith)) ∙ ap (under 6) first-row
        ∙ all_under

    plain-texts : PlainTexts (met root outside)
    plain-texts m h is =
        let a = met-stands root m h in
        let row = ap (λ (k : Named). k.row) a.is in
        ap (λ (k : Named). k.plain) a.is
        ∙ o.plain a.element a.names a.stands (subst (λ (r : ℕ). is_text_row r ≡ true) row is)

-- numbers in a list, and lists that rise from a number on
pub data Has (j : ℕ) : List ℕ → Type 0 where
  at_first : {k : ℕ} {more : List ℕ} → j ≡ k → Has j (k ∷ more)
  at-later : {k : ℕ} {more : List ℕ} → Has j more → Has j (k ∷ more)

data Rises : ℕ → List ℕ → Type 0 where
  ends : {n : ℕ} → Rises n []
  goes : {n k : ℕ} {more : List ℕ} → n ≤ k → Rises (suc k) more → Rises n (k ∷ more)

rises-below : (m n : ℕ) (s : List ℕ) → m ≤ n → Rises n s → Rises m s
rises-below m n s h ends = ends
rises-below m n s h (goes {k = k} low more) = let z : m ≤ k = omega arith in goes z more

rises-from : (n j : ℕ) (s : List ℕ) → Rises n s → Has j s → n ≤ j
rises-from n j [] r h = elim h [ ]
rises-from n j s (goes low more) (at_first e) = omega arith
rises-from n j s (goes {k = k} {more = rest} low more) (at-later h) = let z = rises-from (suc k) j rest more h in omega arith

none_has : {A : Type 0} {j : ℕ} → Has j [] → A
none_has h = elim h [ ]

-- two rising lists of the same numbers are the same
same-rising : (n : ℕ) (a b : List ℕ) → Rises n a → Rises n b → ((j : ℕ) → Has j a → Has j b) → ((j : ℕ) → Has j b → Has j a) → a ≡ b
same-rising n [] [] p q f g = refl
same-rising n [] (y ∷ b) p q f g = none_has (g y (at_first refl))
same-rising n (x ∷ a) [] p q f g = none_has (f x (at_first refl))
same-rising n (x ∷ a) (y ∷ b) (goes lx ra) (goes ly rb) f g =
    ap₂ ◌∷◌ one (same-rising (suc x) a b ra (rises-below (suc x) (suc y) b (let o = one in omega arith) rb) there back)
  where
    in_tail : (k j : ℕ) (s : List ℕ) → (j ≡ k → ⊥) → Has j (k ∷ s) → Has j s
    in_tail k j s other (at_first e) = absurd (other e)
    in_tail k j s other (at-later h) = h

    least : (k j : ℕ) (s : List ℕ) → Rises (suc k) s → Has j (k ∷ s) → k ≤ j
    least k j s r (at_first e) = omega arith
    least k j s r (at-later h) = let z = rises-from (suc k) j s r h in omega arith

    one : x ≡ y
    one =
        let low = least y x b rb (f x (at_first refl)) in
        let high = least x y a ra (g y (at_first refl)) in
        omega arith

    there : (j : ℕ) → Has j a → Has j b
    there j h = let z = rises-from (suc x) j a ra h in in_tail y j b (λ e. let o = one in omega arith) (f j (at-later h))

    back : (j : ℕ) → Has j b → Has j a
    back j h = let z = rises-from (suc y) j b rb h in in_tail x j a (λ e. let o = one in omega arith) (g j (at-later h))

-- the rows that are listed in a parent
listed-rises : (i : ℕ) (rs : List Row) (parent : ℕ) → Rises i (listed_from i rs parent)
listed-rises i [] parent = ends
listed-rises i (q ∷ more) parent = go (eqb q.parent parent) (listed-rises (suc i) more parent)
  where
    go : (b : Bool) → Rises (suc i) (listed_from (suc i) more parent)
        → Rises i (cond b (i ∷ listed_from (suc i) more parent) (listed_from (suc i) more parent))
    go true rest = let z : i ≤ i = omega arith in goes z rest
    go false rest = rises-below i (suc i) (listed_from (suc i) more parent) (omega arith) rest

abbrev no_row : Row
no_row = record { parent = 0; name = [] }

pub record Listed (i : ℕ) (rs : List Row) (parent j : ℕ) : Type 0 where
  pub from : i ≤ j
  pub below : j < i + length rs
  pub there : (get_or rs (j - i) no_row).parent ≡ parent

listed-later : (i : ℕ) (q : Row) (more : List Row) (parent j : ℕ) → Listed i (q ∷ more) parent j → (j ≡ i → ⊥)
    → Listed (suc i) more parent j
listed-later i q more parent j l other =
    let from = l.from in
    let below = l.below in
    let on : j - i ≡ suc (j - suc i) = omega arith in
    record {
      from = omega arith;
      below = omega arith;
      there = ap (λ (k : ℕ). (get_or (q ∷ more) k no_row).parent) (sym on) ∙ l.there;
    }

listed_has : (i : ℕ) (rs : List Row) (parent j : ℕ) → Listed i rs parent j → Has j (listed_from i rs parent)
listed_has i [] parent j l = absurd (let a = l.from in let b = l.below in omega arith)
listed_has i (q ∷ more) parent j l = go (eqb j i) refl (eqb q.parent parent) refl (listed_has (suc i) more parent j)
  where
    go : (b : Bool) → eqb j i ≡ b → (p : Bool) → eqb q.parent parent ≡ p
        → (Listed (suc i) more parent j → Has j (listed_from (suc i) more parent))
        → Has j (cond p (i ∷ listed_from (suc i) more parent) (listed_from (suc i) more parent))
    go true e true h on = at_first (eqb-true j i e)
    go true e false h on =
        let here = eqb-true j i e in
        let none : j - i ≡ 0 = omega arith in
        absurd (eqb-false q.parent parent h (ap (λ (k : ℕ). (get_or (q ∷ more) k no_row).parent) (sym none) ∙ l.there))
    go false e true h on = at-later (on (listed-later i q more parent j l (eqb-false j i e)))
    go false e false h on = on (listed-later i q more parent j l (eqb-false j i e))

has-later : (i : ℕ) (q : Row) (more : List Row) (parent j : ℕ) → Listed (suc i) more parent j → Listed i (q ∷ more) parent j
has-later i q more parent j l =
    let from = l.from in
    let below = l.below in
    let on : j - i ≡ suc (j - suc i) = omega arith in
    record {
      from = omega arith;
      below = omega arith;
      there = ap (λ (k : ℕ). (get_or (q ∷ more) k no_row).parent) on ∙ l.there;
    }

has_listed : (i : ℕ) (rs : List Row) (parent j : ℕ) → Has j (listed_from i rs parent) → Listed i rs parent j
has_listed i [] parent j h = none_has h
has_listed i (q ∷ more) parent j h = go (eqb q.parent parent) refl (has_listed (suc i) more parent j) h
  where
    go : (b : Bool) → eqb q.parent parent ≡ b → (Has j (listed_from (suc i) more parent) → Listed (suc i) more parent j)
        → Has j (cond b (i ∷ listed_from (suc i) more parent) (listed_from (suc i) more parent)) → Listed i (q ∷ more) parent j
    go true e on (at_first same) =
        let none : j - i ≡ 0 = omega arith in
        record {
          from = omega arith;
          below = omega arith;
          there = ap (λ (k : ℕ). (get_or (q ∷ more) k no_row).parent) none ∙ eqb-true q.parent parent e;
        }
    go true e on (at-later g) = has-later i q more parent j (on g)
    go false e on g = has-later i q more parent j (on g)

in-has : (parent j : ℕ) → Listed 0 rows parent j → Has j (listed_in parent)
unfolding listed_in
in-has parent j l = listed_has 0 rows parent j l

has_in : (parent j : ℕ) → Has j (listed_in parent) → Listed 0 rows parent j
unfolding listed_in
has_in parent j h = has_listed 0 rows parent j h

in-rises : (parent : ℕ) → Rises 0 (listed_in parent)
unfolding listed_in
in-rises parent = listed-rises 0 rows parent

-- each row is that of its own parent and name
abbrev finds : ℕ → Bool
finds j = eqb (row_of (get_or rows j no_row).parent (get_or rows j no_row).name) j

all_found : all_to finds outside ≡ true
unfolding row_of
all_found = refl

own_row : (j : ℕ) → j < outside → row_of (get_or rows j no_row).parent (get_or rows j no_row).name ≡ j
own_row j low = eqb-true _ j (all-at finds outside j all_found low)

-- the rows of children
pub record ChildOf (c : Content) (parent j : ℕ) : Type 0 where
  pub element : Element
  pub child : Child element c
  pub row : row_of parent (name element) ≡ j
  pub known : j < outside

child-has : (x : Element) (c : Content) (parent : ℕ) → Child x c → row_of parent (name x) < outside
    → Has (row_of parent (name x)) (child_rows c parent)
child-has x (last_text s) parent h low = elim h [ ]
child-has x (text_then s e c) parent (next p) low =
    let rows : row_of parent (name x) ≡ row_of parent (name e) = ap (λ (k : Element). row_of parent (name k)) p in
    rw (ne_eqb (row_of parent (name e)) skipped (λ h. omega arith)) (at_first rows)
child-has x (text_then s e c) parent (further h) low = go (eqb (row_of parent (name e)) skipped) (child-has x c parent h low)
  where
    go : (b : Bool) → Has (row_of parent (name x)) (child_rows c parent)
        → Has (row_of parent (name x)) (cond b (child_rows c parent) (row_of parent (name e) ∷ child_rows c parent))
    go true g = g
    go false g = at-later g

has-child : (c : Content) (parent j : ℕ) → Has j (child_rows c parent) → ChildOf c parent j
has-child (last_text s) parent j h = none_has h
has-child (text_then s e c) parent j h = go (row-range parent (name e)) (has-child c parent j) h
  where
    on : ChildOf c parent j → ChildOf (text_then s e c) parent j
    on k = record { element = k.element; child = further k.child; row = k.row; known = k.known }

    own : row_of parent (name e) < outside → (Has j (child_rows c parent) → ChildOf c parent j)
        → Has j (row_of parent (name e) ∷ child_rows c parent) → ChildOf (text_then s e c) parent j
    own low f (at_first p) = record { element = e; child = next refl; row = sym p; known = omega arith }
    own low f (at-later g) = on (f g)

    go : (row_of parent (name e) < outside) ⊎ (row_of parent (name e) ≡ skipped) → (Has j (child_rows c parent) → ChildOf c parent j)
        → Has j (child_rows (text_then s e c) parent) → ChildOf (text_then s e c) parent j
    go (inl low) f g = own low f (rw (ne_eqb (row_of parent (name e)) skipped (λ h. omega arith)) at g)
    go (inr none) f g = on (f (rw (eq-eqb (row_of parent (name e)) skipped none) at g))

-- children whose rows rise
child-rises : (c : Content) (parent n : ℕ)
    → ((x y : Element) → Siblings x y c → row_of parent (name x) < outside → row_of parent (name y) < outside
    → row_of parent (name x) < row_of parent (name y))
    → ((x : Element) → Child x c → row_of parent (name x) < outside → n ≤ row_of parent (name x))
    → Rises n (child_rows c parent)
child-rises (last_text s) parent n up low = ends
child-rises (text_then s e c) parent n up low =
    go (row-range parent (name e)) (λ k. child-rises c parent k (λ x y h. up x y (further_of h)))
  where
    go : (row_of parent (name e) < outside) ⊎ (row_of parent (name e) ≡ skipped)
        → ((k : ℕ) → ((x : Element) → Child x c → row_of parent (name x) < outside → k ≤ row_of parent (name x))
        → Rises k (child_rows c parent))
        → Rises n (cond (eqb (row_of parent (name e)) skipped) (child_rows c parent) (row_of parent (name e) ∷ child_rows c parent))
    go (inl known) on =
        rw (ne_eqb (row_of parent (name e)) skipped (λ h. omega arith))
        (goes
        (low e (next refl) known)
        (on (suc (row_of parent (name e))) (λ x h k. up e x (next_of refl h) known k)))
    go (inr h) on = rw (eq-eqb (row_of parent (name e)) skipped h) (on n (λ x g k. low x (further g) k))

-- a child of a name, or none
child-named : (c : Content) (n : List ℕ) → ((x : Element) × Child x c × (name x ≡ n)) ⊎ ((x : Element) → Child x c → name x ≡ n → ⊥)
child-named (last_text s) n = inr (λ x h p. elim h [ ])
child-named (text_then s e c) n = go (same (name e) n) refl (child-named c n)
  where
    go : (b : Bool) → same (name e) n ≡ b
        → ((x : Element) × Child x c × (name x ≡ n)) ⊎ ((x : Element) → Child x c → name x ≡ n → ⊥)
        → ((x : Element) × Child x (text_then s e c) × (name x ≡ n)) ⊎ ((x : Element) → Child x (text_then s e c) → name x ≡ n → ⊥)
    go true p k = inl (e, next refl, same_true (name e) n p)
    go false p (inl k) = inl (k.0, further k.1, k.2)
    go false p (inr none) = inr other
      where
        other : (x : Element) → Child x (text_then s e c) → name x ≡ n → ⊥
        other x (next q) m =
            never (sym (same_refl n) ∙ ap (λ (w : List ℕ). same w n) (sym m ∙ ap name q) ∙ p)
        other x (further h) m = none x h m

module _ (root : Element) (e : in_order 0 (met root outside) ≡ true) where
  named-root : (b : Bool) → same (name root) (text "LBFastCdtTrf") ≡ b → name root ≡ text "LBFastCdtTrf"
  named-root true h = same_true (name root) (text "LBFastCdtTrf") h
  named-root false h =
      let other : name root ≡ text "LBFastCdtTrf" → ⊥ =
      λ p. never (sym (same_refl (name root)) ∙ ap (same (name root)) p ∙ h)
      in
      never (sym e ∙ other-root root other)

  module _ (z : Element) (names : List (List ℕ)) (st : Stands root z names) (low : row_at (name z ∷ names) < outside) where
    abbrev here : ℕ
    here = row_at (name z ∷ names)

    -- a child of a row is listed
    to-listed : (j : ℕ) → Has j (child_rows (holds z) here) → Has j (listed_in here)
    to-listed j h =
        let k = has-child (holds z) here j h in
        let t = in_table here (name k.element) (subst (λ (i : ℕ). i < outside) (sym k.row) k.known) in
        in-has here j
        (record {
          from = omega arith;
          below = k.known;
          there = ap (λ (i : ℕ). (get_or rows (i - 0) no_row).parent) (sym k.row) ∙ ap (λ (q : Row). q.parent) (t.there no_row);
        })

    -- one that is listed is a child
    to-child : (j : ℕ) → Has j (listed_in here) → Has j (child_rows (holds z) here)
    to-child j h = go (child-named (holds z) n)
      where
        l : Listed 0 rows here j
        l = has_in here j h

        n : List ℕ
        n = (get_or rows j no_row).name

        row : row_of here n ≡ j
        row =
            let none : j - 0 ≡ j = omega arith in
            let parent : (get_or rows j no_row).parent ≡ here = ap (λ (i : ℕ). (get_or rows i no_row).parent) (sym none) ∙ l.there in
            ap (λ (i : ℕ). row_of i n) (sym parent) ∙ own_row j l.below

        known : row_of here n < outside
        known = subst (λ (i : ℕ). i < outside) (sym row) l.below

        go : ((x : Element) × Child x (holds z) × (name x ≡ n)) ⊎ ((x : Element) → Child x (holds z) → name x ≡ n → ⊥)
            → Has j (child_rows (holds z) here)
        go (inl k) =
            let same_row : row_of here (name k.0) ≡ j = ap (row_of here) k.2 ∙ row in
            subst (λ (i : ℕ). Has i (child_rows (holds z) here)) same_row
            (child-has k.0 (holds z) here k.1 (subst (λ (i : ℕ). i < outside) (sym same_row) l.below))
        go (inr none) = never (sym e ∙ missing root z names n st known none)

    children-listed : child_rows (holds z) here ≡ listed_in here
    children-listed =
        same-rising
        0
        (child_rows (holds z) here)
        (listed_in here)
        (child-rises (holds z) here 0 (λ x y h. siblings-rise root z x y names e st h) (λ x h k. omega arith))
        (in-rises here)
        to-listed
        to-child

  pub in-order-each : EachOnce root
  in-order-each =
      record {
        root-named = named-root (same (name root) (text "LBFastCdtTrf")) refl;
        children = children-listed;
        plain =
            λ x names st is.
            texts-plain
            (met root outside)
            e
            (named_at x (row_at (name x ∷ names)))
            (met_holds root x names st (text-low names (name x) is))
            is;
      }

-- 02, slip 3 (24): of a document, and of a text that is read as one
pub not-each-24 : (root : Element) (time : ℕ) → (EachOnce root → ⊥) → judged time (met root outside) ≡ refused 24
not-each-24 root time none =
    judged-24 time (met root outside) (disorder (met root outside) (λ e. none (in-order-each root e)))

pub each-not-24 : (root : Element) (time : ℕ) → EachOnce root → judged time (met root outside) ≡ refused 24 → ⊥
each-not-24 root time each h = never (sym (each-in-order root each) ∙ only-24 time (met root outside) h)

pub text-24 : (t : List ℕ) (time : ℕ) (v : Verdict) → Answered t time v → (r : Reading t) → (EachOnce r.document.root → ⊥)
    → v ≡ refused 24
text-24 t time v a r none = a.read r ∙ not-each-24 r.document.root time none

pub text-not-24 : (t : List ℕ) (time : ℕ) (v : Verdict) → Answered t time v → (r : Reading t) → EachOnce r.document.root
    → v ≡ refused 24 → ⊥
text-not-24 t time v a r each h = each-not-24 r.document.root time each (sym (a.read r) ∙ h)
