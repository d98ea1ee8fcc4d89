-- Where an element stands in a document, and what the words of 02, slip 3 (24) say of it.
--     Child, Siblings    an element is a child in what another holds, and stands before another child
--     Stands             an element stands in a document, with the names of those around it
--     row_at              the row of an element by its name and those around it; `one-path`: two paths of one row are the same
--     met-skipped        nothing is met in an element that is skipped
--     met_holds          what stands at a row is met; `met-stands`: what is met stands at its row
--     missing, twice, misordered, text-holding, other-root    where 24 says so, the named elements are not in order
--     At                 an element stands at a path; in order, one does at each row's path (`stands_at`), and no other (`one_place`)
--     element-at         the element of a row is that one
--     missing-24 ..      the same as verdicts
-- Assumes nothing.
use Prim.Native.Nat.{ℕ, suc, ◌+◌, ◌-◌, ◌≤◌, ◌<◌}
use mathlib.Core.Path.{◌≡◌, refl, ap, ap₂, sym, subst, ◌∙◌}
use mathlib.Core.Logic.{◌⊎◌, inl, inr, ⊎_elim}
use mathlib.Core.Bool.{Bool, true, false, ◌&&◌, cond}
use mathlib.Core.List.{List, [], ◌∷◌, ◌++◌, append-nil, append_assoc}
use native.Mathlib.Omega.{arith}
use borrow.Author.Tests.{eqb-true, ne_eqb}
use lib.Dec.{eqb}
use lib.ListN.{length, get_or}
use Rattle.fields.specs.Text.{text, same}
use Rattle.fields.proofs.Tests.{and_left, and_right, never}
use Rattle.fields.proofs.Same.{same_true}
use Rattle.xml.specs.Tree.{Tag, Element, self_closing, nesting, Content, last_text, text_then}
use Rattle.pacs.specs.Named.{Row, Named, rows, row_among, row_of, is_text_row, named, leading_text, is_plain, met, met_in, outside, skipped}
use Rattle.pacs.specs.Judged.{refused, in_order, element_at, judged}
use Rattle.pacs.proofs.Words.{
  Among,
  first,
  later,
  Ahead,
  before,
  behind,
  placed,
  row-met,
  ascending,
  disorder,
  repeated,
  astray,
  holding,
  judged-24,
}

-- an element's tag, its name, and what it holds: nothing where it closes itself
abbrev pub tag : Element → Tag
tag (self_closing t) = t
tag (nesting t c s) = t

abbrev pub name : Element → List ℕ
name e = (tag e).name

abbrev pub holds : Element → Content
holds (self_closing t) = last_text []
holds (nesting t c s) = c

-- an element is a child in what another holds; and a child before another
pub data Child (x : Element) : Content → Type 0 where
  next : {s : List ℕ} {e : Element} {c : Content} → x ≡ e → Child x (text_then s e c)
  further : {s : List ℕ} {e : Element} {c : Content} → Child x c → Child x (text_then s e c)

pub data Siblings (x y : Element) : Content → Type 0 where
  next_of : {s : List ℕ} {e : Element} {c : Content} → x ≡ e → Child y c → Siblings x y (text_then s e c)
  further_of : {s : List ℕ} {e : Element} {c : Content} → Siblings x y c → Siblings x y (text_then s e c)

-- an element stands in a document with the names of those around it, the innermost first
pub data Stands (root : Element) : Element → List (List ℕ) → Type 0 where
  top : Stands root root []
  below : {x y : Element} {names : List (List ℕ)} → Stands root y names → Child x (holds y) → Stands root x (name y ∷ names)

-- the row of an element, by its name and the names around it
abbrev pub row_at : List (List ℕ) → ℕ
row_at [] = outside
row_at (n ∷ names) = row_of (row_at names) n

-- rows of the table, by the parent's row and the name
pub record InTable (i : ℕ) (rs : List Row) (parent : ℕ) (n : List ℕ) (r : ℕ) : Type 0 where
  pub from : i ≤ r
  pub below : r < i + length rs
  pub there : (d : Row) → get_or rs (r - i) d ≡ record { parent = parent; name = n }

among-table : (i : ℕ) (rs : List Row) (parent : ℕ) (n : List ℕ)
    → InTable i rs parent n (row_among i rs parent n) ⊎ (row_among i rs parent n ≡ skipped)
among-table i [] parent n = inr refl
among-table i (q ∷ more) parent n = go (eqb q.parent parent && same q.name n) refl (among-table (suc i) more parent n)
  where
    go : (b : Bool) → (eqb q.parent parent && same q.name n) ≡ b
        → InTable (suc i) more parent n (row_among (suc i) more parent n) ⊎ (row_among (suc i) more parent n ≡ skipped)
        → InTable i (q ∷ more) parent n (cond b i (row_among (suc i) more parent n)) ⊎ (cond b i (row_among (suc i) more parent n) ≡ skipped)
    go true e rest =
        let p : q.parent ≡ parent = eqb-true q.parent parent (and_left (eqb q.parent parent) (same q.name n) e) in
        let m : q.name ≡ n = same_true q.name n (and_right (eqb q.parent parent) (same q.name n) e) in
        let none : i - i ≡ 0 = omega arith in
        inl (record {
          from = omega arith;
          below = omega arith;
          there = λ d. ap (λ (k : ℕ). get_or (q ∷ more) k d) none ∙ ap₂ (λ (a : ℕ) (b : List ℕ). record { parent = a; name = b }) p m;
        })
    go false e (inl t) =
        let from = t.from in
        let on : row_among (suc i) more parent n - i ≡ suc (row_among (suc i) more parent n - suc i) = omega arith in
        inl (record {
          from = omega arith;
          below = let b = t.below in omega arith;
          there = λ d. ap (λ (k : ℕ). get_or (q ∷ more) k d) on ∙ t.there d;
        })
    go false e (inr h) = inr h

-- the row of a name in a parent: below 16, or none
pub row-range : (parent : ℕ) (n : List ℕ) → (row_of parent n < outside) ⊎ (row_of parent n ≡ skipped)
unfolding row_of
row-range parent n = go (among-table 0 rows parent n)
  where
    go : InTable 0 rows parent n (row_among 0 rows parent n) ⊎ (row_among 0 rows parent n ≡ skipped)
        → (row_among 0 rows parent n < outside) ⊎ (row_among 0 rows parent n ≡ skipped)
    go (inl t) = inl t.below
    go (inr h) = inr h

pub in_table : (parent : ℕ) (n : List ℕ) → row_of parent n < outside → InTable 0 rows parent n (row_of parent n)
unfolding row_of
in_table parent n low = go (among-table 0 rows parent n)
  where
    go : InTable 0 rows parent n (row_among 0 rows parent n) ⊎ (row_among 0 rows parent n ≡ skipped)
        → InTable 0 rows parent n (row_among 0 rows parent n)
    go (inl t) = t
    go (inr h) = absurd (omega arith)

-- a row has one parent and one name
pub one-row : (p q : ℕ) (n m : List ℕ) → row_of p n < outside → row_of p n ≡ row_of q m → (p ≡ q) × (n ≡ m)
one-row p q n m low e =
    let a = in_table p n low in
    let b = in_table q m (subst (λ (r : ℕ). r < outside) e low) in
    let d : Row = record { parent = 0; name = [] } in
    let z = sym (a.there d) ∙ ap (λ (r : ℕ). get_or rows (r - 0) d) e ∙ b.there d in
    (ap (λ (x : Row). x.parent) z, ap (λ (x : Row). x.name) z)

-- no name has a row in an element that is skipped, nor in one of the five texts
pub skipped-row : (n : List ℕ) → row_of skipped n ≡ skipped
unfolding row_of
skipped-row n = refl

-- 02, slip 3: other elements are skipped as balanced
mutual
  pub met-skipped : (e : Element) → met e skipped ≡ []
  met-skipped (self_closing t) = rw (skipped-row t.name)
  met-skipped (nesting t c s) = rw (skipped-row t.name) (met_in-skipped c)

  pub met_in-skipped : (c : Content) → met_in c skipped ≡ []
  met_in-skipped (last_text s) = refl
  met_in-skipped (text_then s e c) = rw (met-skipped e) (met_in-skipped c)

-- an element that is skipped meets nothing
pub skips : (e : Element) (parent : ℕ) → row_of parent (name e) ≡ skipped → met e parent ≡ []
skips (self_closing t) parent h = rw h
skips (nesting t c s) parent h = rw h (met_in-skipped c)

-- two paths of one row are the same
pub one-path : (a b : List (List ℕ)) → (row_at a ≡ skipped → ⊥) → row_at a ≡ row_at b → a ≡ b
one-path [] [] f e = refl
one-path [] (m ∷ b) f e = go (row-range (row_at b) m)
  where
    go : (row_of (row_at b) m < outside) ⊎ (row_of (row_at b) m ≡ skipped) → [] ≡ m ∷ b
    go (inl h) = absurd (omega arith)
    go (inr h) = absurd (omega arith)
one-path (n ∷ a) [] f e = go (row-range (row_at a) n)
  where
    go : (row_of (row_at a) n < outside) ⊎ (row_of (row_at a) n ≡ skipped) → n ∷ a ≡ []
    go (inl h) = absurd (omega arith)
    go (inr h) = absurd (omega arith)
one-path (n ∷ a) (m ∷ b) f e = go (row-range (row_at a) n) (one-path a b)
  where
    go : (row_of (row_at a) n < outside) ⊎ (row_of (row_at a) n ≡ skipped) → ((row_at a ≡ skipped → ⊥) → row_at a ≡ row_at b → a ≡ b)
        → n ∷ a ≡ m ∷ b
    go (inl h) on =
        let both = one-row (row_at a) (row_at b) n m h e in
        let known : row_at a ≡ skipped → ⊥ = λ k. f (ap (λ (r : ℕ). row_of r n) k ∙ skipped-row n) in
        ap₂ ◌∷◌ both.1 (on known both.0)
    go (inr h) on = absurd (f h)

-- the named element of an element of a row
abbrev pub named_at : Element → ℕ → Named
named_at e r = record { row = r; attributes = (tag e).attributes; text = leading_text (holds e); plain = is_plain (holds e) }

met_of : (e : Element) (parent : ℕ)
    → met e parent
    ≡ named (row_of parent (name e)) (tag e) (leading_text (holds e)) (is_plain (holds e)) ++ met_in (holds e) (row_of parent (name e))
met_of (self_closing t) parent = sym (append-nil (named (row_of parent t.name) t [] true))
met_of (nesting t c s) parent = refl

named-known : (e : Element) (r : ℕ) → r < outside → named r (tag e) (leading_text (holds e)) (is_plain (holds e)) ≡ named_at e r ∷ []
named-known e r low = rw (ne_eqb r skipped (λ h. omega arith))

pub met-known : (e : Element) (parent : ℕ) → row_of parent (name e) < outside
    → met e parent ≡ named_at e (row_of parent (name e)) ∷ met_in (holds e) (row_of parent (name e))
met-known e parent low =
    met_of e parent ∙ ap (◌++ met_in (holds e) (row_of parent (name e))) (named-known e (row_of parent (name e)) low)

-- what is met of an element is a part of what is met of the whole
pub record Part (part whole : List Named) : Type 0 where
  pub front : List Named
  pub back : List Named
  pub is : whole ≡ front ++ (part ++ back)

part_of : (a b c : List Named) → Part a b → Part b c → Part a c
part_of a b c p q =
    record {
      front = q.front ++ p.front;
      back = p.back ++ q.back;
      is =
          q.is
          ∙ ap (λ (x : List Named). q.front ++ (x ++ q.back)) p.is
          ∙ simp append_assoc;
    }

child-part : (x : Element) (c : Content) (parent : ℕ) → Child x c → Part (met x parent) (met_in c parent)
child-part x (last_text s) parent h = elim h [ ]
child-part x (text_then s e c) parent (next same) =
    record {
      front = [];
      back = met_in c parent;
      is = ap (λ (k : Element). met k parent ++ met_in c parent) (sym same);
    }
child-part x (text_then s e c) parent (further h) =
    let p = child-part x c parent h in
    record {
      front = met e parent ++ p.front;
      back = p.back;
      is = ap (met e parent ++◌) p.is ∙ sym (append_assoc (met e parent) p.front (met x parent ++ p.back));
    }

inner-part : (e : Element) (parent : ℕ) → Part (met_in (holds e) (row_of parent (name e))) (met e parent)
inner-part e parent =
    let inner = met_in (holds e) (row_of parent (name e)) in
    let own = named (row_of parent (name e)) (tag e) (leading_text (holds e)) (is_plain (holds e)) in
    record {
      front = own;
      back = [];
      is = met_of e parent ∙ ap (own ++◌) (sym (append-nil inner));
    }

pub stands-part : (root x : Element) (names : List (List ℕ)) → Stands root x names → Part (met x (row_at names)) (met root outside)
stands-part root x names top = record { front = []; back = []; is = sym (append-nil (met root outside)) }
stands-part root x names (below {y = y} {names = around} st h) =
    let r = row_at (name y ∷ around) in
    part_of
    (met x r)
    (met y (row_at around))
    (met root outside)
    (part_of (met x r) (met_in (holds y) r) (met y (row_at around)) (child-part x (holds y) r h) (inner-part y (row_at around)))
    (stands-part root y around st)

-- an element among a part is among the whole, and so are two of them
among-left : (m : Named) (a b : List Named) → Among m a → Among m (a ++ b)
among-left m [] b h = elim h [ ]
among-left m (k ∷ a) b (first same) = first same
among-left m (k ∷ a) b (later h) = later (among-left m a b h)

among-right : (m : Named) (a b : List Named) → Among m b → Among m (a ++ b)
among-right m [] b h = h
among-right m (k ∷ a) b h = later (among-right m a b h)

among-part : (m : Named) (part whole : List Named) → Part part whole → Among m part → Among m whole
among-part m part whole p h =
    subst (Among m) (sym p.is) (among-right m p.front (part ++ p.back) (among-left m part p.back h))

ahead-left : (m k : Named) (a b : List Named) → Ahead m k a → Ahead m k (a ++ b)
ahead-left m k [] b h = elim h [ ]
ahead-left m k (j ∷ a) b (before same h) = before same (among-left k a b h)
ahead-left m k (j ∷ a) b (behind h) = behind (ahead-left m k a b h)

ahead-right : (m k : Named) (a b : List Named) → Ahead m k b → Ahead m k (a ++ b)
ahead-right m k [] b h = h
ahead-right m k (j ∷ a) b h = behind (ahead-right m k a b h)

ahead-across : (m k : Named) (a b : List Named) → Among m a → Among k b → Ahead m k (a ++ b)
ahead-across m k [] b g h = elim g [ ]
ahead-across m k (j ∷ a) b (first same) h = before same (among-right k a b h)
ahead-across m k (j ∷ a) b (later g) h = behind (ahead-across m k a b g h)

ahead-part : (m k : Named) (part whole : List Named) → Part part whole → Ahead m k part → Ahead m k whole
ahead-part m k part whole p h =
    subst (Ahead m k) (sym p.is) (ahead-right m k p.front (part ++ p.back) (ahead-left m k part p.back h))

own-met : (e : Element) (parent : ℕ) → row_of parent (name e) < outside → Among (named_at e (row_of parent (name e))) (met e parent)
own-met e parent low = subst (Among (named_at e (row_of parent (name e)))) (sym (met-known e parent low)) (first refl)

-- what stands at a row is met
pub met_holds : (root x : Element) (names : List (List ℕ)) → Stands root x names → row_at (name x ∷ names) < outside
    → Among (named_at x (row_at (name x ∷ names))) (met root outside)
met_holds root x names st low =
    among-part
    (named_at x (row_at (name x ∷ names)))
    (met x (row_at names))
    (met root outside)
    (stands-part root x names st)
    (own-met x (row_at names) low)

child-met : (x : Element) (c : Content) (parent : ℕ) → Child x c → row_of parent (name x) < outside
    → Among (named_at x (row_of parent (name x))) (met_in c parent)
child-met x c parent h low =
    among-part (named_at x (row_of parent (name x))) (met x parent) (met_in c parent) (child-part x c parent h) (own-met x parent low)

siblings-ahead : (x y : Element) (c : Content) (parent : ℕ) → Siblings x y c → row_of parent (name x) < outside
    → row_of parent (name y) < outside
    → Ahead (named_at x (row_of parent (name x))) (named_at y (row_of parent (name y))) (met_in c parent)
siblings-ahead x y (last_text s) parent h lowx lowy = elim h [ ]
siblings-ahead x y (text_then s e c) parent (next_of same h) lowx lowy =
    ahead-across
    (named_at x (row_of parent (name x)))
    (named_at y (row_of parent (name y)))
    (met e parent)
    (met_in c parent)
    (subst (λ (k : Element). Among (named_at x (row_of parent (name x))) (met k parent)) same (own-met x parent lowx))
    (child-met y c parent h lowy)
siblings-ahead x y (text_then s e c) parent (further_of h) lowx lowy =
    ahead-right
    (named_at x (row_of parent (name x)))
    (named_at y (row_of parent (name y)))
    (met e parent)
    (met_in c parent)
    (siblings-ahead x y c parent h lowx lowy)

-- two children of an element that stands in a document, one before the other
siblings-met : (root z x y : Element) (names : List (List ℕ)) → Stands root z names → Siblings x y (holds z)
    → row_at (name x ∷ name z ∷ names) < outside → row_at (name y ∷ name z ∷ names) < outside
    → Ahead (named_at x (row_at (name x ∷ name z ∷ names))) (named_at y (row_at (name y ∷ name z ∷ names))) (met root outside)
siblings-met root z x y names st h lowx lowy =
    let r = row_at (name z ∷ names) in
    let m = named_at x (row_of r (name x)) in
    let k = named_at y (row_of r (name y)) in
    ahead-part m k (met z (row_at names)) (met root outside) (stands-part root z names st)
    (ahead-part m k (met_in (holds z) r) (met z (row_at names)) (inner-part z (row_at names)) (siblings-ahead x y (holds z) r h lowx lowy))

-- in order, children's rows rise
pub siblings-rise : (root z x y : Element) (names : List (List ℕ)) → in_order 0 (met root outside) ≡ true → Stands root z names
    → Siblings x y (holds z) → row_at (name x ∷ name z ∷ names) < outside → row_at (name y ∷ name z ∷ names) < outside
    → row_at (name x ∷ name z ∷ names) < row_at (name y ∷ name z ∷ names)
siblings-rise root z x y names e st h lowx lowy =
    ascending 0 (met root outside) _ _ e (siblings-met root z x y names st h lowx lowy)

-- 02, slip 3 (24): twice in its parent
pub twice : (root z x y : Element) (names : List (List ℕ)) → Stands root z names → Siblings x y (holds z) → name x ≡ name y
    → row_at (name x ∷ name z ∷ names) < outside → in_order 0 (met root outside) ≡ false
twice root z x y names st h same low =
    let rows : row_at (name x ∷ name z ∷ names) ≡ row_at (name y ∷ name z ∷ names) = ap (λ (n : List ℕ). row_at (n ∷ name z ∷ names)) same in
    repeated (met root outside) _ _ (siblings-met root z x y names st h low (subst (λ (r : ℕ). r < outside) rows low)) rows

-- .. or out of order
pub misordered : (root z x y : Element) (names : List (List ℕ)) → Stands root z names → Siblings x y (holds z)
    → row_at (name x ∷ name z ∷ names) < outside → row_at (name y ∷ name z ∷ names) < row_at (name x ∷ name z ∷ names)
    → in_order 0 (met root outside) ≡ false
misordered root z x y names st h low less =
    astray (met root outside) _ _ (siblings-met root z x y names st h low (omega arith)) less

-- .. or a named text holding an element
pub text-low : (names : List (List ℕ)) (n : List ℕ) → is_text_row (row_at (n ∷ names)) ≡ true → row_at (n ∷ names) < outside
text-low names n is = go (row-range (row_at names) n)
  where
    go : (row_at (n ∷ names) < outside) ⊎ (row_at (n ∷ names) ≡ skipped) → row_at (n ∷ names) < outside
    go (inl h) = h
    go (inr h) = never (sym is ∙ ap is_text_row h)

not_plain : (y : Element) (c : Content) → Child y c → is_plain c ≡ false
not_plain y (last_text s) h = elim h [ ]
not_plain y (text_then s e c) (next same) = refl
not_plain y (text_then s e c) (further h) = refl

pub text-holding : (root x y : Element) (names : List (List ℕ)) → Stands root x names → is_text_row (row_at (name x ∷ names)) ≡ true
    → Child y (holds x) → in_order 0 (met root outside) ≡ false
text-holding root x y names st is h =
    holding
    (met root outside)
    (named_at x (row_at (name x ∷ names)))
    (met_holds root x names st (text-low names (name x) is))
    is
    (not_plain y (holds x) h)

-- .. another root
pub other-root : (root : Element) → (name root ≡ text "LBFastCdtTrf" → ⊥) → in_order 0 (met root outside) ≡ false
unfolding row_of
other-root root differs = go (same (text "LBFastCdtTrf") (name root)) refl
  where
    go : (b : Bool) → same (text "LBFastCdtTrf") (name root) ≡ b → in_order 0 (met root outside) ≡ false
    go true e = absurd (differs (sym (same_true (text "LBFastCdtTrf") (name root) e)))
    go false e = rw (skips root outside (rw e))

-- what is met stands at its row
pub record Origin (root : Element) (m : Named) : Type 0 where
  pub element : Element
  pub names : List (List ℕ)
  pub stands : Stands root element names
  pub is : m ≡ named_at element (row_at (name element ∷ names))
  pub known : row_at (name element ∷ names) < outside

among_cases : (m : Named) (a b : List Named) → Among m (a ++ b) → Among m a ⊎ Among m b
among_cases m [] b h = inr h
among_cases m (k ∷ a) b (first same) = inl (first same)
among_cases m (k ∷ a) b (later h) = go (among_cases m a b h)
  where
    go : Among m a ⊎ Among m b → Among m (k ∷ a) ⊎ Among m b
    go (inl x) = inl (later x)
    go (inr y) = inr y

none-among : {A : Type 0} {m : Named} → Among m [] → A
none-among h = elim h [ ]

only : (m k : Named) → Among m (k ∷ []) → m ≡ k
only m k (first same) = same
only m k (later h) = none-among h

origin-own : (root x : Element) (names : List (List ℕ)) → Stands root x names → (m : Named)
    → Among m (named (row_at (name x ∷ names)) (tag x) (leading_text (holds x)) (is_plain (holds x))) → Origin root m
origin-own root x names st m h = go (row-range (row_at names) (name x))
  where
    go : (row_at (name x ∷ names) < outside) ⊎ (row_at (name x ∷ names) ≡ skipped) → Origin root m
    go (inl low) =
        record {
          element = x;
          names = names;
          stands = st;
          is = only m (named_at x (row_at (name x ∷ names))) (subst (Among m) (named-known x (row_at (name x ∷ names)) low) h);
          known = low;
        }
    go (inr none) =
        none-among (subst (λ (i : ℕ). Among m (named i (tag x) (leading_text (holds x)) (is_plain (holds x)))) none h)

mutual
  origin-of : (x root : Element) (names : List (List ℕ)) → Stands root x names → (m : Named) → Among m (met x (row_at names))
      → Origin root m
  origin-of (self_closing t) root names st m h = origin-own root (self_closing t) names st m h
  origin-of (nesting t c s) root names st m h =
      ⊎_elim
      (λ (own : Among m (named (row_at (t.name ∷ names)) t (leading_text c) (is_plain c))). origin-own root (nesting t c s) names st m own)
      (λ (inner : Among m (met_in c (row_at (t.name ∷ names)))).
      origin-in c root (t.name ∷ names) (λ x child. below st child) m inner)
      (among_cases m (named (row_at (t.name ∷ names)) t (leading_text c) (is_plain c)) (met_in c (row_at (t.name ∷ names))) h)

  origin-in : (c : Content) (root : Element) (names : List (List ℕ)) → ((x : Element) → Child x c → Stands root x names)
      → (m : Named) → Among m (met_in c (row_at names)) → Origin root m
  origin-in (last_text s) root names st m h = none-among h
  origin-in (text_then s e c) root names st m h =
      ⊎_elim
      (λ (here : Among m (met e (row_at names))). origin-of e root names (st e (next refl)) m here)
      (λ (there : Among m (met_in c (row_at names))). origin-in c root names (λ x child. st x (further child)) m there)
      (among_cases m (met e (row_at names)) (met_in c (row_at names)) h)

pub met-stands : (root : Element) (m : Named) → Among m (met root outside) → Origin root m
met-stands root m h = origin-of root root [] top m h

child-cases : (x y : Element) (c : Content) → Child x c → Child y c → (x ≡ y) ⊎ (Siblings x y c ⊎ Siblings y x c)
child-cases x y (last_text s) h k = elim h [ ]
child-cases x y (text_then s e c) (next p) (next q) = inl (p ∙ sym q)
child-cases x y (text_then s e c) (next p) (further k) = inr (inl (next_of p k))
child-cases x y (text_then s e c) (further h) (next q) = inr (inr (next_of q h))
child-cases x y (text_then s e c) (further h) (further k) = go (child-cases x y c h k)
  where
    go : (x ≡ y) ⊎ (Siblings x y c ⊎ Siblings y x c)
        → (x ≡ y) ⊎ (Siblings x y (text_then s e c) ⊎ Siblings y x (text_then s e c))
    go (inl p) = inl p
    go (inr (inl g)) = inr (inl (further_of g))
    go (inr (inr g)) = inr (inr (further_of g))

-- an element of a row stands in one of a row, or outside
parent-known : (n m : List ℕ) (names : List (List ℕ)) → row_at (n ∷ m ∷ names) < outside → row_at (m ∷ names) < outside
parent-known n m names low = go (row-range (row_at names) m)
  where
    go : (row_at (m ∷ names) < outside) ⊎ (row_at (m ∷ names) ≡ skipped) → row_at (m ∷ names) < outside
    go (inl h) = h
    go (inr h) = absurd (let z = ap (λ (r : ℕ). row_of r n) h ∙ skipped-row n in omega arith)

one-child : (root w x y : Element) (names : List (List ℕ)) → in_order 0 (met root outside) ≡ true → Stands root w names
    → Child x (holds w) → Child y (holds w) → name x ≡ name y → row_at (name x ∷ name w ∷ names) < outside → x ≡ y
one-child root w x y names e st h k same low = go (child-cases x y (holds w) h k)
  where
    go : (x ≡ y) ⊎ (Siblings x y (holds w) ⊎ Siblings y x (holds w)) → x ≡ y
    go (inl p) = p
    go (inr (inl g)) = never (sym e ∙ twice root w x y names st g same low)
    go (inr (inr g)) =
        never
        (sym e ∙ twice root w y x names st g (sym same) (subst (λ (n : List ℕ). row_at (n ∷ name w ∷ names) < outside) same low))

-- in order, one element stands at a row's path
pub one_place : (root x y : Element) (a b : List (List ℕ)) → in_order 0 (met root outside) ≡ true → Stands root x a → Stands root y b
    → name x ∷ a ≡ name y ∷ b → row_at (name x ∷ a) < outside → x ≡ y
one_place root x y a b e top top same low = refl
one_place root x y a b e top (below {y = w} {names = ns} st h) same low =
    let z : ◌≡◌ {A = List (List ℕ)} [] (name w ∷ ns) = cc in
    absurd (let k : ◌≡◌ {A = ℕ} 0 1 = cc in omega arith)
one_place root x y a b e (below {y = w} {names = ns} st h) top same low =
    let z : ◌≡◌ {A = List (List ℕ)} (name w ∷ ns) [] = cc in
    absurd (let k : ◌≡◌ {A = ℕ} 0 1 = cc in omega arith)
one_place root x y a b e (below {y = w} {names = ns} st h) (below {y = v} {names = ms} st' h') same low =
    let around : ◌≡◌ {A = List (List ℕ)} (name w ∷ ns) (name v ∷ ms) = cc in
    let own : name x ≡ name y = cc in
    let parents = one_place root w v ns ms e st st' around (parent-known (name x) (name w) ns low) in
    one-child root w x y ns e st h (subst (λ (p : Element). Child y (holds p)) (sym parents) h') own low

-- an element stands at a path, which ends in its own name
pub record At (root : Element) (path : List (List ℕ)) : Type 0 where
  pub element : Element
  pub names : List (List ℕ)
  pub stands : Stands root element names
  pub is : name element ∷ names ≡ path

-- in order, an element stands at each row's path
pub stands_at : (root : Element) (path : List (List ℕ)) → in_order 0 (met root outside) ≡ true → row_at path < outside → At root path
stands_at root path e low =
    let found = row-met 0 (met root outside) (row_at path) e (omega arith) low in
    let o = met-stands root found.element found.among in
    let row : row_at (name o.element ∷ o.names) ≡ row_at path = sym (ap (λ (k : Named). k.row) o.is) ∙ found.row in
    record {
      element = o.element;
      names = o.names;
      stands = o.stands;
      is = one-path (name o.element ∷ o.names) path (λ h. let k = o.known in omega arith) row;
    }

-- 02, slip 3 (24): an element of a named path missing
pub missing : (root z : Element) (names : List (List ℕ)) (n : List ℕ) → Stands root z names → row_at (n ∷ name z ∷ names) < outside
    → ((x : Element) → Child x (holds z) → name x ≡ n → ⊥) → in_order 0 (met root outside) ≡ false
missing root z names n st low none =
    disorder (met root outside) λ e.
    let a = stands_at root (n ∷ name z ∷ names) e low in
    go e a.element a.names a.stands a.is
  where
    go : in_order 0 (met root outside) ≡ true → (x : Element) (a : List (List ℕ)) → Stands root x a
        → name x ∷ a ≡ n ∷ name z ∷ names → ⊥
    go e x a top path =
        let z : ◌≡◌ {A = List (List ℕ)} [] (name z ∷ names) = cc in
        let k : ◌≡◌ {A = ℕ} 0 1 = cc in
        omega arith
    go e x a (below {y = w} {names = ns} st' h) path =
        let around : ◌≡◌ {A = List (List ℕ)} (name w ∷ ns) (name z ∷ names) = cc in
        let own : name x ≡ n = cc in
        let known = subst (λ (p : List (List ℕ)). row_at p < outside) (sym around) (parent-known n (name z) names low) in
        let same = one_place root w z ns names e st' st around known in
        none x (subst (λ (p : Element). Child x (holds p)) same h) own

-- what stands at a row's path is met
pub at-met : (root : Element) (path : List (List ℕ)) (a : At root path) → row_at path < outside
    → Among (named_at a.element (row_at path)) (met root outside)
at-met root path a low =
    subst
    (λ (p : List (List ℕ)). row_at p < outside → Among (named_at a.element (row_at p)) (met root outside))
    a.is
    (met_holds root a.element a.names a.stands)
    low

-- the element of a row is the one that stands at its path
pub element-at : (root : Element) (path : List (List ℕ)) → in_order 0 (met root outside) ≡ true → row_at path < outside
    → (a : At root path) → element_at (met root outside) (row_at path) ≡ named_at a.element (row_at path)
element-at root path e low a =
    let r = row_at path in
    let none : r - 0 ≡ r = omega arith in
    let p = placed 0 (met root outside) (named_at a.element r) e (at-met root path a low) in
    ap (element_at (met root outside)) (sym none) ∙ p.there _

-- 02, slip 3 (24), as verdicts
module _ (root : Element) (time : ℕ) where
  pub other-root-24 : (name root ≡ text "LBFastCdtTrf" → ⊥) → judged time (met root outside) ≡ refused 24
  other-root-24 differs = judged-24 time (met root outside) (other-root root differs)

  pub text-holding-24 : (x y : Element) (names : List (List ℕ)) → Stands root x names → is_text_row (row_at (name x ∷ names)) ≡ true
      → Child y (holds x) → judged time (met root outside) ≡ refused 24
  text-holding-24 x y names st is h = judged-24 time (met root outside) (text-holding root x y names st is h)

  module _ (z : Element) (names : List (List ℕ)) (st : Stands root z names) where
    pub missing-24 : (n : List ℕ) → row_at (n ∷ name z ∷ names) < outside → ((x : Element) → Child x (holds z) → name x ≡ n → ⊥)
        → judged time (met root outside) ≡ refused 24
    missing-24 n low none = judged-24 time (met root outside) (missing root z names n st low none)

    pub twice-24 : (x y : Element) → Siblings x y (holds z) → name x ≡ name y → row_at (name x ∷ name z ∷ names) < outside
        → judged time (met root outside) ≡ refused 24
    twice-24 x y h same low = judged-24 time (met root outside) (twice root z x y names st h same low)

    pub misordered-24 : (x y : Element) → Siblings x y (holds z) → row_at (name x ∷ name z ∷ names) < outside
        → row_at (name y ∷ name z ∷ names) < row_at (name x ∷ name z ∷ names) → judged time (met root outside) ≡ refused 24
    misordered-24 x y h low less = judged-24 time (met root outside) (misordered root z x y names st h low less)
