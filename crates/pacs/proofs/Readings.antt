-- What is found in a text, and its readings.
--     written_read    a document that is found is well formed and writes the text
--     found-reading   so a text in which a document is found has a reading
--     reading-found   a text that has a reading is read as that document, with the named elements in it
--     one-reading     two readings of a text are the same document, with all white space
-- Assumes nothing.
use Prim.Native.Nat.{ℕ}
use mathlib.Core.Path.{◌≡◌, refl, ap, sym, subst, ◌∙◌}
use mathlib.Core.Bool.{Bool, true, false, ◌&&◌, cond}
use mathlib.Core.List.{List, [], ◌∷◌, ◌++◌}
use borrow.Author.Tests.{le-leb}
use lib.Dec.{eqb, leb}
use lib.ListN.{length, take, drop, take-append-drop}
use lib.Seq.{drop-drop}
use Rattle.fields.specs.Text.{text, same}
use Rattle.fields.proofs.Tests.{and_left, and_right}
use Rattle.fields.proofs.Same.{same_true}
use Rattle.xml.specs.Bytes.{is_space, all_of, run, past}
use Rattle.xml.specs.Tree.{Prolog, undeclared, declared, Document}
use Rattle.xml.specs.Writing.{written_attributes, written_prolog, written}
use Rattle.xml.specs.WellFormed.{declares, right_prolog, depth, deepest, longest, well_formed, Reading}
use Rattle.xml.specs.Scanning.{first_byte, Attributed, misread, attributed, attributes_of}
use Rattle.xml.proofs.Runs.{run_past, all-run, at_byte}
use Rattle.xml.proofs.Attributes.{attributes_of-written}
use Rattle.pacs.specs.Named.{Named, met, outside}
use Rattle.pacs.specs.Walk.{
  Walked,
  astray,
  arrived,
  walk,
  root_walked,
  Found,
  unread,
  read_as,
  closed,
  behind_prolog,
  declared_by,
  found,
}
use Rattle.pacs.proofs.ReadRoot.{read-written}
use Rattle.pacs.proofs.WrittenRead.{Arrived, when_true, started-writes, walk-writes}

root-writes : (z : List ℕ) → Arrived z (root_walked z)
root-writes z =
    when_true z (eqb (first_byte z) 0x3c) _ λ h.
    started-writes (walk (length z)) (walk-writes (length z)) [] outside [] [] z (drop 1 z) tt refl (at_byte z 0x3c refl h)

abbrev FoundIn : List ℕ → Found → Type 0
FoundIn t unread = Unit
FoundIn t (read_as d seen) = (written d ≡ t) × (well_formed d ≡ true)

where-true : (t : List ℕ) (b : Bool) (w : Found) → (b ≡ true → FoundIn t w) → FoundIn t (cond b w unread)
where-true t true w f = f refl
where-true t false w f = tt

closed-writes : (t : List ℕ) (p : Prolog) (s z : List ℕ) (w : Walked) → Arrived z w → right_prolog p ≡ true
    → all_of is_space s ≡ true → written_prolog p (s ++ z) ≡ t → FoundIn t (closed p s w)
closed-writes t p s z astray a hp hs e = tt
closed-writes t p s z (arrived root seen behind) a hp hs e =
    where-true t (all_of is_space behind) _ λ h.
    (ap (λ (x : List ℕ). written_prolog p (s ++ x)) a.0 ∙ e, rw (hp, hs, a.1, h, le-leb (depth root) deepest a.2))

prolog-writes : (t : List ℕ) (p : Prolog) (z : List ℕ) → right_prolog p ≡ true → written_prolog p z ≡ t → FoundIn t (behind_prolog p z)
prolog-writes t p z hp e =
    closed-writes
    t
    p
    (run is_space z)
    (past is_space z)
    (root_walked (past is_space z))
    (root-writes (past is_space z))
    hp
    (all-run is_space z)
    (ap (written_prolog p) (run_past is_space z) ∙ e)

declared-writes : (t z : List ℕ) → text "<?xml" ++ z ≡ t → FoundIn t (declared_by (attributes_of z))
declared-writes t z e = go (attributes_of z) refl
  where
    go : (k : Attributed) → attributes_of z ≡ k → FoundIn t (declared_by k)
    go misread h = tt
    go (attributed more s y) h =
        let read = attributes_of-written z more s y h in
        where-true t (declares more && eqb (first_byte y) 0x3f && eqb (first_byte (drop 1 y)) 0x3e) _ λ b.
        let front = and_left (declares more && eqb (first_byte y) 0x3f) (eqb (first_byte (drop 1 y)) 0x3e) b in
        let last = and_right (declares more && eqb (first_byte y) 0x3f) (eqb (first_byte (drop 1 y)) 0x3e) b in
        let first = and_right (declares more) (eqb (first_byte y) 0x3f) front in
        let ending : ◌≡◌ {A = List ℕ} (0x3f ∷ 0x3e ∷ drop 2 y) y =
        ap (λ (x : List ℕ). 0x3f ∷ 0x3e ∷ x) (sym (drop-drop 1 1 y))
        ∙ ap (λ (x : List ℕ). 0x3f ∷ x) (at_byte (drop 1 y) 0x3e refl last)
        ∙ at_byte y 0x3f refl first
        in
        prolog-writes
        t
        (declared more s)
        (drop 2 y)
        (rw (and_left (declares more) (eqb (first_byte y) 0x3f) front, read.1, read.2))
        (ap (λ (x : List ℕ). text "<?xml" ++ written_attributes more (s ++ x)) ending ∙ ap (text "<?xml" ++◌) read.0 ∙ e)

found-writes : (t : List ℕ) → FoundIn t (found t)
unfolding found
found-writes t =
    where-true t (leb (length t) longest) _ λ h. go (same (take 5 t) (text "<?xml")) refl
  where
    go : (k : Bool) → same (take 5 t) (text "<?xml") ≡ k
        → FoundIn t (cond k (declared_by (attributes_of (drop 5 t))) (behind_prolog undeclared t))
    go true e =
        declared-writes t (drop 5 t) (ap (◌++ drop 5 t) (sym (same_true (take 5 t) (text "<?xml") e)) ∙ take-append-drop 5 t)
    go false e = prolog-writes t undeclared t refl refl

fits-where : (b : Bool) (w : Found) (d : Document) (seen : List Named) → cond b w unread ≡ read_as d seen → b ≡ true
fits-where true w d seen e = refl
fits-where false w d seen e = cc

found-fits : (t : List ℕ) (d : Document) (seen : List Named) → found t ≡ read_as d seen → leb (length t) longest ≡ true
unfolding found
found-fits t d seen e = fits-where (leb (length t) longest) _ d seen e

pub written_read : (t : List ℕ) (d : Document) (seen : List Named) → found t ≡ read_as d seen
    → (written d ≡ t) × (well_formed d ≡ true) × (leb (length t) longest ≡ true)
written_read t d seen e =
    let writes = subst (FoundIn t) e (found-writes t) in
    (writes.0, writes.1, found-fits t d seen e)

pub reading-found : (t : List ℕ) (r : Reading t) → found t ≡ read_as r.document (met r.document.root outside)
reading-found t r =
    subst
    (λ (x : List ℕ). leb (length x) longest ≡ true → found x ≡ read_as r.document (met r.document.root outside))
    r.writes
    (read-written r.document r.formed)
    r.fits

pub found-reading : (t : List ℕ) (d : Document) (seen : List Named) → found t ≡ read_as d seen → Reading t
found-reading t d seen e =
    let w = written_read t d seen e in
    record { document = d; formed = w.1; writes = w.0; fits = w.2 }

-- 02, slip 3: exactly one reading fits an accepted text
pub one-reading : (t : List ℕ) (r q : Reading t) → r.document ≡ q.document
one-reading t r q = let a = reading-found t r in let b = reading-found t q in cc
