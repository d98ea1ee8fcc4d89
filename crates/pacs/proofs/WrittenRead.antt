-- A text that is read is what the document writes, and the document is well formed.
--     written_frames    what stands before a place in a text, by the elements that are open there
--     RightFrames      open elements are right so far
--     Arrived          where the walk arrives, the root is what was written
--     started-writes   so it is from a tag on
--     walk-writes      and from any place on
--     when_true        a walk that is taken where a test passes
-- Assumes nothing.
use Prim.Native.Nat.{ℕ, zero, suc, ◌+◌, ◌≤◌, ◌<◌}
use mathlib.Core.Path.{◌≡◌, refl, ap, ap₂, sym, subst, ◌∙◌}
use mathlib.Core.Bool.{Bool, true, false, cond}
use mathlib.Core.List.{List, [], ◌∷◌, ◌++◌}
use native.Mathlib.Omega.{arith}
use borrow.Author.Tests.{ltb-true}
use lib.Dec.{eqb, ltb}
use lib.ListN.{length, take, drop, take-append-drop}
use lib.Seq.{drop-drop}
use Rattle.fields.specs.Text.{same}
use Rattle.fields.proofs.Tests.{and_left, and_right}
use Rattle.fields.proofs.Same.{same_true}
use Rattle.xml.specs.Bytes.{is_space, is_text, all_of, run, past}
use Rattle.xml.specs.Tree.{Element, self_closing, nesting}
use Rattle.xml.specs.Writing.{written_tag, written_end, written_element, written_content}
use Rattle.xml.specs.WellFormed.{right_tag, right_element, right_content, depth, depth_in, deepest}
use Rattle.xml.specs.Scanning.{first_byte, TagRead, no_tag, opens, closes, tag_of}
use Rattle.xml.proofs.Runs.{run_past, all-run, at_byte}
use Rattle.xml.proofs.Tags.{tag-opened, tag-closed}
use Rattle.pacs.specs.Named.{Named}
use Rattle.pacs.specs.Walk.{
  Piece,
  Frame,
  Walked,
  astray,
  arrived,
  Onward,
  content_of,
  holding,
  ended,
  is_end,
  from_space,
  ending,
  started,
  stepped,
  walk,
}

abbrev written_pieces : List Piece → List ℕ → List ℕ
written_pieces [] z = z
written_pieces (p ∷ more) z = p.text ++ written_element p.element (written_pieces more z)

abbrev pub written_frames : List Frame → List ℕ → List ℕ
written_frames [] z = z
written_frames (f ∷ fs) z = written_frames fs (f.before ++ (0x3c ∷ written_tag f.tag (0x3e ∷ written_pieces f.pieces z)))

-- nothing stands before the root, and text before every other element
abbrev pub Before : List Frame → List ℕ → Type 0
Before [] s = s ≡ []
Before (f ∷ fs) s = all_of is_text s ≡ true

-- at a depth, elements with the text before them
abbrev RightPieces : ℕ → List Piece → Type 0
RightPieces d [] = Unit
RightPieces d (p ∷ more) =
    record {
      text : all_of is_text p.text ≡ true;
      element : right_element p.element ≡ true;
      fits : d + depth p.element ≤ deepest;
      rest : RightPieces d more;
    }

abbrev pub RightFrames : List Frame → Type 0
RightFrames [] = Unit
RightFrames (f ∷ fs) =
    record {
      before : Before fs f.before;
      tag : right_tag f.tag ≡ true;
      fits : length fs < deepest;
      pieces : RightPieces (suc (length fs)) f.pieces;
      rest : RightFrames fs;
    }

pieces_more : (ps : List Piece) (p : Piece) (z : List ℕ)
    → written_pieces (ps ++ (p ∷ [])) z ≡ written_pieces ps (p.text ++ written_element p.element z)
pieces_more [] p z = refl
pieces_more (q ∷ more) p z = ap (λ (x : List ℕ). q.text ++ written_element q.element x) (pieces_more more p z)

pieces-right : (d : ℕ) (ps : List Piece) (p : Piece) → RightPieces d ps → all_of is_text p.text ≡ true
    → right_element p.element ≡ true → d + depth p.element ≤ deepest → RightPieces d (ps ++ (p ∷ []))
pieces-right d [] p r s e fits = record { text = s; element = e; fits = fits; rest = tt }
pieces-right d (q ∷ more) p r s e fits =
    record { text = r.text; element = r.element; fits = r.fits; rest = pieces-right d more p r.rest s e fits }

content-written : (ps : List Piece) (s z : List ℕ) → written_content (content_of ps s) z ≡ written_pieces ps (s ++ z)
content-written [] s z = refl
content-written (p ∷ more) s z =
    ap (λ (x : List ℕ). p.text ++ written_element p.element x) (content-written more s z)

content-right : (d : ℕ) (ps : List Piece) (s : List ℕ) → RightPieces d ps → all_of is_text s ≡ true
    → right_content (content_of ps s) ≡ true
content-right d [] s r h = h
content-right d (p ∷ more) s r h = rw (r.text, r.element, content-right d more s r.rest h)

content-deep : (d : ℕ) (ps : List Piece) (s : List ℕ) → RightPieces d ps → d ≤ deepest → d + depth_in (content_of ps s) ≤ deepest
content-deep d [] s r h = omega arith
content-deep d (p ∷ more) s r h =
    let below = content-deep d more s r.rest h in
    let here = r.fits in
    omega arith

-- what a walk to a root is
abbrev pub Arrived : List ℕ → Walked → Type 0
Arrived t astray = Unit
Arrived t (arrived e seen z) = (written_element e z ≡ t) × (right_element e ≡ true) × (depth e ≤ deepest)

abbrev Holding : Onward → Type 0
Holding onward = (fs : List Frame) (seen : List Named) (t z : List ℕ) → RightFrames fs → written_frames fs z ≡ t
    → Arrived t (onward fs seen z)

ended-writes : (onward : Onward) → Holding onward → (fs : List Frame) (s : List ℕ) (e : Element) (seen : List Named) (t z : List ℕ)
    → RightFrames fs → Before fs s → right_element e ≡ true → length fs + depth e ≤ deepest
    → written_frames fs (s ++ written_element e z) ≡ t
    → Arrived t (ended onward fs s e seen z)
ended-writes onward holds [] s e seen t z r b h d w =
    (subst (λ (x : List ℕ). x ++ written_element e z ≡ t) b w, h, omega arith)
ended-writes onward holds (f ∷ fs) s e seen t z r b h d w =
    holds
    (holding f s e ∷ fs)
    seen
    t
    z
    (record {
      before = r.before;
      tag = r.tag;
      fits = r.fits;
      pieces = pieces-right (suc (length fs)) f.pieces (record { text = s; element = e }) r.pieces b h d;
      rest = r.rest;
    })
    (ap
    (λ (x : List ℕ). written_frames fs (f.before ++ (0x3c ∷ written_tag f.tag (0x3e ∷ x))))
    (pieces_more f.pieces (record { text = s; element = e }) z)
    ∙ w)

pub when_true : (t : List ℕ) (b : Bool) (w : Walked) → (b ≡ true → Arrived t w) → Arrived t (cond b w astray)
when_true t true w f = f refl
when_true t false w f = tt

-- a tag whose form is due next
end_of : (name z : List ℕ) → is_end name z ≡ true
    → name ++ (run is_space (from_space name z) ++ (0x3e ∷ drop 1 (past is_space (from_space name z)))) ≡ z
end_of name z h =
    let rest = from_space name z in
    let named = same_true (take (length name) z) name (and_left _ (eqb (first_byte (past is_space rest)) 0x3e) h) in
    let closed = at_byte (past is_space rest) 0x3e refl (and_right (same (take (length name) z) name) _ h) in
    ap₂ ◌++◌ (sym named) (ap (λ (x : List ℕ). run is_space rest ++ x) closed ∙ run_past is_space rest)
    ∙ take-append-drop (length name) z

ending-writes : (onward : Onward) → Holding onward → (f : Frame) (fs : List Frame) (s : List ℕ) (seen : List Named) (t z : List ℕ)
    → RightFrames (f ∷ fs) → all_of is_text s ≡ true → written_frames (f ∷ fs) (s ++ (0x3c ∷ 0x2f ∷ z)) ≡ t
    → Arrived t (ending onward f fs s seen z)
ending-writes onward holds f fs s seen t z r hs w =
    when_true t (is_end name z) _ λ h.
    ended-writes
    onward
    holds
    fs
    f.before
    (nesting f.tag (content_of f.pieces s) sp)
    seen
    t
    behind
    r.rest
    r.before
    (rw (r.tag, content-right (suc (length fs)) f.pieces s r.pieces hs, all-run is_space rest))
    (let d = content-deep (suc (length fs)) f.pieces s r.pieces r.fits in omega arith)
    (ap
    (λ (x : List ℕ). written_frames fs (f.before ++ (0x3c ∷ written_tag f.tag (0x3e ∷ x))))
    (content-written f.pieces s (written_end name sp behind)
    ∙ ap (λ (x : List ℕ). written_pieces f.pieces (s ++ (0x3c ∷ 0x2f ∷ x))) (end_of name z h))
    ∙ w)
  where
    name : List ℕ
    name = f.tag.name

    rest : List ℕ
    rest = from_space name z

    sp : List ℕ
    sp = run is_space rest

    behind : List ℕ
    behind = drop 1 (past is_space rest)

pub started-writes : (onward : Onward) → Holding onward → (fs : List Frame) (parent : ℕ) (s : List ℕ) (seen : List Named) (t z : List ℕ)
    → RightFrames fs → Before fs s → written_frames fs (s ++ (0x3c ∷ z)) ≡ t
    → Arrived t (started onward fs parent s seen (tag_of z))
started-writes onward holds fs parent s seen t z r b w = go (tag_of z) refl
  where
    go : (k : TagRead) → tag_of z ≡ k → Arrived t (started onward fs parent s seen k)
    go no_tag e = tt
    go (opens u y) e =
        let read = tag-opened z u y e in
        when_true t (ltb (length fs) deepest) _ λ h.
        holds
        _
        _
        t
        y
        (record { before = b; tag = read.1; fits = ltb-true (length fs) deepest h; pieces = tt; rest = r })
        (ap (λ (x : List ℕ). written_frames fs (s ++ (0x3c ∷ x))) read.0 ∙ w)
    go (closes u y) e =
        let read = tag-closed z u y e in
        when_true t (ltb (length fs) deepest) _ λ h.
        let fits = ltb-true (length fs) deepest h in
        ended-writes
        onward
        holds
        fs
        s
        (self_closing u)
        _
        t
        y
        r
        b
        read.1
        (omega arith)
        (ap (λ (x : List ℕ). written_frames fs (s ++ (0x3c ∷ x))) read.0 ∙ w)

stepped-writes : (onward : Onward) → Holding onward → (f : Frame) (fs : List Frame) (seen : List Named) (s t z : List ℕ)
    → RightFrames (f ∷ fs) → all_of is_text s ≡ true → written_frames (f ∷ fs) (s ++ z) ≡ t
    → Arrived t (stepped onward f fs seen s z)
stepped-writes onward holds f fs seen s t z r hs w = when_true t (eqb (first_byte z) 0x3c) _ λ h. go (eqb (first_byte (drop 1 z)) 0x2f) refl h
  where
    go : (k : Bool) → eqb (first_byte (drop 1 z)) 0x2f ≡ k → eqb (first_byte z) 0x3c ≡ true
        → Arrived t (cond k (ending onward f fs s seen (drop 2 z)) (started onward (f ∷ fs) f.row s seen (tag_of (drop 1 z))))
    go true e h =
        ending-writes
        onward
        holds
        f
        fs
        s
        seen
        t
        (drop 2 z)
        r
        hs
        (ap
        (λ (x : List ℕ). written_frames (f ∷ fs) (s ++ x))
        (ap (λ (x : List ℕ). 0x3c ∷ 0x2f ∷ x) (sym (drop-drop 1 1 z))
        ∙ ap (λ (x : List ℕ). 0x3c ∷ x) (at_byte (drop 1 z) 0x2f refl e)
        ∙ at_byte z 0x3c refl h)
        ∙ w)
    go false e h =
        started-writes
        onward
        holds
        (f ∷ fs)
        f.row
        s
        seen
        t
        (drop 1 z)
        r
        hs
        (ap (λ (x : List ℕ). written_frames (f ∷ fs) (s ++ x)) (at_byte z 0x3c refl h) ∙ w)

pub walk-writes : (n : ℕ) → Holding (walk n)
walk-writes zero fs seen t z r w = tt
walk-writes (suc n) [] seen t z r w = tt
walk-writes (suc n) (f ∷ fs) seen t z r w =
    stepped-writes
    (walk n)
    (walk-writes n)
    f
    fs
    seen
    (run is_text z)
    t
    (past is_text z)
    r
    (all-run is_text z)
    (ap (λ (x : List ℕ). written_frames (f ∷ fs) x) (run_past is_text z) ∙ w)
