-- The walk through what a well-formed element writes: it meets the named elements, and goes on behind the element.
--     fuel_for           the turns that an element takes, before n more
--     closes-started    a self-closing tag in open elements
--     opens-started     a start tag
--     element-walked    an element in an open one
--     content-walked    what an open element holds, and its end tag
-- Assumes nothing.
use Prim.Native.Nat.{ℕ, suc, ◌+◌, ◌≤◌, ◌<◌}
use mathlib.Core.Path.{◌≡◌, refl, ap, ap₂, sym, ◌∙◌}
use mathlib.Core.Bool.{Bool, true, false}
use mathlib.Core.List.{List, [], ◌∷◌, ◌++◌, append_assoc, append-nil}
use native.Mathlib.Omega.{arith}
use borrow.Author.Tests.{lt-ltb, eqb-true}
use lib.Dec.{eqb}
use lib.ListN.{length}
use lib.Seq.{take-append_seam, drop-append_seam}
use Rattle.fields.proofs.Tests.{never}
use Rattle.fields.proofs.Same.{same_refl}
use Rattle.xml.specs.Bytes.{is_space, is_first, is_text, all_of, run}
use Rattle.xml.specs.Tree.{Tag, Element, self_closing, nesting, Content, last_text, text_then}
use Rattle.xml.specs.Writing.{written_tag, written_end, written_element, written_content}
use Rattle.xml.specs.WellFormed.{right_tag, right_element, right_content, depth, depth_in, deepest}
use Rattle.xml.specs.Scanning.{first_byte, tag_of}
use Rattle.xml.proofs.Runs.{run_of, past_of, less-no-text, greater-no-space, slash-no-first, first-of-name}
use Rattle.xml.proofs.Tags.{tag-opens, tag-closes}
use Rattle.xml.proofs.Parts.{
  tag-name,
  nesting-tag,
  nesting-content,
  nesting-space,
  content-text,
  content-element,
  content-rest,
}
use Rattle.pacs.specs.Named.{Named, named, row_of, leading_text, is_plain, met, met_in}
use Rattle.pacs.specs.Walk.{Piece, Frame, Onward, content_of, holding, ended, ending, end_follows, started, stepped, walk}

abbrev mutual
  pub fuel_for : Element → ℕ → ℕ
  fuel_for (self_closing t) n = suc n
  fuel_for (nesting t c s) n = suc (fuel_in c n)

  pub fuel_in : Content → ℕ → ℕ
  fuel_in (last_text s) n = suc n
  fuel_in (text_then s e c) n = fuel_for e (fuel_in c n)

-- what is held already, before the rest
abbrev content_from : List Piece → Content → Content
content_from [] c = c
content_from (p ∷ more) c = text_then p.text p.element (content_from more c)

content-last : (ps : List Piece) (s : List ℕ) → content_from ps (last_text s) ≡ content_of ps s
content-last [] s = refl
content-last (p ∷ more) s = ap (text_then p.text p.element) (content-last more s)

content-more : (ps : List Piece) (p : Piece) (c : Content)
    → content_from (ps ++ (p ∷ [])) c ≡ content_from ps (text_then p.text p.element c)
content-more [] p c = refl
content-more (q ∷ more) p c = ap (text_then q.text q.element) (content-more more p c)

-- a name doesn't begin as an end tag does
first-no-slash : (b : ℕ) → is_first b ≡ true → eqb b 0x2f ≡ false
first-no-slash b h = go (eqb b 0x2f) refl
  where
    go : (k : Bool) → eqb b 0x2f ≡ k → k ≡ false
    go true e = never (sym h ∙ ap is_first (eqb-true b 0x2f e) ∙ slash-no-first)
    go false e = refl

name-no-slash : (t : Tag) (z : List ℕ) → right_tag t ≡ true → eqb (first_byte (written_tag t z)) 0x2f ≡ false
name-no-slash t z h = first-no-slash _ (first-of-name t.name _ (tag-name t h))

leading-run : (c : Content) (name s z : List ℕ) → right_content c ≡ true
    → run is_text (written_content c (written_end name s z)) ≡ leading_text c
leading-run (last_text t) name s z h = run_of is_text t 0x3c _ h less-no-text
leading-run (text_then t (self_closing u) c) name s z h =
    run_of is_text t 0x3c _ (content-text t (self_closing u) c h) less-no-text
leading-run (text_then t (nesting u d v) c) name s z h =
    run_of is_text t 0x3c _ (content-text t (nesting u d v) c h) less-no-text

end-follows : (c : Content) (name s z : List ℕ) → right_content c ≡ true
    → end_follows (written_content c (written_end name s z)) ≡ is_plain c
end-follows (last_text t) name s z h = rw (past_of is_text t 0x3c _ h less-no-text)
end-follows (text_then t (self_closing u) c) name s z h =
    rw (past_of is_text t 0x3c _ (content-text t (self_closing u) c h) less-no-text)
    (name-no-slash u _ (content-element t (self_closing u) c h))
end-follows (text_then t (nesting u d v) c) name s z h =
    rw (past_of is_text t 0x3c _ (content-text t (nesting u d v) c h) less-no-text)
    (name-no-slash u _ (nesting-tag u d v (content-element t (nesting u d v) c h)))

ending-read : (onward : Onward) (f : Frame) (fs : List Frame) (s : List ℕ) (seen : List Named) (sp z : List ℕ)
    → all_of is_space sp ≡ true
    → ending onward f fs s seen (f.tag.name ++ (sp ++ (0x3e ∷ z)))
    ≡ ended onward fs f.before (nesting f.tag (content_of f.pieces s) sp) seen z
ending-read onward f fs s seen sp z h =
    simp (
      take-append_seam f.tag.name (sp ++ (0x3e ∷ z)),
      drop-append_seam f.tag.name (sp ++ (0x3e ∷ z)),
      same_refl f.tag.name,
      run_of is_space sp 0x3e z h greater-no-space,
      past_of is_space sp 0x3e z h greater-no-space,
    )

text-walked : (n : ℕ) (f : Frame) (fs : List Frame) (seen : List Named) (s z : List ℕ) → all_of is_text s ≡ true
    → walk (suc n) (f ∷ fs) seen (s ++ (0x3c ∷ z)) ≡ stepped (walk n) f fs seen s (0x3c ∷ z)
text-walked n f fs seen s z h =
    ap₂ (stepped (walk n) f fs seen) (run_of is_text s 0x3c z h less-no-text) (past_of is_text s 0x3c z h less-no-text)

pub closes-started : (onward : Onward) (fs : List Frame) (parent : ℕ) (s : List ℕ) (seen : List Named) (t : Tag) (z : List ℕ)
    → right_tag t ≡ true → length fs < deepest
    → started onward fs parent s seen (tag_of (written_tag t (0x2f ∷ 0x3e ∷ z)))
    ≡ ended onward fs s (self_closing t) (seen ++ met (self_closing t) parent) z
closes-started onward fs parent s seen t z h d = rw (tag-closes t z h, lt-ltb (length fs) deepest d)

pub opens-started : (onward : Onward) (fs : List Frame) (parent : ℕ) (s : List ℕ) (seen : List Named) (t : Tag) (c : Content)
    (sp z : List ℕ) → right_element (nesting t c sp) ≡ true → length fs < deepest
    → started onward fs parent s seen (tag_of (written_tag t (0x3e ∷ written_content c (written_end t.name sp z))))
    ≡ onward
    (record { before = s; tag = t; row = row_of parent t.name; pieces = [] } ∷ fs)
    (seen ++ named (row_of parent t.name) t (leading_text c) (is_plain c))
    (written_content c (written_end t.name sp z))
opens-started onward fs parent s seen t c sp z h d =
    let hc = nesting-content t c sp h in
    rw (
      tag-opens t _ (nesting-tag t c sp h),
      lt-ltb (length fs) deepest d,
      leading-run c t.name sp z hc,
      end-follows c t.name sp z hc,
    )

mutual
  pub element-walked : (e : Element) (n : ℕ) (f : Frame) (fs : List Frame) (seen : List Named) (s z : List ℕ)
      → all_of is_text s ≡ true → right_element e ≡ true → suc (length fs) + depth e ≤ deepest
      → walk (fuel_for e n) (f ∷ fs) seen (s ++ written_element e z)
      ≡ walk n (holding f s e ∷ fs) (seen ++ met e f.row) z
  element-walked (self_closing t) n f fs seen s z hs h d =
      text-walked n f fs seen s _ hs
      ∙ rw (name-no-slash t (0x2f ∷ 0x3e ∷ z) h) (closes-started (walk n) (f ∷ fs) f.row s seen t z h (omega arith))
  element-walked (nesting t c sp) n f fs seen s z hs h d =
      text-walked (fuel_in c n) f fs seen s _ hs
      ∙ rw
      (name-no-slash t (0x3e ∷ written_content c (written_end t.name sp z)) (nesting-tag t c sp h))
      (opens-started (walk (fuel_in c n)) (f ∷ fs) f.row s seen t c sp z h (omega arith)
      ∙ content-walked
      c
      n
      (record { before = s; tag = t; row = row_of f.row t.name; pieces = [] })
      (f ∷ fs)
      _
      sp
      z
      (nesting-content t c sp h)
      (nesting-space t c sp h)
      (omega arith)
      ∙ rw (append_assoc seen))

  pub content-walked : (c : Content) (n : ℕ) (f : Frame) (fs : List Frame) (seen : List Named) (sp z : List ℕ)
      → right_content c ≡ true → all_of is_space sp ≡ true → suc (length fs) + depth_in c ≤ deepest
      → walk (fuel_in c n) (f ∷ fs) seen (written_content c (written_end f.tag.name sp z))
      ≡ ended (walk n) fs f.before (nesting f.tag (content_from f.pieces c) sp) (seen ++ met_in c f.row) z
  content-walked (last_text s) n f fs seen sp z h hsp d =
      text-walked n f fs seen s _ h
      ∙ ending-read (walk n) f fs s seen sp z hsp
      ∙ rw (content-last f.pieces s, append-nil seen)
  content-walked (text_then s e c) n f fs seen sp z h hsp d =
      element-walked
      e
      (fuel_in c n)
      f
      fs
      seen
      s
      _
      (content-text s e c h)
      (content-element s e c h)
      (omega arith)
      ∙ content-walked c n (holding f s e) fs (seen ++ met e f.row) sp z (content-rest s e c h) hsp (omega arith)
      ∙ rw (content-more f.pieces (record { text = s; element = e }) c, append_assoc seen)
