-- One turn of the reader: from where it stands, by the bytes that stand there.
--     none-placed, going-placed              the texts that are kept stand at their places: before any is met, and after a turn
--     turned                                 the innermost open element, and the others
--     TagOf, opens_of, closes-of             a tag that was read has the name and the attributes that were read
--     no-tag, no_end, no_name                the walk goes astray
--     not-tag, too-deep                      and so it does
--     going-ends, going-opens, going-closes  it goes on behind an end tag, in an element, behind a self-closing one
--     root-no-tag, root-no-name              no root
--     root-not-tag                           nor here
--     root-closes, root-opens                a root without content, and one with it
--     going-arrives, placed-arrives          the root's end, and the texts that are kept stand at their places there
-- Assumes nothing.
use Prim.Native.Nat.{ℕ, zero, suc, ◌+◌, ◌-◌, ◌≤◌, ◌<◌}
use mathlib.Core.Path.{◌≡◌, refl, ap, ap₂, sym, subst, ◌∙◌}
use mathlib.Core.Bool.{Bool, true, false, ◌&&◌, cond}
use mathlib.Core.List.{List, [], ◌∷◌, ◌++◌}
use mathlib.Core.Logic.{inl, inr}
use native.Mathlib.Omega.{arith}
use borrow.Author.Tests.{lt-ltb, le-ltb, eq-eqb, ne_eqb}
use lib.Dec.{eqb}
use lib.ListN.{length, get_or, take, drop, set, length-drop}
use lib.Seq.{drop-drop, get_or-set_same, get_or-set_other}
use Rattle.std.specs.Prelude.{Option, Some, None}
use Rattle.xml.specs.Bytes.{is_space, is_first, is_name, is_text, run_length, run, past}
use Rattle.xml.specs.Tree.{Tag, Element, self_closing, nesting}
use Rattle.xml.specs.WellFormed.{distinct, deepest}
use Rattle.xml.specs.Scanning.{
  first_byte,
  Attributed,
  misread,
  attributed,
  attributes_of,
  TagRead,
  no_tag,
  opens,
  closes,
  tag_ending,
  tag_behind,
  tag_of,
}
use Rattle.xml.proofs.Places.{first-at, byte-within}
use Rattle.pacs.specs.declared.notes.Notes.{Notes}
use Rattle.pacs.specs.declared.open.Open.{Open}
use Rattle.pacs.specs.declared.refusals.Refused.{Refused}
use Rattle.pacs.specs.Named.{Named, named, row_of, outside}
use Rattle.pacs.specs.Kept.{placed_text, Kept, KeptPlaced}
use Rattle.pacs.specs.Wrongs.{role_number}
use Rattle.pacs.specs.Walk.{
  Frame,
  Onward,
  astray,
  arrived,
  content_of,
  holding,
  ended,
  is_end,
  from_space,
  ending,
  end_follows,
  started,
  stepped,
  walk,
  root_walked,
}
use Rattle.pacs.specs.Going.{StackedAt, Stacked, Walking, Going, GoingPlaced}

pub none-placed : (t : List ℕ) (kept : Notes) → Kept [] kept → KeptPlaced t kept
none-placed t kept (inl right) e =
    record { rows = right.rows; stand = λ r h x blank. let d = right.due in absurd (omega arith) }
none-placed t kept (inr wrong) e =
    let z : ◌≡◌ {A = Option Refused} None (Some wrong.refused) = sym e ∙ wrong.fault in cc

pub going-placed : {t : List ℕ} {start at depth at' depth' : ℕ} {stack stack' : List Open} {kept kept' : Notes}
    → GoingPlaced t start at depth stack kept
    → Going t start at' depth' stack' kept'
    → (KeptPlaced t kept → KeptPlaced t kept')
    → GoingPlaced t start at' depth' stack' kept'
going-placed before going stays = record { going = going; placed = stays before.placed }

-- a name between its places
name-placed : (t : List ℕ) (q : ℕ) {behind : ℕ} → behind ≡ q + run_length is_name (drop q t)
    → run is_name (drop q t) ≡ placed_text t q behind
name-placed t q {behind} e =
    let k : behind - q ≡ run_length is_name (drop q t) = omega arith in
    ap (λ (n : ℕ). take n (drop q t)) (sym k)

-- what is read of a tag behind its name
tag-behind : (t : List ℕ) (q : ℕ) {behind : ℕ} → behind ≡ q + run_length is_name (drop q t) → is_first (get_or t q 0) ≡ true
    → tag_of (drop q t) ≡ tag_behind (run is_name (drop q t)) (attributes_of (drop behind t))
unfolding tag_of
tag-behind t q e h =
    rw (first-at t q, h, drop-drop (run_length is_name (drop q t)) q t, e)

no-tag-behind : (t : List ℕ) (q : ℕ) → is_first (get_or t q 0) ≡ false → tag_of (drop q t) ≡ no_tag
unfolding tag_of
no-tag-behind t q h = rw (first-at t q, h)

started-deep : (onward : Onward) (fs : List Frame) (parent : ℕ) (s : List ℕ) (seen : List Named) (r : TagRead) → deepest ≤ length fs
    → started onward fs parent s seen r ≡ astray
started-deep onward fs parent s seen no_tag h = refl
started-deep onward fs parent s seen (opens u z) h = rw (le-ltb (length fs) deepest h)
started-deep onward fs parent s seen (closes u z) h = rw (le-ltb (length fs) deepest h)

-- open elements and what stands behind the last of them, where the reader has not come to the root's end
abbrev Turning : List ℕ → ℕ → ℕ → ℕ → List Open → List Named → Type 0 → Type 0
Turning t start at depth stack seen R = (f : Frame) (fs : List Frame) (n : ℕ) → depth ≡ suc (length fs)
    → length (drop at t) < suc n → root_walked (drop start t) ≡ walk (suc n) (f ∷ fs) seen (drop at t)
    → StackedAt f (length fs) stack → Stacked fs stack → R

pub turned : {R : Type 0} {t : List ℕ} {start at depth : ℕ} {stack : List Open} {kept : Notes}
    (g : Going t start at depth stack kept) → 0 < depth → Turning t start at depth stack g.seen R → R
turned {R} {t} {start} {at} {depth} {stack} g pos k =
    go g.frames g.fuel g.deep g.enough g.walking g.stacked
  where
    go : (fs : List Frame) (n : ℕ) → depth ≡ length fs → length (drop at t) < n → Walking t start n fs g.seen at
        → Stacked fs stack → R
    go [] n d e w s = absurd (omega arith)
    go (f ∷ fs) zero d e w s = absurd (omega arith)
    go (f ∷ fs) (suc n) d e w s = k f fs n d e w s.top s.rest

-- a tag that was read has the name and the attributes that were read
pub record TagOf (name : List ℕ) (a : Attributed) (u : Tag) : Type 0 where
  pub space : List ℕ
  pub rest : List ℕ
  pub named : u.name ≡ name
  pub attributes : a ≡ attributed u.attributes space rest

abbrev TagFrom : List ℕ → Attributed → TagRead → Type 0
TagFrom name a no_tag = Unit
TagFrom name a (opens u z) = TagOf name a u
TagFrom name a (closes u z) = TagOf name a u

cond-from : (name : List ℕ) (a : Attributed) (b : Bool) (x y : TagRead) → TagFrom name a x → TagFrom name a y → TagFrom name a (cond b x y)
cond-from name a true x y p q = p
cond-from name a false x y p q = q

tag-from : (name : List ℕ) (a : Attributed) → TagFrom name a (tag_behind name a)
tag-from name misread = tt
tag-from name (attributed more space z) =
    let a = attributed more space z in
    let u : Tag = record { name = name; attributes = more; space = space } in
    let of : TagOf name a u = record { space = space; rest = z; named = refl; attributes = refl } in
    let self = eqb (first_byte z) 0x2f && eqb (first_byte (drop 1 z)) 0x3e in
    let closing : TagFrom name a (cond self (closes u (drop 2 z)) no_tag) =
    cond-from name a self (closes u (drop 2 z)) no_tag of tt
    in
    let ending : TagFrom name a (tag_ending u z) =
    cond-from name a (eqb (first_byte z) 0x3e) (opens u (drop 1 z)) (cond self (closes u (drop 2 z)) no_tag) of closing
    in
    cond-from name a (distinct more) (tag_ending u z) no_tag ending tt

pub opens_of : (name : List ℕ) (a : Attributed) (u : Tag) (z : List ℕ) → tag_behind name a ≡ opens u z → TagOf name a u
opens_of name a u z e = subst (TagFrom name a) e (tag-from name a)

pub closes-of : (name : List ℕ) (a : Attributed) (u : Tag) (z : List ℕ) → tag_behind name a ≡ closes u z → TagOf name a u
closes-of name a u z e = subst (TagFrom name a) e (tag-from name a)

-- the elements that are open once one has ended
abbrev after : List Frame → List ℕ → Element → List Frame
after [] s e = []
after (f ∷ fs) s e = holding f s e ∷ fs

after-length : (fs : List Frame) (s : List ℕ) (e : Element) → length (after fs s e) ≡ length fs
after-length [] s e = refl
after-length (f ∷ fs) s e = refl

after-walking : (t : List ℕ) (start n : ℕ) (fs : List Frame) (s : List ℕ) (e : Element) (seen : List Named) (at : ℕ)
    → root_walked (drop start t) ≡ ended (walk n) fs s e seen (drop at t) → Walking t start n (after fs s e) seen at
after-walking t start n [] s e seen at h = (e, h)
after-walking t start n (f ∷ fs) s e seen at h = h

after-stacked : (fs : List Frame) (s : List ℕ) (e : Element) (stack : List Open) → Stacked fs stack → Stacked (after fs s e) stack
after-stacked [] s e stack h = tt
after-stacked (f ∷ fs) s e stack h = record { top = record { name = h.top.name; row = h.top.row }; rest = h.rest }

-- an element more on the stack leaves the others
set-stacked : (fs : List Frame) (stack : List Open) (i : ℕ) (o : Open) → length fs ≤ i → Stacked fs stack → Stacked fs (set stack i o)
set-stacked [] stack i o h s = tt
set-stacked (f ∷ fs) stack i o h s =
    let other : length fs ≡ i → ⊥ = λ e. omega arith in
    record {
      top =
          record {
            name =
                λ none. s.top.name none ∙ ap (λ (x : Open). x.name.now) (sym (get_or-set_other stack i (length fs) o none other));
            row = λ none. s.top.row none ∙ ap (λ (x : Open). role_number x.role) (sym (get_or-set_other stack i (length fs) o none other));
          };
      rest = set-stacked fs stack i o (omega arith) s.rest;
    }

pushed : (f : Frame) (fs : List Frame) (stack : List Open) (i : ℕ) (o : Open) → length fs ≡ i → i < length stack
    → f.tag.name ≡ o.name.now → f.row ≡ role_number o.role → StackedAt f (length fs) (set stack i o)
pushed f fs stack i o e x name row =
    let there = λ (none : Open). ap (λ (k : ℕ). get_or (set stack i o) k none) e ∙ get_or-set_same stack i o none x in
    record {
      name = λ none. name ∙ ap (λ (p : Open). p.name.now) (sym (there none));
      row = λ none. row ∙ ap (λ (p : Open). role_number p.role) (sym (there none));
    }

module _
    {t : List ℕ}
    {start at depth : ℕ}
    {stack : List Open}
    {kept : Notes}
    (g : Going t start at depth stack kept)
    (pos : 0 < depth)
    -- where the text from here on ends
    {p : ℕ}
    (is-p : p ≡ at + run_length is_text (drop at t)) where
  abbrev before : List ℕ
  before = run is_text (drop at t)

  stepped-at : (f : Frame) (fs : List Frame) (n : ℕ)
      → walk (suc n) (f ∷ fs) g.seen (drop at t) ≡ stepped (walk n) f fs g.seen before (drop p t)
  stepped-at f fs n =
      ap
      (stepped (walk n) f fs g.seen before)
      (drop-drop (run_length is_text (drop at t)) at t ∙ ap (λ (k : ℕ). drop k t) (sym is-p))

  pub no-tag : (get_or t p 0 ≡ 0x3c → ⊥) → root_walked (drop start t) ≡ astray
  no-tag h =
      turned g pos λ f fs n d e w top rest.
      w ∙ stepped-at f fs n ∙ rw (first-at t p, ne_eqb (get_or t p 0) 0x3c h)

  module _ (less : get_or t p 0 ≡ 0x3c) where
    module _ (slash : get_or t (p + 1) 0 ≡ 0x2f) (top : ℕ) (is-top : top ≡ depth - 1) (none : Open) where
      abbrev name : List ℕ
      name = (get_or stack top none).name.now

      ending_at : (f : Frame) (fs : List Frame) (n : ℕ)
          → walk (suc n) (f ∷ fs) g.seen (drop at t) ≡ ending (walk n) f fs before g.seen (drop (p + 2) t)
      ending_at f fs n =
          stepped-at f fs n
          ∙ rw (
            first-at t p,
            eq-eqb (get_or t p 0) 0x3c less,
            drop-drop 1 p t,
            first-at t (p + 1),
            eq-eqb (get_or t (p + 1) 0) 0x2f slash,
            drop-drop 2 p t,
          )

      top-name : (f : Frame) (fs : List Frame) → depth ≡ suc (length fs) → StackedAt f (length fs) stack
          → f.tag.name ≡ name
      top-name f fs d s =
          let i : length fs ≡ top = omega arith in
          s.name none ∙ ap (λ (k : ℕ). (get_or stack k none).name.now) i

      pub no_end : is_end name (drop (p + 2) t) ≡ false → root_walked (drop start t) ≡ astray
      no_end h =
          turned g pos λ f fs n d e w s rest.
          let other : is_end f.tag.name (drop (p + 2) t) ≡ false =
          ap (λ (x : List ℕ). is_end x (drop (p + 2) t)) (top-name f fs d s) ∙ h
          in
          w ∙ ending_at f fs n ∙ rw other

      -- behind the end tag
      pub going-ends : (q : ℕ) → is_end name (drop (p + 2) t) ≡ true
          → drop 1 (past is_space (from_space name (drop (p + 2) t))) ≡ drop q t → p < q
          → Going t start q top stack kept
      going-ends q h behind later =
          turned g pos λ f fs n d e w s rest.
          let same_name = top-name f fs d s in
          let right : is_end f.tag.name (drop (p + 2) t) ≡ true =
          ap (λ (x : List ℕ). is_end x (drop (p + 2) t)) same_name ∙ h
          in
          let rest_of = from_space f.tag.name (drop (p + 2) t) in
          let element = nesting f.tag (content_of f.pieces before) (run is_space rest_of) in
          let on : drop 1 (past is_space rest_of) ≡ drop q t =
          ap (λ (x : List ℕ). drop 1 (past is_space (from_space x (drop (p + 2) t)))) same_name ∙ behind
          in
          let within = byte-within t p 0x3c less (omega arith) in
          let here : root_walked (drop start t) ≡ ended (walk n) fs f.before element g.seen (drop q t) =
          w ∙ ending_at f fs n ∙ rw right (ap (λ (x : List ℕ). ended (walk n) fs f.before element g.seen x) on)
          in
          record {
            frames = after fs f.before element;
            seen = g.seen;
            fuel = n;
            deep = let l = after-length fs f.before element in omega arith;
            few = let few = g.few in omega arith;
            enough = omega (arith, length-drop at t, length-drop q t);
            walking = after-walking t start n fs f.before element g.seen q here;
            stacked = after-stacked fs f.before element stack rest;
            keeps = g.keeps;
          }

    module _ (no_slash : get_or t (p + 1) 0 ≡ 0x2f → ⊥) where
      abbrev q : ℕ
      q = p + 1

      started-at : (f : Frame) (fs : List Frame) (n : ℕ)
          → walk (suc n) (f ∷ fs) g.seen (drop at t)
          ≡ started (walk n) (f ∷ fs) f.row before g.seen (tag_of (drop q t))
      started-at f fs n =
          stepped-at f fs n
          ∙ rw (
            first-at t p,
            eq-eqb (get_or t p 0) 0x3c less,
            drop-drop 1 p t,
            first-at t (p + 1),
            ne_eqb (get_or t (p + 1) 0) 0x2f no_slash,
          )

      pub no_name : is_first (get_or t q 0) ≡ false → root_walked (drop start t) ≡ astray
      no_name h =
          turned g pos λ f fs n d e w s rest.
          w ∙ started-at f fs n ∙ rw (no-tag-behind t q h)

      module _ (first : is_first (get_or t q 0) ≡ true) {behind : ℕ} (is-behind : behind ≡ q + run_length is_name (drop q t)) where
        abbrev read : TagRead
        read = tag_behind (run is_name (drop q t)) (attributes_of (drop behind t))

        tag_at : (f : Frame) (fs : List Frame) (n : ℕ)
            → walk (suc n) (f ∷ fs) g.seen (drop at t) ≡ started (walk n) (f ∷ fs) f.row before g.seen read
        tag_at f fs n =
            started-at f fs n ∙ ap (started (walk n) (f ∷ fs) f.row before g.seen) (tag-behind t q is-behind first)

        pub not-tag : read ≡ no_tag → root_walked (drop start t) ≡ astray
        not-tag h =
            turned g pos λ f fs n d e w s rest.
            w ∙ tag_at f fs n ∙ ap (started (walk n) (f ∷ fs) f.row before g.seen) h

        pub too-deep : depth ≡ deepest → root_walked (drop start t) ≡ astray
        too-deep h =
            turned g pos λ f fs n d e w s rest.
            w ∙ tag_at f fs n ∙ started-deep (walk n) (f ∷ fs) f.row before g.seen read (omega arith)

        -- a tag's row, by the row of the element around it
        abbrev row_in : Open → ℕ
        row_in none = row_of (role_number (get_or stack (depth - 1) none).role) (placed_text t q behind)

        row_at : (none : Open) (f : Frame) (fs : List Frame) (u : Tag) → depth ≡ suc (length fs) → StackedAt f (length fs) stack
            → u.name ≡ run is_name (drop q t) → row_of f.row u.name ≡ row_in none
        row_at none f fs u d s e =
            let i : length fs ≡ depth - 1 = omega arith in
            ap₂ row_of (s.row none ∙ ap (λ (k : ℕ). role_number (get_or stack k none).role) i) (e ∙ name-placed t q is-behind)

        pub going-closes : (r : ℕ) (u : Tag) (kept' : Notes) (none : Open) {row : ℕ} → row ≡ row_in none → read ≡ closes u (drop r t)
            → depth < deepest → p < r
            → ((seen : List Named) → Kept seen kept → Kept (seen ++ named row u [] true) kept')
            → Going t start r depth stack kept'
        going-closes r u kept' none {row} is_row h few later keeps =
            turned g pos λ f fs n d e w s rest.
            let of = closes-of (run is_name (drop q t)) (attributes_of (drop behind t)) u (drop r t) h in
            let its-row : row_of f.row u.name ≡ row = row_at none f fs u d s of.named ∙ sym is_row in
            let within = byte-within t p 0x3c less (omega arith) in
            let shallow : suc (length fs) < deepest = omega arith in
            let onto : List Named = g.seen ++ named row u [] true in
            let here : root_walked (drop start t) ≡ walk n (holding f before (self_closing u) ∷ fs) onto (drop r t) =
            w
            ∙ tag_at f fs n
            ∙ ap (started (walk n) (f ∷ fs) f.row before g.seen) h
            ∙ rw
            (lt-ltb (suc (length fs)) deepest shallow)
            (ap
            (λ (k : ℕ). walk n (holding f before (self_closing u) ∷ fs) (g.seen ++ named k u [] true) (drop r t))
            its-row)
            in
            record {
              frames = holding f before (self_closing u) ∷ fs;
              seen = onto;
              fuel = n;
              deep = d;
              few = omega arith;
              enough = omega (arith, length-drop at t, length-drop r t);
              walking = here;
              stacked = after-stacked (f ∷ fs) before (self_closing u) stack (record { top = s; rest = rest });
              keeps = keeps g.seen g.keeps;
            }

        pub going-opens : (r : ℕ) (u : Tag) (kept' : Notes) (none o : Open) {row : ℕ} → row ≡ row_in none → row ≡ role_number o.role
            → placed_text t q behind ≡ o.name.now → read ≡ opens u (drop r t) → depth < deepest → p < r → depth < length stack
            → ((seen : List Named) → Kept seen kept
            → Kept (seen ++ named row u (run is_text (drop r t)) (end_follows (drop r t))) kept')
            → Going t start r (depth + 1) (set stack depth o) kept'
        going-opens r u kept' none o {row} is_row its-role its_name h few later room keeps =
            turned g pos λ f fs n d e w s rest.
            let of = opens_of (run is_name (drop q t)) (attributes_of (drop behind t)) u (drop r t) h in
            let its-row : row_of f.row u.name ≡ row = row_at none f fs u d s of.named ∙ sym is_row in
            let within = byte-within t p 0x3c less (omega arith) in
            let shallow : suc (length fs) < deepest = omega arith in
            let onto : List Named = g.seen ++ named row u (run is_text (drop r t)) (end_follows (drop r t)) in
            let frame : Frame = record { before = before; tag = u; row = row; pieces = [] } in
            let here : root_walked (drop start t) ≡ walk n (frame ∷ f ∷ fs) onto (drop r t) =
            w
            ∙ tag_at f fs n
            ∙ ap (started (walk n) (f ∷ fs) f.row before g.seen) h
            ∙ rw
            (lt-ltb (suc (length fs)) deepest shallow)
            (ap
            (λ (k : ℕ).
            walk
            n
            (record { before = before; tag = u; row = k; pieces = [] } ∷ f ∷ fs)
            (g.seen ++ named k u (run is_text (drop r t)) (end_follows (drop r t)))
            (drop r t))
            its-row)
            in
            record {
              frames = frame ∷ f ∷ fs;
              seen = onto;
              fuel = n;
              deep = omega arith;
              few = omega arith;
              enough = omega (arith, length-drop at t, length-drop r t);
              walking = here;
              stacked =
                  record {
                    top =
                        pushed frame (f ∷ fs) stack depth o (sym d) room (of.named ∙ name-placed t q is-behind ∙ its_name)
                        its-role;
                    rest = set-stacked (f ∷ fs) stack depth o (omega arith) (record { top = s; rest = rest });
                  };
              keeps = keeps g.seen g.keeps;
            }

-- the root's tag
module _ (t : List ℕ) (start : ℕ) where
  pub root-no-tag : (get_or t start 0 ≡ 0x3c → ⊥) → root_walked (drop start t) ≡ astray
  root-no-tag h = rw (first-at t start, ne_eqb (get_or t start 0) 0x3c h)

  module _ (less : get_or t start 0 ≡ 0x3c) where
    abbrev root_name : ℕ
    root_name = start + 1

    root-started : root_walked (drop start t)
        ≡ started (walk (length (drop start t))) [] outside [] [] (tag_of (drop root_name t))
    root-started = rw (first-at t start, eq-eqb (get_or t start 0) 0x3c less, drop-drop 1 start t)

    pub root-no-name : is_first (get_or t root_name 0) ≡ false → root_walked (drop start t) ≡ astray
    root-no-name h = root-started ∙ rw (no-tag-behind t root_name h)

    module _
        (first : is_first (get_or t root_name 0) ≡ true)
        {root_behind : ℕ}
        (is-behind : root_behind ≡ root_name + run_length is_name (drop root_name t)) where
      abbrev root_row : ℕ
      root_row = row_of outside (placed_text t root_name root_behind)

      abbrev root_read : TagRead
      root_read = tag_behind (run is_name (drop root_name t)) (attributes_of (drop root_behind t))

      root-read : root_walked (drop start t) ≡ started (walk (length (drop start t))) [] outside [] [] root_read
      root-read = root-started ∙ ap (started (walk (length (drop start t))) [] outside [] []) (tag-behind t root_name is-behind first)

      pub root-not-tag : root_read ≡ no_tag → root_walked (drop start t) ≡ astray
      root-not-tag h = root-read ∙ ap (started (walk (length (drop start t))) [] outside [] []) h

      pub root-closes : (r : ℕ) (u : Tag) → root_read ≡ closes u (drop r t)
          → root_walked (drop start t) ≡ arrived (self_closing u) ([] ++ named root_row u [] true) (drop r t)
      root-closes r u h =
          let of = closes-of (run is_name (drop root_name t)) (attributes_of (drop root_behind t)) u (drop r t) h in
          root-read
          ∙ ap (started (walk (length (drop start t))) [] outside [] []) h
          ∙ ap
          (λ (x : List ℕ). arrived (self_closing u) ([] ++ named (row_of outside x) u [] true) (drop r t))
          (of.named ∙ name-placed t root_name is-behind)

      pub root-opens : (r : ℕ) (u : Tag) (kept : Notes) (o : Open) (os : List Open) {row : ℕ} → row ≡ root_row → row ≡ role_number o.role
          → placed_text t root_name root_behind ≡ o.name.now → root_read ≡ opens u (drop r t) → start < r
          → Kept ([] ++ named row u (run is_text (drop r t)) (end_follows (drop r t))) kept
          → Going t start r 1 (o ∷ os) kept
      root-opens r u kept o os {row} is_row its-role its_name h later keeps =
          let of = opens_of (run is_name (drop root_name t)) (attributes_of (drop root_behind t)) u (drop r t) h in
          let within = byte-within t start 0x3c less (omega arith) in
          let frame : Frame = record { before = []; tag = u; row = row; pieces = [] } in
          let named-so : u.name ≡ placed_text t root_name root_behind = of.named ∙ name-placed t root_name is-behind in
          record {
            frames = frame ∷ [];
            seen = [] ++ named row u (run is_text (drop r t)) (end_follows (drop r t));
            fuel = length (drop start t);
            deep = refl;
            few = omega arith;
            enough = omega (arith, length-drop start t, length-drop r t);
            walking =
                root-read
                ∙ ap (started (walk (length (drop start t))) [] outside [] []) h
                ∙ ap
                (λ (k : ℕ).
                walk
                (length (drop start t))
                (record { before = []; tag = u; row = k; pieces = [] } ∷ [])
                ([] ++ named k u (run is_text (drop r t)) (end_follows (drop r t)))
                (drop r t))
                (ap (row_of outside) named-so ∙ sym is_row);
            stacked =
                record {
                  top = record { name = λ none. named-so ∙ its_name; row = λ none. its-role };
                  rest = tt;
                };
            keeps = keeps;
          }

-- the root's end
pub record Arriving (t : List ℕ) (start at : ℕ) (kept : Notes) : Type 0 where
  pub root : Element
  pub seen : List Named
  pub arrives : root_walked (drop start t) ≡ arrived root seen (drop at t)
  pub keeps : Kept seen kept

pub going-arrives : {t : List ℕ} {start at depth : ℕ} {stack : List Open} {kept : Notes} → Going t start at depth stack kept
    → depth ≡ 0 → Arriving t start at kept
going-arrives {t} {start} {at} {depth} {kept = kept} g h = go g.frames g.deep g.walking
  where
    go : (fs : List Frame) → depth ≡ length fs → Walking t start g.fuel fs g.seen at → Arriving t start at kept
    go [] d w = record { root = w.0; seen = g.seen; arrives = w.1; keeps = g.keeps }
    go (f ∷ fs) d w = absurd (omega arith)

pub record ArrivingPlaced (t : List ℕ) (start at : ℕ) (kept : Notes) : Type 0 where
  pub arriving : Arriving t start at kept
  pub placed : KeptPlaced t kept

pub placed-arrives : {t : List ℕ} {start at depth : ℕ} {stack : List Open} {kept : Notes} → GoingPlaced t start at depth stack kept
    → depth ≡ 0 → ArrivingPlaced t start at kept
placed-arrives g h = record { arriving = going-arrives g.going h; placed = g.placed }
