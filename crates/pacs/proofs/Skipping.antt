-- What a verdict doesn't depend on: elements that are none of the named, what they hold, loose text, white space in tags, and the
-- attributes of every element but the amount's.
--     Like, LikeAll    named elements that are judged alike
--     Alike            two elements in a parent of a row that differ in nothing else
--     alike-judged     their verdicts are the same
--     alike-answered   and so are those of texts that are read as documents with such roots
-- Assumes nothing.
use Prim.Native.Nat.{ℕ, zero, suc, ◌-◌, ◌<◌}
use mathlib.Core.Path.{◌≡◌, refl, ap, ap₂, sym, subst, ◌∙◌}
use mathlib.Core.Logic.{◌⊎◌, inl, inr}
use mathlib.Core.Bool.{Bool, true, false, ◌&&◌, ◌||◌, not}
use mathlib.Core.List.{List, [], ◌∷◌, ◌++◌}
use native.Mathlib.Omega.{arith}
use borrow.Author.Tests.{eqb-true}
use lib.Dec.{eqb}
use lib.ListN.{get_or}
use Rattle.xml.specs.Tree.{Element, Content, last_text, text_then}
use Rattle.xml.specs.WellFormed.{Reading}
use Rattle.pacs.specs.Named.{
  Named,
  row_of,
  is_text_row,
  sender_row,
  txid_row,
  amount_row,
  payee_row,
  iban_row,
  met,
  met_in,
  outside,
  skipped,
}
use Rattle.pacs.specs.Judged.{Verdict, in_order, element_at, text_at, judged}
use Rattle.pacs.specs.Answering.{Answered}
use Rattle.pacs.proofs.Words.{placed, row-met, judged-24}
use Rattle.pacs.proofs.Standing.{name, holds, row-range, skips, named_at, met-known}

-- two named elements of one row: what is asked of that row is the same
pub record Like (m k : Named) : Type 0 where
  pub row : m.row ≡ k.row
  pub text : is_text_row m.row ≡ true → m.text ≡ k.text
  pub plain : is_text_row m.row ≡ true → m.plain ≡ k.plain
  pub attributes : m.row ≡ amount_row → m.attributes ≡ k.attributes

pub data LikeAll : List Named → List Named → Type 0 where
  none : LikeAll [] []
  each : {m k : Named} {ms ks : List Named} → Like m k → LikeAll ms ks → LikeAll (m ∷ ms) (k ∷ ks)

like-same : (m : Named) → Like m m
like-same m = record { row = refl; text = λ h. refl; plain = λ h. refl; attributes = λ h. refl }

like_at : (ms ks : List Named) → LikeAll ms ks → (i : ℕ) (d : Named) → Like (get_or ms i d) (get_or ks i d)
like_at ms ks none i d = like-same d
like_at ms ks (each h more) zero d = h
like_at ms ks (each {ms = ms'} {ks = ks'} h more) (suc i) d = like_at ms' ks' more i d

like-append : (a b c d : List Named) → LikeAll a b → LikeAll c d → LikeAll (a ++ c) (b ++ d)
like-append a b c d none h = h
like-append a b c d (each {ms = ms} {ks = ks} g more) h = each g (like-append ms ks c d more h)

plain-tests : (r n : ℕ) (p q rest : Bool) → (is_text_row r ≡ true → p ≡ q)
    → (eqb r n && (not (is_text_row n) || p) && rest) ≡ (eqb r n && (not (is_text_row n) || q) && rest)
plain-tests r n p q rest f = go (eqb r n) refl
  where
    at-text : (b : Bool) → is_text_row n ≡ b → (b ≡ true → p ≡ q) → (not b || p) ≡ (not b || q)
    at-text true e g = g refl
    at-text false e g = refl

    go : (b : Bool) → eqb r n ≡ b → (b && (not (is_text_row n) || p) && rest) ≡ (b && (not (is_text_row n) || q) && rest)
    go true e =
        let here = eqb-true r n e in
        ap (λ (x : Bool). x && rest) (at-text (is_text_row n) refl (λ h. f (subst (λ (i : ℕ). is_text_row i ≡ true) (sym here) h)))
    go false e = refl

like-order : (n : ℕ) (ms ks : List Named) → LikeAll ms ks → in_order n ms ≡ in_order n ks
like-order n ms ks none = refl
like-order n ms ks (each {m = m} {k = k} {ms = ms'} {ks = ks'} h more) =
    plain-tests m.row n m.plain k.plain (in_order (suc n) ms') h.plain
    ∙ ap₂ (λ (r : ℕ) (rest : Bool). eqb r n && (not (is_text_row n) || k.plain) && rest) h.row (like-order (suc n) ms' ks' more)

row-of : (ms : List Named) (r : ℕ) → in_order 0 ms ≡ true → r < outside → (element_at ms r).row ≡ r
row-of ms r e low =
    let found = row-met 0 ms r e (omega arith) low in
    let m = found.element in
    let none : m.row - 0 ≡ m.row = omega arith in
    let there : element_at ms m.row ≡ m = ap (element_at ms) (sym none) ∙ (placed 0 ms m e found.among).there _ in
    ap (λ (i : ℕ). (element_at ms i).row) (sym found.row) ∙ ap (λ (x : Named). x.row) there ∙ found.row

like-text : (ms ks : List Named) (r : ℕ) → LikeAll ms ks → in_order 0 ms ≡ true → r < outside → is_text_row r ≡ true
    → text_at ms r ≡ text_at ks r
like-text ms ks r h e low is =
    (like_at ms ks h r _).text (subst (λ (i : ℕ). is_text_row i ≡ true) (sym (row-of ms r e low)) is)

pub like-judged : (time : ℕ) (ms ks : List Named) → LikeAll ms ks → judged time ms ≡ judged time ks
unfolding judged
like-judged time ms ks h = go (in_order 0 ms) refl
  where
    go : (b : Bool) → in_order 0 ms ≡ b → judged time ms ≡ judged time ks
    go false e = judged-24 time ms e ∙ sym (judged-24 time ks (sym (like-order 0 ms ks h) ∙ e))
    go true e =
        let order = like-order 0 ms ks h in
        let euro : (element_at ms amount_row).attributes ≡ (element_at ks amount_row).attributes =
        (like_at ms ks h amount_row _).attributes (row-of ms amount_row e (omega arith))
        in
        let t5 = like-text ms ks sender_row h e (omega arith) refl in
        let t8 = like-text ms ks txid_row h e (omega arith) refl in
        let t9 = like-text ms ks amount_row h e (omega arith) refl in
        let t12 = like-text ms ks payee_row h e (omega arith) refl in
        let t15 = like-text ms ks iban_row h e (omega arith) refl in
        rw (order, euro, t5, t8, t9, t12, t15)

-- two elements in a parent of a row: both are skipped, or they have one name, what is asked of their row is the same, and what they hold
-- is alike; what they hold may differ in text and in elements that are skipped
mutual
  pub data Alike : ℕ → Element → Element → Type 0 where
    both-skipped : {parent : ℕ} {e f : Element} → row_of parent (name e) ≡ skipped → row_of parent (name f) ≡ skipped → Alike parent e f
    likewise : {parent : ℕ} {e f : Element} → name e ≡ name f
        → Like (named_at e (row_of parent (name e))) (named_at f (row_of parent (name e)))
        → AlikeIn (row_of parent (name e)) (holds e) (holds f)
        → Alike parent e f

  pub data AlikeIn : ℕ → Content → Content → Type 0 where
    no_more : {row : ℕ} {s t : List ℕ} → AlikeIn row (last_text s) (last_text t)
    one_each : {row : ℕ} {s t : List ℕ} {e f : Element} {c d : Content} → Alike row e f → AlikeIn row c d
        → AlikeIn row (text_then s e c) (text_then t f d)
    more-before : {row : ℕ} {s : List ℕ} {e : Element} {c d : Content} → row_of row (name e) ≡ skipped → AlikeIn row c d
        → AlikeIn row (text_then s e c) d
    more-behind : {row : ℕ} {t : List ℕ} {f : Element} {c d : Content} → row_of row (name f) ≡ skipped → AlikeIn row c d
        → AlikeIn row c (text_then t f d)

like-both : (a b c d : List Named) → a ≡ c → b ≡ d → LikeAll c d → LikeAll a b
like-both a b c d p q h =
    subst (λ (ks : List Named). LikeAll a ks) (sym q) (subst (λ (ms : List Named). LikeAll ms d) (sym p) h)

skipped-both : (parent : ℕ) (e f : Element) → row_of parent (name e) ≡ skipped → row_of parent (name f) ≡ skipped
    → LikeAll (met e parent) (met f parent)
skipped-both parent e f h k = like-both (met e parent) (met f parent) [] [] (skips e parent h) (skips f parent k) none

alike-own : (parent : ℕ) (e f : Element) → name e ≡ name f
    → Like (named_at e (row_of parent (name e))) (named_at f (row_of parent (name e)))
    → LikeAll (met_in (holds e) (row_of parent (name e))) (met_in (holds f) (row_of parent (name e)))
    → LikeAll (met e parent) (met f parent)
alike-own parent e f same like inner = go (row-range parent (name e))
  where
    rows : row_of parent (name e) ≡ row_of parent (name f)
    rows = ap (row_of parent) same

    go : (row_of parent (name e) < outside) ⊎ (row_of parent (name e) ≡ skipped) → LikeAll (met e parent) (met f parent)
    go (inl low) =
        let r = row_of parent (name e) in
        like-both
        (met e parent)
        (met f parent)
        (named_at e r ∷ met_in (holds e) r)
        (named_at f r ∷ met_in (holds f) r)
        (met-known e parent low)
        (met-known f parent (subst (λ (i : ℕ). i < outside) rows low) ∙ ap (λ (i : ℕ). named_at f i ∷ met_in (holds f) i) (sym rows))
        (each like inner)
    go (inr h) = skipped-both parent e f h (sym rows ∙ h)

mutual
  pub alike-met : {parent : ℕ} {e f : Element} → Alike parent e f → LikeAll (met e parent) (met f parent)
  alike-met (both-skipped {parent = p} {e = e} {f = f} h k) = skipped-both p e f h k
  alike-met (likewise {parent = p} {e = e} {f = f} same like inner) = alike-own p e f same like (alike-in inner)

  alike-in : {row : ℕ} {c d : Content} → AlikeIn row c d → LikeAll (met_in c row) (met_in d row)
  alike-in no_more = none
  alike-in (one_each {row = r} {e = e} {f = f} {c = c} {d = d} h more) =
      like-append (met e r) (met f r) (met_in c r) (met_in d r) (alike-met h) (alike-in more)
  alike-in (more-before {row = r} {e = e} {c = c} {d = d} h more) =
      subst (λ (ms : List Named). LikeAll (ms ++ met_in c r) (met_in d r)) (sym (skips e r h)) (alike-in more)
  alike-in (more-behind {row = r} {f = f} {c = c} {d = d} h more) =
      subst (λ (ms : List Named). LikeAll (met_in c r) (ms ++ met_in d r)) (sym (skips f r h)) (alike-in more)

-- 02, slip 3: other elements are skipped
pub alike-judged : (time : ℕ) (root other : Element) → Alike outside root other
    → judged time (met root outside) ≡ judged time (met other outside)
alike-judged time root other h = like-judged time (met root outside) (met other outside) (alike-met h)

-- and so of texts that are read
pub alike-answered : (t u : List ℕ) (time : ℕ) (v w : Verdict) → Answered t time v → Answered u time w → (r : Reading t) (q : Reading u)
    → Alike outside r.document.root q.document.root → v ≡ w
alike-answered t u time v w a b r q h =
    a.read r ∙ alike-judged time r.document.root q.document.root h ∙ sym (b.read q)
