-- The end of a declaration by the ends of its attributes.
--     not-begun        a text that doesn't begin with <?xml
--     no-version       the first attribute isn't the version
--     declared-read    it is, and the places behind the other two and ?>
-- Assumes nothing.
use mathlib.Core.Path.{◌≡◌, refl, sym, ◌∙◌, ap}
use mathlib.Core.Bool.{Bool, true, false, ◌&&◌, not, cond, and-false, or-true}
use mathlib.Core.List.{List, [], ◌∷◌, ◌++◌, append-nil}
use Prim.Native.Nat.{ℕ, ◌≤◌}
use native.Mathlib.Omega.{arith}
use borrow.Author.Tests.{not-true, not-false}
use lib.Dec.{eqb}
use lib.ListN.{length, take, drop, length-take}
use Rattle.fields.specs.Text.{text, same}
use Rattle.fields.proofs.Same.{same_true}
use Rattle.xml.specs.Bytes.{is_space}
use Rattle.xml.specs.Tree.{Attribute, undeclared, declared}
use Rattle.xml.specs.WellFormed.{is_version, is_encoding_of, is_standalone, declares}
use Rattle.xml.specs.Scanning.{first_byte, Attributed, misread, attributed, with_attribute, attributes_of}
use Rattle.pacs.specs.Walk.{Found, unread, behind_prolog, declared_by, prolog_read}
use Rattle.xml.proofs.FirstAttribute.{prepended, to-misread, to-all}
use Rattle.scan.specs.AttributeParts.{FirstFails}
use Rattle.scan.proofs.Runs.{run_end, end-within}
use Rattle.prolog.specs.Ends.{Passed, past, stays, is_close, Closed, PrologRead}
use Rattle.std.specs.Prelude.{Result, Ok, Err}

-- attributes of a declaration, and ?>
ends : (more : List Attribute) (space z : List ℕ) → declares more ≡ true → is_close z ≡ true
    → declared_by (attributed more space z) ≡ behind_prolog (declared more space) (drop 2 z)
ends more space z d e = rw d (go (eqb (first_byte z) 0x3f) (eqb (first_byte (drop 1 z)) 0x3e) e)
  where
    go : (x y : Bool) → (x && y) ≡ true
        → cond (x && y) (behind_prolog (declared more space) (drop 2 z)) unread ≡ behind_prolog (declared more space) (drop 2 z)
    go x y h = rw h

not-ended : (more : List Attribute) (space z : List ℕ) → is_close z ≡ false → declared_by (attributed more space z) ≡ unread
not-ended more space z e =
    go (declares more) (eqb (first_byte z) 0x3f) (eqb (first_byte (drop 1 z)) 0x3e) (behind_prolog (declared more space) (drop 2 z)) e
  where
    go : (x y w : Bool) (f : Found) → (y && w) ≡ false → cond (x && y && w) f unread ≡ unread
    go true y w f h = rw h
    go false y w f h = refl

not-declared : (more : List Attribute) (space z : List ℕ) → declares more ≡ false → declared_by (attributed more space z) ≡ unread
not-declared more space z e = rw e

-- what may not follow
behind-encoding : (v e a : Attribute) (more : List Attribute) → is_standalone a ≡ false → declares (v ∷ e ∷ a ∷ more) ≡ false
behind-encoding v e a [] h = simp (h, and-false)
behind-encoding v e a (b ∷ more) h = refl

behind-standalone : (v s a : Attribute) (more : List Attribute) → is_encoding_of s ≡ false → declares (v ∷ s ∷ a ∷ more) ≡ false
behind-standalone v s a [] h = simp (h, and-false)
behind-standalone v s a (b ∷ more) h = refl

behind-version : (v a : Attribute) (more : List Attribute) → is_encoding_of a ≡ false → is_standalone a ≡ false
    → declares (v ∷ a ∷ more) ≡ false
behind-version v a [] h k = simp (h, k, and-false)
behind-version v a (b ∷ more) h k = behind-standalone v a b more h

-- no declaration
pub not-begun : (t : List ℕ) {b : Bool} → b ≡ same (take 5 t) (text "<?xml") → not b ≡ true → PrologRead t (Ok 0)
not-begun t {b} b-is e = (undeclared, rw (sym b-is ∙ not-true b e), omega arith)

module _ (t : List ℕ) {b : Bool} (b-is : b ≡ same (take 5 t) (text "<?xml")) (begun : not b ≡ false) where
  by-attributes : prolog_read t ≡ declared_by (attributes_of (drop 5 t))
  by-attributes = rw (sym b-is ∙ not-false b begun)

  -- a text that begins so has the five bytes
  five : 5 ≤ length t
  five = omega (arith, length-take 5 t, ap length (same_true (take 5 t) (text "<?xml") (sym b-is ∙ not-false b begun)))

  -- the first attribute isn't the version
  none_first : {p : ℕ} → FirstFails is_version t 5 → p ≤ length t → PrologRead t (Err p)
  none_first fails within = (by-attributes ∙ go (attributes_of (drop 5 t)) refl, within)
    where
      go : (x : Attributed) → attributes_of (drop 5 t) ≡ x → declared_by x ≡ unread
      go misread e = refl
      go (attributed [] space z) e = not-declared [] space z refl
      go (attributed (a ∷ []) space z) e = not-declared (a ∷ []) space z (fails a [] space z e)
      go (attributed (a ∷ b ∷ []) space z) e = not-declared (a ∷ b ∷ []) space z (rw (fails a (b ∷ []) space z e))
      go (attributed (a ∷ b ∷ c ∷ []) space z) e = not-declared (a ∷ b ∷ c ∷ []) space z (rw (fails a (b ∷ c ∷ []) space z e))
      go (attributed (a ∷ b ∷ c ∷ d ∷ more) space z) e = not-declared (a ∷ b ∷ c ∷ d ∷ more) space z refl

  -- attributes that are those of a declaration, and none that may follow
  module _ (front : List Attribute) (right : declares front ≡ true) (at : ℕ) (within : at ≤ length t)
      (all : attributes_of (drop 5 t) ≡ prepended front (attributes_of (drop at t)))
      (last : (a : Attribute) (more : List Attribute) (space z : List ℕ) → attributes_of (drop at t) ≡ attributed (a ∷ more) space z
      → declares (front ++ (a ∷ more)) ≡ false) where
    broken : (x : Attributed) → attributes_of (drop at t) ≡ x
        → ((space z : List ℕ) → attributes_of (drop at t) ≡ attributed [] space z → is_close z ≡ false)
        → declared_by (prepended front x) ≡ unread
    broken misread e f = ap declared_by (to-misread front)
    broken (attributed [] space z) e f = ap declared_by (to-all front [] space z) ∙ not-ended (front ++ []) space z (f space z e)
    broken (attributed (a ∷ more) space z) e f =
        ap declared_by (to-all front (a ∷ more) space z) ∙ not-declared (front ++ (a ∷ more)) space z (last a more space z e)

    closes-read : (r : Result ℕ ℕ) → Closed t at r → PrologRead t r
    closes-read (Ok p) c =
        let whole : prepended front (attributed [] c.0 c.1) ≡ attributed front c.0 c.1 =
        to-all front [] c.0 c.1 ∙ ap (λ (f : List Attribute). attributed f c.0 c.1) (append-nil front) in (
          declared front c.0,
          by-attributes
              ∙ ap declared_by (all ∙ ap (prepended front) c.2 ∙ whole)
              ∙ ends front c.0 c.1 right c.3
              ∙ ap (behind_prolog (declared front c.0)) c.4,
          c.5,
        )
    closes-read (Err p) c = (by-attributes ∙ ap declared_by all ∙ broken (attributes_of (drop at t)) refl c.0, c.1 within)

  -- the version isn't passed
  none_passed : {v : ℕ} → Passed is_version t 5 v → v ≡ 5 → FirstFails is_version t 5
  none_passed (past a read is on within) e = absurd (omega arith)
  none_passed (stays f) e = f

  pub no-version : {v p : ℕ} → Passed is_version t 5 v → v ≡ 5 → p ≡ run_end is_space t 5 → PrologRead t (Err p)
  no-version passed e p-is = none_first (none_passed passed e) (omega (arith, end-within is_space t 5 five))

  -- the version, and the places behind the other two
  pub declared-read : {v e s : ℕ} (r : Result ℕ ℕ) → Passed is_version t 5 v → (v ≡ 5 → ⊥) → Passed is_encoding_of t v e
      → Passed is_standalone t e s → Closed t s r → PrologRead t r
  declared-read r (stays f) other pe ps c = absurd (other refl)
  declared-read r (past v v-read v-is v-on v-in) other (past e e-read e-is e-on e-in) (past s s_read s-is s-on s-in) c =
      closes-read
      (v ∷ e ∷ s ∷ [])
      (rw (v-is, e-is, s-is))
      _
      s-in
      (v-read ∙ ap (with_attribute v) (e-read ∙ ap (with_attribute e) s_read))
      (λ a more space z h. refl)
      r
      c
  declared-read r (past v v-read v-is v-on v-in) other (past e e-read e-is e-on e-in) (stays f) c =
      closes-read
      (v ∷ e ∷ [])
      (rw (v-is, e-is))
      _
      e-in
      (v-read ∙ ap (with_attribute v) e-read)
      (λ a more space z h. behind-encoding v e a more (f a more space z h))
      r
      c
  declared-read r (past v v-read v-is v-on v-in) other (stays f) (past s s_read s-is s-on s-in) c =
      closes-read
      (v ∷ s ∷ [])
      (simp (v-is, s-is, or-true))
      _
      s-in
      (v-read ∙ ap (with_attribute v) s_read)
      (λ a more space z h. behind-standalone v s a more (f s (a ∷ more) space z (s_read ∙ ap (with_attribute s) h)))
      r
      c
  declared-read r (past v v-read v-is v-on v-in) other (stays f) (stays g) c =
      closes-read
      (v ∷ [])
      v-is
      _
      v-in
      v-read
      (λ a more space z h. behind-version v a more (f a more space z h) (g a more space z h))
      r
      c
