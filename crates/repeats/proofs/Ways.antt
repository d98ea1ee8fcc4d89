-- A name's way through a tree: step by step, and that names that lead to different leaves are different. Assumes nothing.
use mathlib.Core.Path.{◌≡◌, refl, sym, ◌∙◌, ap, ap₂}
use mathlib.Core.Bool.{Bool, true, false, ◌&&◌, ◌||◌, cond}
use mathlib.Core.List.{List}
use Prim.Native.Nat.{ℕ, zero, suc, ◌+◌, ◌-◌, ◌≤◌, ◌<◌}
use native.Mathlib.Omega.{arith}
use borrow.Author.Tests.{eqb-true, eq-eqb, le-leb, lt-leb}
use lib.Dec.{leb, eqb}
use Rattle.fields.specs.Text.{same}
use Rattle.fields.proofs.Tests.{and_left, and_right}
use Rattle.fields.proofs.Same.{same_true}
use Rattle.repeats.specs.Repeats.{name_in, behind, has_name_in, repeats_in}
use Rattle.repeats.specs.Tree.{bit, last_of, numbered}

differs : (s t : List ℕ) → (s ≡ t → ⊥) → same s t ≡ false
differs s t h = go (same s t) refl
  where
    go : (b : Bool) → same s t ≡ b → b ≡ false
    go true e = absurd (h (same_true s t e))
    go false e = refl

pub bit-small : (b : Bool) → bit b ≤ 1
bit-small true = omega arith
bit-small false = omega arith

-- a step: the link is a leaf, or the way goes on
module _ (next : ℕ → ℕ) where
  on-way : (n node : ℕ) → 0 < n → last_of next n node ≡ cond (leb 13_104 (next node)) node (last_of next (n - 1) (next node))
  on-way zero node h = absurd (omega arith)
  on-way (suc n) node h =
      let less : n ≡ suc n - 1 = omega arith in ap (λ (k : ℕ). cond (leb 13_104 (next node)) node (last_of next k (next node))) less

  pub way-ends : (n node to : ℕ) → 0 < n → to ≡ next node → 13_104 ≤ to → last_of next n node ≡ node
  way-ends n node to h e l =
      on-way n node h ∙ ap (λ (t : Bool). cond t node (last_of next (n - 1) (next node))) (le-leb 13_104 (next node) (omega arith))

  pub way-goes : (n node to : ℕ) → 0 < n → to ≡ next node → to < 13_104 → last_of next n node ≡ last_of next (n - 1) to
  way-goes n node to h e l =
      on-way n node h
      ∙ ap (λ (t : Bool). cond t node (last_of next (n - 1) (next node))) (lt-leb 13_104 (next node) (omega arith))
      ∙ ap (last_of next (n - 1)) (sym e)

  pub way-over : (n node : ℕ) → n ≤ 0 → last_of next n node ≡ node
  way-over zero node h = refl
  way-over (suc n) node h = absurd (omega arith)

-- n attributes that lead to one leaf each, from i on in order: a name that leads elsewhere is none of theirs
module _ (leaf : List ℕ → ℕ) where
  not-among : (name s : List ℕ) (i n : ℕ) → leaf name < i → numbered leaf i n s ≡ true → has_name_in name n s ≡ false
  not-among name s i zero l e = refl
  not-among name s i (suc n) l e =
      let here : leaf (name_in s) ≡ i = eqb-true _ _ (and_left (eqb (leaf (name_in s)) i) (numbered leaf (i + 1) n (behind s)) e) in
      let later = and_right (eqb (leaf (name_in s)) i) (numbered leaf (i + 1) n (behind s)) e in
      let other = differs name (name_in s) (λ (q : name ≡ name_in s). omega (arith, ap leaf q)) in
      ap₂ ◌||◌ other (not-among name (behind s) (i + 1) n (omega arith) later)

  -- so no name stands twice
  pub apart : (s : List ℕ) (i n : ℕ) → numbered leaf i n s ≡ true → repeats_in n s ≡ false
  unfolding repeats_in
  apart s i zero e = refl
  apart s i (suc n) e =
      let here : leaf (name_in s) ≡ i = eqb-true _ _ (and_left (eqb (leaf (name_in s)) i) (numbered leaf (i + 1) n (behind s)) e) in
      let later = and_right (eqb (leaf (name_in s)) i) (numbered leaf (i + 1) n (behind s)) e in
      ap₂ ◌||◌ (not-among (name_in s) (behind s) (i + 1) n (omega arith) later) (apart (behind s) (i + 1) n later)

  -- one attribute more
  number-next : (s : List ℕ) (i n : ℕ) → 0 < n
      → numbered leaf i n s ≡ (eqb (leaf (name_in s)) i && numbered leaf (i + 1) (n - 1) (behind s))
  number-next s i zero h = absurd (omega arith)
  number-next s i (suc n) h =
      let less : n ≡ suc n - 1 = omega arith in
      ap (λ (k : ℕ). eqb (leaf (name_in s)) i && numbered leaf (i + 1) k (behind s)) less

  pub number-goes : (s : List ℕ) (i n : ℕ) → 0 < n → leaf (name_in s) ≡ i → (t : List ℕ) → t ≡ behind s
      → numbered leaf i n s ≡ numbered leaf (i + 1) (n - 1) t
  number-goes s i n h e t q =
      number-next s i n h
      ∙ ap (λ (b : Bool). b && numbered leaf (i + 1) (n - 1) (behind s)) (eq-eqb (leaf (name_in s)) i e)
      ∙ ap (numbered leaf (i + 1) (n - 1)) (sym q)

  pub number-over : (s : List ℕ) (i n : ℕ) → n ≤ 0 → numbered leaf i n s ≡ true
  number-over s i zero h = refl
  number-over s i (suc n) h = absurd (omega arith)
