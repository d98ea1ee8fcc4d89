-- Attributes that are read have the names that `name_in` and `behind` find, so `repeats_in` tells whether a name stands twice.
-- Assumes nothing.
use mathlib.Core.Path.{◌≡◌, refl, ◌∙◌, ap, ap₂}
use mathlib.Core.Bool.{Bool, true, false, ◌&&◌, ◌||◌, not, cond}
use mathlib.Core.List.{List, [], ◌∷◌}
use mathlib.Core.Logic.{◌⊎◌, inl, inr, ⊎_elim}
use Prim.Native.Nat.{ℕ, zero, suc}
use lib.ListN.{length}
use Rattle.fields.specs.Text.{same}
use Rattle.xml.specs.Bytes.{is_space, run, past}
use Rattle.xml.specs.Tree.{Attribute}
use Rattle.xml.specs.WellFormed.{has_name, distinct}
use Rattle.xml.specs.Scanning.{Attributed, misread, attributed, attribute_of, is_attribute, begins, with_attribute, attributes_in}
use Rattle.xml.proofs.FirstAttribute.{not-read}
use Rattle.repeats.specs.Repeats.{name_in, behind, has_name_in, repeats_in}

-- an attribute, and what is read behind it
record Further (n : ℕ) (s : List ℕ) (more : List Attribute) (space z : List ℕ) : Type 0 where
  rest : List Attribute
  read : attributes_in n (behind s) ≡ attributed rest space z
  whole : more ≡ attribute_of (run is_space s) (past is_space s) ∷ rest

-- nothing is read, or an attribute
first_read : (n : ℕ) (s : List ℕ) (more : List Attribute) (space z : List ℕ) → attributes_in (suc n) s ≡ attributed more space z
    → (more ≡ []) ⊎ Further n s more space z
unfolding behind
first_read n s more space z = go (begins s) (is_attribute (past is_space s)) (attributes_in n (behind s)) refl
  where
    go : (b t : Bool) (later : Attributed) → attributes_in n (behind s) ≡ later
        → cond b (cond t (with_attribute (attribute_of (run is_space s) (past is_space s)) later) misread)
        (attributed [] (run is_space s) (past is_space s))
        ≡ attributed more space z
        → (more ≡ []) ⊎ Further n s more space z
    go false t later q e = inl (cc)
    go true false later q e = not-read e
    go true true misread q e = not-read e
    go true true (attributed rest space' z') q e = inr (record { rest = rest; read = q ∙ cc; whole = cc })

has-read : (fuel : ℕ) (name s : List ℕ) (more : List Attribute) (space z : List ℕ) → attributes_in fuel s ≡ attributed more space z
    → has_name_in name (length more) s ≡ has_name name more
unfolding name_in
has-read zero name s more space z e = not-read e
has-read (suc n) name s more space z e =
    ⊎_elim
    (λ (q : more ≡ []). rw q)
    (λ (f : Further n s more space z).
    rw f.whole (ap (◌||◌ (same name (name_in s))) (has-read n name (behind s) f.rest space z f.read)))
    (first_read n s more space z e)

either : (a b : Bool) → (a || not b) ≡ not (not a && b)
either true b = refl
either false b = refl

pub repeats-read : (fuel : ℕ) (s : List ℕ) (more : List Attribute) (space z : List ℕ) → attributes_in fuel s ≡ attributed more space z
    → repeats_in (length more) s ≡ not (distinct more)
unfolding name_in repeats_in
repeats-read zero s more space z e = not-read e
repeats-read (suc n) s more space z e =
    ⊎_elim
    (λ (q : more ≡ []). rw q)
    (λ (f : Further n s more space z).
    rw f.whole
    (ap₂ ◌||◌ (has-read n (name_in s) (behind s) f.rest space z f.read) (repeats-read n (behind s) f.rest space z f.read)
    ∙ either (has_name (name_in s) f.rest) (distinct f.rest)))
    (first_read n s more space z e)
