-- The parts of an attribute by their places: white space, name, =, the opening quote, the value and the closing quote.
--     no-equals, no-quote    no value begins
--     value-begins           one does
--     begins-at              whether an attribute begins, by the place where white space ends
--     not-valued             no attribute where no value begins
--     not-closed, is-closed  where one does, the closing quote tells
--     no_name, no_value      no attribute from a place on; no-close
--     is_one                 one
--     Attributes that were read: not_there, there, tested
-- Assumes nothing.
use mathlib.Core.Path.{◌≡◌, refl, sym, ◌∙◌, ap, ap₂, subst}
use mathlib.Core.Bool.{Bool, true, false, ◌&&◌, not, cond, and-false}
use mathlib.Core.List.{List, [], ◌∷◌}
use Prim.Native.Nat.{ℕ, suc, ◌+◌, ◌-◌, ◌≤◌}
use native.Mathlib.Omega.{arith}
use borrow.Author.Tests.{eq-eqb, ne_eqb, lt-ltb, le-ltb, not-true, not-false}
use lib.Dec.{eqb, ltb}
use lib.ListN.{length, get_or, take, drop}
use Rattle.fields.proofs.Tests.{never}
use Rattle.xml.specs.Bytes.{is_space, is_first, is_name, is_value, run_length, run, past}
use Rattle.xml.specs.Tree.{Attribute}
use Rattle.xml.specs.Scanning.{first_byte, from_equals, from_quote, from_close, is_attribute, begins, attribute_of, with_attribute, attributes_of}
use Rattle.xml.proofs.Places.{first-at, byte-within, one-behind, tested_at}
use Rattle.xml.proofs.FirstAttribute.{none-begins, one-broken, one-read, not-misread, not_none}
use Rattle.scan.specs.AttributeParts.{has_quote, ValueBegun, attribute_from, FirstFails, AttributeThere, AttributeRead}
use Rattle.std.specs.Prelude.{Option, Some, None, Result, Ok, Err, is_ok}
use Rattle.scan.specs.declared.attributes.AttributePlaces.{AttributePlaces}
use Rattle.scan.proofs.Runs.{run_end, past_to, run-between, end-within}

-- white space stands where its run is longer than nothing
spaced : (t : List ℕ) (i : ℕ) → is_space (first_byte t) ≡ ltb i (i + run_length is_space t)
unfolding is_space
spaced [] i = sym (le-ltb i (i + 0) (omega arith))
spaced (b ∷ t) i = go (is_space b)
  where
    go : (v : Bool) → v ≡ ltb i (i + cond v (suc (run_length is_space t)) 0)
    go true = sym (lt-ltb i (i + suc (run_length is_space t)) (omega arith))
    go false = sym (le-ltb i (i + 0) (omega arith))

module _ (s : List ℕ) where
  module _ (at : ℕ) {n e : ℕ} (n-is : n ≡ run_end is_name s at) (e-is : e ≡ run_end is_space s n) where
    equals-at : from_equals (drop at s) ≡ drop e s
    equals-at = past_to is_space s n (past_to is_name s at refl n-is) e-is

    pub no-equals : {b : ℕ} → b ≡ get_or s e 0 → (b ≡ 61 → ⊥) → has_quote (drop at s) ≡ false
    no-equals {b} b-is other = simp (tested_at s e equals-at b-is 61 ∙ ne_eqb b 61 other)

    module _ {b : ℕ} (b-is : b ≡ get_or s e 0) (b-equals : b ≡ 61) {q : ℕ} (q-is : q ≡ run_end is_space s (e + 1)) where
      quote-at : from_quote (drop at s) ≡ drop q s
      quote-at = past_to is_space s (e + 1) (one-behind s e equals-at) q-is

      pub no-quote : {d : ℕ} → d ≡ get_or s q 0 → (d ≡ 34 → ⊥) → has_quote (drop at s) ≡ false
      no-quote {d} d-is other = simp (tested_at s q quote-at d-is 34 ∙ ne_eqb d 34 other, and-false)

      pub value-begins : {d : ℕ} → d ≡ get_or s q 0 → d ≡ 34 → ValueBegun s at (Ok (q + 1))
      value-begins {d} d-is d-quote = (
        simp (tested_at s e equals-at b-is 61 ∙ eq-eqb b 61 b-equals, tested_at s q quote-at d-is 34 ∙ eq-eqb d 34 d-quote),
        one-behind s q quote-at,
        omega arith,
        omega (arith, byte-within s q 34 (sym d-is ∙ d-quote) (omega arith)),
      )

  pub begins-at : (i : ℕ) {j : ℕ} → j ≡ run_end is_space s i → begins (drop i s) ≡ (ltb i j && is_first (get_or s j 0))
  begins-at i {j} e =
      ap (λ (k : ℕ). is_space (first_byte (drop i s)) && is_first k) (ap first_byte (past_to is_space s i refl e) ∙ first-at s j)
      ∙ ap (λ (v : Bool). v && is_first (get_or s j 0)) (spaced (drop i s) i ∙ ap (ltb i) (sym e))

  -- an attribute whose name begins at a place
  pub not-valued : (name : ℕ) (v : Result ℕ ℕ) → ValueBegun s name v → is_ok v ≡ false → is_attribute (drop name s) ≡ false
  not-valued name (Ok p) begun e = never e
  not-valued name (Err p) begun e = ap (λ (w : Bool). w && eqb (first_byte (from_close (drop name s))) 34) begun

  module _ (name : ℕ) {v : Result ℕ ℕ} (begun : ValueBegun s name v) where
    module _ {value : ℕ} (v-is : v ≡ Ok value) {close : ℕ} (close-is : close ≡ run_end is_value s value) {f : ℕ}
        (f-is : f ≡ get_or s close 0) where
      pub value_there : ValueBegun s name (Ok value)
      value_there = subst (ValueBegun s name) v-is begun

      pub close_at : from_close (drop name s) ≡ drop close s
      close_at = past_to is_value s value value_there.1 close-is

      pub not-closed : (f ≡ 34 → ⊥) → is_attribute (drop name s) ≡ false
      not-closed other = simp (tested_at s close close_at f-is 34 ∙ ne_eqb f 34 other, and-false)

      pub is-closed : f ≡ 34 → is_attribute (drop name s) ≡ true
      is-closed e = ap₂ ◌&&◌ value_there.0 (tested_at s close close_at f-is 34 ∙ eq-eqb f 34 e)

  -- an attribute from a place on, behind white space
  module _ (at : ℕ) {name : ℕ} (name-is : name ≡ run_end is_space s at) {b : Bool}
      (b-is : b ≡ (ltb at name && is_first (get_or s name 0))) where
    here : past is_space (drop at s) ≡ drop name s
    here = past_to is_space s at refl name-is

    as-begins : begins (drop at s) ≡ b
    as-begins = begins-at at name-is ∙ sym b-is

    pub no_name : not b ≡ true → (test : Attribute → Bool) → FirstFails test s at
    no_name e test a more space z read = not_none read (none-begins (drop at s) (as-begins ∙ not-true b e))

    module _ (begun : not b ≡ false) where
      no-attribute : is_attribute (drop name s) ≡ false → (test : Attribute → Bool) → FirstFails test s at
      no-attribute e test a more space z read =
          not-misread read (one-broken (drop at s) (as-begins ∙ not-false b begun) (ap is_attribute here ∙ e))

      pub no_value : (v : Result ℕ ℕ) → ValueBegun s name v → is_ok v ≡ false → (test : Attribute → Bool) → FirstFails test s at
      no_value v value-begun e = no-attribute (not-valued name v value-begun e)

      module _ {v : Result ℕ ℕ} (value-begun : ValueBegun s name v) where
        module _ {value : ℕ} (v-is : v ≡ Ok value) {close : ℕ} (close-is : close ≡ run_end is_value s value) {f : ℕ}
            (f-is : f ≡ get_or s close 0) where
          pub no-close : (f ≡ 34 → ⊥) → (test : Attribute → Bool) → FirstFails test s at
          no-close other = no-attribute (not-closed name value-begun v-is close-is f-is other)

          pub is_one : f ≡ 34 → {end : ℕ} → end ≡ run_end is_name s name → AttributeThere s at (record { name = name; end = end; value = value; close = close })
          is_one e {end} end_is =
              let valued = value_there name value-begun v-is close-is f-is in
              let closed = close_at name value-begun v-is close-is f-is in
              let attribute = is-closed name value-begun v-is close-is f-is e in
              let name-there : name ≤ length s = omega (arith, valued.2, valued.3) in
              record {
                read =
                    one-read (drop at s) (as-begins ∙ not-false b begun) (ap is_attribute here ∙ attribute)
                    ∙ ap
                    (λ (t : List ℕ). with_attribute (attribute_of (run is_space (drop at s)) t) (attributes_of (drop 1 (from_close t))))
                    here
                    ∙ ap (λ (t : List ℕ). with_attribute (attribute_from s at name) (attributes_of t)) (one-behind s close closed);
                name-is = run-between is_name s name end_is;
                value-is = run-between is_value s value close-is ∙ ap (run is_value) (sym valued.1);
                behind = omega (arith, name-is);
                name-first = valued.2;
                name-ends = omega (arith, end_is);
                name-within = omega (arith, end_is, end-within is_name s name name-there);
                value-ends = omega (arith, close-is);
                within = byte-within s close 34 (sym f-is ∙ e) (omega arith);
              }

  -- an attribute that was read
  module _ (at : ℕ) {r : Option AttributePlaces} (read : AttributeRead s at r) where
    pub not_there : (test : Attribute → Bool) → r ≡ None → FirstFails test s at
    not_there test e = subst (AttributeRead s at) e read test

    module _ {a : AttributePlaces} (r-is : r ≡ Some a) where
      pub there : AttributeThere s at a
      there = subst (AttributeRead s at) r-is read

      -- a test of the name and of the value
      pub tested : (test : List ℕ → List ℕ → Bool) {b : Bool}
          → b ≡ test (take (a.end - a.name) (drop a.name s)) (take (a.close - a.value) (drop a.value s))
          → b ≡ test (attribute_from s at a.name).name (attribute_from s at a.name).value
      tested test e = e ∙ ap₂ test there.name-is there.value-is
