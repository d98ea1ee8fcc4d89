-- Attributes read one after the other: those before a place, and those from there on.
--     broken-there, ended-there  what the end of an attribute tells
--     ends-behind                an attribute ends behind its closing quote
--     Going                      what the loop over attributes has read, and what is left
--     starts                     before the first attribute
--     all_read, misread-at       none begins: all are read; or what begins is none
--     goes_on                    one more is read
-- Assumes nothing.
use mathlib.Core.Path.{◌≡◌, refl, sym, ◌∙◌, ap, ap₂, subst}
use mathlib.Core.Bool.{Bool, true, false, ◌&&◌}
use mathlib.Core.List.{List, [], ◌∷◌, ◌++◌, append-nil}
use Prim.Native.Nat.{ℕ, zero, suc, ◌+◌, ◌-◌, ◌≤◌, ◌<◌}
use native.Mathlib.Omega.{arith}
use lib.Dec.{ltb}
use lib.ListN.{length, get_or, drop, length-append, length-drop}
use Rattle.std.specs.Prelude.{Result, Ok, Err, is_ok, IsErr}
use Rattle.fields.proofs.Tests.{never}
use Rattle.xml.specs.Bytes.{is_space, is_first, is_value, run, past}
use Rattle.xml.specs.Tree.{Attribute}
use Rattle.xml.specs.Scanning.{
  from_close,
  attribute_of,
  is_attribute,
  begins,
  misread,
  attributed,
  with_attribute,
  attributes_in,
  attributes_of,
}
use Rattle.xml.proofs.Places.{byte-within, one-behind}
use Rattle.xml.proofs.FirstAttribute.{
  as-in,
  none-begins-in,
  one-broken-in,
  one-read-in,
  prepended,
  to-misread,
  to-all,
  to-one-more,
}
use Rattle.scan.specs.AttributeParts.{ValueBegun}
use Rattle.scan.proofs.Runs.{run_end, past_to}
use Rattle.scan.proofs.AttributeParts.{begins-at, value_there, close_at, is-closed}
use Rattle.tags.specs.Tagged.{AttributeEnded}

-- what the two answers tell
pub broken-there : (s : List ℕ) (at : ℕ) (r : Result ℕ ℕ) → AttributeEnded s at r → is_ok r ≡ false → is_attribute (drop at s) ≡ false
broken-there s at (Ok p) h e = never e
broken-there s at (Err p) h e = h

pub ended-there : (s : List ℕ) (at : ℕ) {r : Result ℕ ℕ} {p : ℕ} → AttributeEnded s at r → r ≡ Ok p → AttributeEnded s at (Ok p)
ended-there s at h e = subst (AttributeEnded s at) e h

-- no attribute
pub not_ended : (s : List ℕ) (at : ℕ) (r : Result ℕ ℕ) → IsErr r → is_attribute (drop at s) ≡ false → AttributeEnded s at r
not_ended s at (Ok p) h e = never (sym h)
not_ended s at (Err p) h e = e

-- an attribute ends behind its closing quote
pub ends-behind : (s : List ℕ) (at : ℕ) {r : Result ℕ ℕ} {v : ℕ} → ValueBegun s at r → r ≡ Ok v → {c : ℕ} → c ≡ run_end is_value s v
    → {f : ℕ} → f ≡ get_or s c 0 → f ≡ 34 → AttributeEnded s at (Ok (c + 1))
ends-behind s at begun r-is {c} c-is f-is e = (
  is-closed s at begun r-is c-is f-is e,
  one-behind s c (close_at s at begun r-is c-is f-is),
  omega (arith, (value_there s at begun r-is c-is f-is).2),
  omega (arith, byte-within s c 34 (sym f-is ∙ e) (omega arith)),
)

pub record Going (s : List ℕ) (at from next count : ℕ) : Type 0 where
  pub done : List Attribute
  pub fuel : ℕ
  pub so_far : attributes_of (drop at s) ≡ prepended done (attributes_in (suc fuel) (drop from s))
  pub enough : length s - from ≤ fuel
  pub counted : count ≡ length done
  pub few : count ≤ from
  pub behind : at ≤ from
  pub next-is : next ≡ run_end is_space s from

-- before the first
pub starts : (s : List ℕ) (at : ℕ) {next : ℕ} → next ≡ run_end is_space s at → Going s at at next 0
starts s at e =
    record {
      done = [];
      fuel = length (drop at s);
      so_far = as-in (drop at s);
      enough = omega (arith, length-drop at s);
      counted = refl;
      few = omega arith;
      behind = omega arith;
      next-is = e;
    }

module _ (s : List ℕ) (at : ℕ) {from next count : ℕ} (g : Going s at from next count) {b : Bool}
    (b-is : b ≡ (ltb from next && is_first (get_or s next 0))) where
  as-begins : begins (drop from s) ≡ b
  as-begins = begins-at s from g.next-is ∙ sym b-is

  here : past is_space (drop from s) ≡ drop next s
  here = past_to is_space s from refl g.next-is

  -- none begins: all are read
  pub all_read : b ≡ false → attributes_of (drop at s) ≡ attributed g.done (run is_space (drop from s)) (drop next s)
  all_read e =
      g.so_far
      ∙ ap (prepended g.done) (none-begins-in g.fuel (drop from s) (as-begins ∙ e))
      ∙ to-all g.done [] (run is_space (drop from s)) (past is_space (drop from s))
      ∙ ap₂ (λ (more : List Attribute) (z : List ℕ). attributed more (run is_space (drop from s)) z) (append-nil g.done) here

  -- what begins is none
  pub misread-at : b ≡ true → is_attribute (drop next s) ≡ false → attributes_of (drop at s) ≡ misread
  misread-at e f =
      g.so_far
      ∙ ap (prepended g.done) (one-broken-in g.fuel (drop from s) (as-begins ∙ e) (ap is_attribute here ∙ f))
      ∙ to-misread g.done

  -- one more
  module _ (e : b ≡ true) {end : ℕ} (one : is_attribute (drop next s) ≡ true) (rest : drop 1 (from_close (drop next s)) ≡ drop end s)
      (on : next < end) (within : end ≤ length s) where
    one_more : Attribute
    one_more = attribute_of (run is_space (drop from s)) (past is_space (drop from s))

    from_end : (n : ℕ) → attributes_in (suc n) (drop from s) ≡ with_attribute one_more (attributes_in n (drop end s))
    unfolding one_more
    from_end n =
        one-read-in n (drop from s) (as-begins ∙ e) (ap is_attribute here ∙ one)
        ∙ ap (λ (t : List ℕ). with_attribute one_more (attributes_in n t)) (ap (λ (t : List ℕ). drop 1 (from_close t)) here ∙ rest)

    pub goes_on : {next' : ℕ} → next' ≡ run_end is_space s end → Going s at end next' (count + 1)
    goes_on {next'} q = go g.fuel refl
      where
        go : (n : ℕ) → g.fuel ≡ n → Going s at end next' (count + 1)
        go zero z = absurd (omega (arith, g.enough, g.next-is))
        go (suc n) z =
            record {
              done = g.done ++ one_more ∷ [];
              fuel = n;
              so_far =
                  g.so_far
                  ∙ ap (prepended g.done) (from_end g.fuel ∙ ap (λ (k : ℕ). with_attribute one_more (attributes_in k (drop end s))) z)
                  ∙ to-one-more g.done one_more (attributes_in (suc n) (drop end s));
              enough = omega (arith, g.enough, g.next-is);
              counted = omega (arith, g.counted, length-append g.done (one_more ∷ []));
              few = omega (arith, g.few, g.next-is);
              behind = omega (arith, g.behind, g.next-is);
              next-is = q;
            }
