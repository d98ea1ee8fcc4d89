-- Places in a text and what stands there: where a run ends at most, a name, and what stands behind an attribute. Assumes nothing.
use mathlib.Core.Path.{◌≡◌, refl, sym, ◌∙◌, ap}
use mathlib.Core.List.{List}
use mathlib.Core.Logic.{⊎_elim}
use Prim.Native.Nat.{ℕ, ◌+◌, ◌-◌, ◌≤◌, ◌<◌}
use native.Mathlib.Omega.{arith}
use lib.ListN.{length, take, drop, length-drop}
use lib.Seq.{drop-drop}
use mathlib.Core.Bool.{Bool}
use Rattle.fields.proofs.Compared.{below_or_not}
use Rattle.xml.specs.Bytes.{is_space, is_name, is_value, run_length, run, past}
use Rattle.scan.proofs.Runs.{run_end, past_to, run-between, run-over, end-within}
use Rattle.repeats.specs.Repeats.{name_in, behind}

-- from a place that is at most n behind the text's end, a run ends at most n behind it
end-at-most : (p : ℕ → Bool) (s : List ℕ) (n at : ℕ) → at ≤ length s + n → run_end p s at ≤ length s + n
end-at-most p s n at h =
    ⊎_elim
    (λ (l : at < length s). omega (arith, end-within p s at (omega arith)))
    (λ (l : length s ≤ at). omega (arith, run-over p s at l))
    (below_or_not at (length s))

-- where an attribute's name, = and quotes end at most
module _ (s : List ℕ) (name end equals : ℕ) (name-is : name ≡ run_end is_space s 0) (end-is : end ≡ run_end is_name s name)
    (equals-is : equals ≡ run_end is_space s end) where
  pub name-most : (name ≤ length s) × (end ≤ length s)
  name-most =
      let first = end-at-most is_space s 0 0 (omega arith) in
      let next = end-at-most is_name s 0 name (omega (arith, first, name-is)) in
      (omega (arith, first, name-is), omega (arith, next, end-is))

  pub equals-most : equals ≤ length s
  equals-most = omega (arith, end-at-most is_space s 0 end (omega (arith, name-most.1)), equals-is)

  pub quote-most : {quote : ℕ} → quote ≡ run_end is_space s (equals + 1) → quote ≤ length s + 1
  quote-most e = omega (arith, end-at-most is_space s 1 (equals + 1) (omega (arith, equals-most)), e)

  pub close-most : {quote close : ℕ} → quote ≡ run_end is_space s (equals + 1) → close ≡ run_end is_value s (quote + 1)
      → close ≤ length s + 2
  close-most {quote} e f = omega (arith, end-at-most is_value s 2 (quote + 1) (omega (arith, quote-most e)), f)

module _ (s : List ℕ) (from end : ℕ) (from_is : from ≡ run_end is_space s 0) (end_is : end ≡ run_end is_name s from) where
  pub name-part : take (end - from) (drop from s) ≡ name_in s
  unfolding name_in
  name-part = run-between is_name s from end_is ∙ ap (run is_name) (sym (past_to is_space s 0 refl from_is))

  pub attribute-past : (equals quote close : ℕ)
      → equals ≡ run_end is_space s end
      → quote ≡ run_end is_space s (equals + 1)
      → close ≡ run_end is_value s (quote + 1)
      → drop (close + 1) s ≡ behind s
  unfolding behind
  attribute-past equals quote close equals-is quote-is close-is =
      let to-name = past_to is_space s 0 refl from_is in
      let to-equals = past_to is_space s end (past_to is_name s from to-name end_is) equals-is in
      let to-quote = past_to is_space s (equals + 1) (ap (drop 1) to-equals ∙ drop-drop 1 equals s) quote-is in
      let to-close = past_to is_value s (quote + 1) (ap (drop 1) to-quote ∙ drop-drop 1 quote s) close-is in
      sym (ap (drop 1) to-close ∙ drop-drop 1 close s)

-- what stands behind an attribute is no longer than the text
pub behind_within : (s : List ℕ) → length (behind s) ≤ length s
unfolding behind
behind_within s =
    let name = past is_space s in
    let equals = past is_space (past is_name name) in
    let quote = past is_space (drop 1 equals) in
    omega (
      arith,
      length-drop (run_length is_space s) s,
      length-drop (run_length is_name name) name,
      length-drop (run_length is_space (past is_name name)) (past is_name name),
      length-drop 1 equals,
      length-drop (run_length is_space (drop 1 equals)) (drop 1 equals),
      length-drop 1 quote,
      length-drop (run_length is_value (drop 1 quote)) (drop 1 quote),
      length-drop 1 (past is_value (drop 1 quote)),
    )
