-- The end of a declaration by the bytes behind its attributes.
--     no-question, no-greater    no ?, or no > behind it
--     closes                     ?>
-- Assumes nothing.
use mathlib.Core.Path.{◌≡◌, refl, sym, ◌∙◌, ap}
use mathlib.Core.Bool.{false, ◌&&◌, and-false}
use mathlib.Core.List.{List, []}
use Prim.Native.Nat.{ℕ, ◌+◌, ◌≤◌}
use native.Mathlib.Omega.{arith}
use borrow.Author.Tests.{eq-eqb, ne_eqb}
use lib.ListN.{length, get_or, drop}
use lib.Seq.{drop-drop}
use Rattle.std.specs.Prelude.{Ok, Err}
use Rattle.xml.specs.Bytes.{is_space, is_first, run, past}
use Rattle.xml.specs.Scanning.{first_byte, begins, attributed, attributes_of}
use Rattle.xml.proofs.Runs.{question-no-first}
use Rattle.xml.proofs.Places.{first-at, byte-within, one-behind, tested_at}
use Rattle.xml.proofs.FirstAttribute.{none-begins, none-behind}
use Rattle.scan.proofs.Runs.{run_end, past_to, end-within}
use Rattle.prolog.specs.Ends.{Closed}

module _ (s : List ℕ) (at : ℕ) {end : ℕ} (end_is : end ≡ run_end is_space s at) {b : ℕ} (b-is : b ≡ get_or s end 0) where
  here : past is_space (drop at s) ≡ drop end s
  here = past_to is_space s at refl end_is

  there : {space z : List ℕ} → attributes_of (drop at s) ≡ attributed [] space z → z ≡ drop end s
  there read = none-behind (drop at s) read ∙ here

  within : at ≤ length s → end ≤ length s
  within h = omega (arith, end-within is_space s at h)

  -- no ?
  pub no-question : (b ≡ 63 → ⊥) → Closed s at (Err end)
  no-question other = (λ space z read. simp (tested_at s end (there read) b-is 63 ∙ ne_eqb b 63 other), within)

  module _ (b-question : b ≡ 63) {d : ℕ} (d-is : d ≡ get_or s (end + 1) 0) where
    -- ? without >
    pub no-greater : (d ≡ 62 → ⊥) → Closed s at (Err end)
    no-greater other = (
      λ space z read. simp (tested_at s (end + 1) (one-behind s end (there read)) d-is 62 ∙ ne_eqb d 62 other, and-false),
      within,
    )

    none : begins (drop at s) ≡ false
    none =
        ap (λ (k : ℕ). is_space (first_byte (drop at s)) && is_first k) (ap first_byte here ∙ first-at s end ∙ sym b-is ∙ b-question)
        ∙ ap (◌&&◌ (is_space (first_byte (drop at s)))) question-no-first
        ∙ and-false (is_space (first_byte (drop at s)))

    -- ?>
    pub closes : d ≡ 62 → Closed s at (Ok (end + 2))
    closes d-greater = (
      run is_space (drop at s),
      drop end s,
      none-begins (drop at s) none ∙ ap (attributed [] (run is_space (drop at s))) here,
      simp (
        tested_at s end refl b-is 63 ∙ eq-eqb b 63 b-question,
        tested_at s (end + 1) (one-behind s end refl) d-is 62 ∙ eq-eqb d 62 d-greater,
      ),
      drop-drop 2 end s,
      omega (arith, byte-within s (end + 1) 62 (sym d-is ∙ d-greater) (omega arith)),
    )
