-- The text of an element that was met and whether it is plain, by the places in the text that the code has. A text is read only where the
-- element's row asks for it, so both are told only there.
--     plain-read     what the code tests is whether the row's text, if it is asked for, is plain
--     text-read      the text between the two places is the element's
--     stands-there   it stands in the text at its place
-- Assumes nothing.
use mathlib.Core.Path.{◌≡◌, refl, sym, ◌∙◌, ap}
use mathlib.Core.Bool.{Bool, true, false, ◌&&◌, ◌||◌, not, cond}
use mathlib.Core.List.{List, []}
use Prim.Native.Nat.{ℕ, ◌+◌, ◌-◌, ◌≤◌}
use native.Mathlib.Omega.{arith}
use lib.Dec.{eqb}
use lib.ListN.{length, get_or, take, drop, length-drop}
use lib.Seq.{drop-drop, length-take-le}
use Rattle.xml.specs.Bytes.{is_text, run_length, run}
use Rattle.xml.specs.Scanning.{first_byte}
use Rattle.xml.proofs.Places.{first-at}
use Rattle.scan.proofs.Runs.{run_end, past-run}
use Rattle.pacs.specs.Walk.{end_follows}
use Rattle.pacs.specs.declared.notes.Text.{Text}
use Rattle.pacs.specs.Kept.{placed_text, StandsIn}

module _ (t : List ℕ) (at : ℕ) where
  -- the byte behind the one that ends the text
  follows : end_follows (drop at t) ≡ eqb (get_or t (run_end is_text t at + 1) 0) 0x2f
  follows =
      ap (λ (s : List ℕ). eqb (first_byte (drop 1 s)) 0x2f) (past-run is_text t at)
      ∙ ap (λ (s : List ℕ). eqb (first_byte s) 0x2f) (drop-drop 1 (run_end is_text t at) t)
      ∙ ap (λ (b : ℕ). eqb b 0x2f) (first-at t (run_end is_text t at + 1))

  abbrev end_read : Bool → ℕ
  end_read reads = cond reads (run_end is_text t at) at

  pub plain-read : (nests asked : Bool)
      → (not (nests && asked) || eqb (get_or t (end_read (nests && asked) + 1) 0) 0x2f)
      ≡ (not asked || cond nests (end_follows (drop at t)) true)
  plain-read true true = sym follows
  plain-read true false = refl
  plain-read false true = refl
  plain-read false false = refl

  pub text-read : (nests : Bool) → cond nests (run is_text (drop at t)) [] ≡ placed_text t at (end_read (nests && true))
  text-read true =
      let e : run_length is_text (drop at t) ≡ run_end is_text t at - at = omega arith in
      ap (λ (n : ℕ). take n (drop at t)) e
  text-read false = let e : 0 ≡ at - at = omega arith in ap (λ (n : ℕ). take n (drop at t)) e

pub stands-there : (t : List ℕ) (x : Text) (ends : ℕ) → x.bytes.now ≡ placed_text t x.place ends → x.place ≤ ends → ends ≤ length t
    → StandsIn t x
stands-there t x ends is ordered within =
    let long : length x.bytes.now ≡ ends - x.place =
    ap length is ∙ length-take-le (ends - x.place) (drop x.place t) (omega (arith, length-drop x.place t))
    in
    let k : x.place + length x.bytes.now - x.place ≡ ends - x.place = omega arith in
    record { within = omega arith; holds = ap (λ (n : ℕ). take n (drop x.place t)) k ∙ sym is }
