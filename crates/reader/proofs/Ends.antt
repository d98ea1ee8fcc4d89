-- An end tag of a name.
--     end_short        what is left of the text is shorter than the name
--     end-differs      other bytes stand there
--     end-open         it isn't closed
--     end-closed       it is, and what stands behind it
-- Assumes nothing.
use Prim.Native.Nat.{ℕ, ◌+◌, ◌-◌, ◌<◌}
use mathlib.Core.Path.{◌≡◌, ap, sym, ◌∙◌}
use mathlib.Core.Bool.{Bool, true, false, not, and-false}
use mathlib.Core.List.{List}
use native.Mathlib.Omega.{arith}
use borrow.Author.Tests.{eq-eqb, ne_eqb, not-true, not-false}
use lib.ListN.{length, get_or, take, drop, length-take, length-drop}
use lib.Seq.{drop-drop}
use Rattle.fields.specs.Text.{same}
use Rattle.fields.proofs.Same.{same-lengths}
use Rattle.xml.specs.Bytes.{is_space, run_length, past}
use Rattle.xml.proofs.Places.{first-at, byte-within}
use Rattle.pacs.specs.Walk.{from_space, is_end}

module _ (t : List ℕ) (at : ℕ) (name : List ℕ) where
  pub end_short : length t - at < length name → is_end name (drop at t) ≡ false
  end_short h =
      let short : length (take (length name) (drop at t)) ≡ length name → ⊥ =
      λ e. let l = simp (length-take, length-drop) at e in omega arith
      in
      rw (same-lengths (take (length name) (drop at t)) name short)

  -- the part of the text that the code compares, and the test that it makes
  abbrev there : List ℕ
  there = take (at + length name - at) (drop at t)

  same-there : same (take (length name) (drop at t)) name ≡ same there name
  same-there =
      let n : length name ≡ at + length name - at = omega arith in
      ap (λ (k : ℕ). same (take k (drop at t)) name) n

  pub end-differs : {b : Bool} → b ≡ same there name → not b ≡ true → is_end name (drop at t) ≡ false
  end-differs {b} e h = rw (same-there, ← e, not-true b h)

  -- where the end tag's > is due
  abbrev closing : ℕ
  closing = at + length name + run_length is_space (drop (at + length name) t)

  rest_at : past is_space (from_space name (drop at t)) ≡ drop closing t
  rest_at =
      rw (drop-drop (length name) at t, drop-drop (run_length is_space (drop (at + length name) t)) (at + length name) t)

  module _ {p b : ℕ} (is-closing : p ≡ closing) (byte : b ≡ get_or t p 0) where
    there-byte : b ≡ get_or t closing 0
    there-byte = byte ∙ ap (λ (k : ℕ). get_or t k 0) is-closing

    pub end-open : (b ≡ 0x3e → ⊥) → is_end name (drop at t) ≡ false
    end-open h =
        rw (
          rest_at,
          first-at t closing,
          ← there-byte,
          ne_eqb b 0x3e h,
          and-false (same (take (length name) (drop at t)) name),
        )

    pub end-closed : {s : Bool} → s ≡ same there name → not s ≡ false → b ≡ 0x3e → is_end name (drop at t) ≡ true
    end-closed {s} e h greater =
        rw (rest_at, first-at t closing, ← there-byte, eq-eqb b 0x3e greater, same-there, ← e, not-false s h)

    pub behind-end : drop 1 (past is_space (from_space name (drop at t))) ≡ drop (p + 1) t
    behind-end = rw (rest_at, is-closing) (drop-drop 1 closing t)

    pub end_later : at < p + 1
    end_later = omega arith

    pub end_fits : b ≡ 0x3e → p < length t
    end_fits greater = byte-within t p 0x3e (sym byte ∙ greater) (omega arith)
