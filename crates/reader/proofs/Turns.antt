-- What a turn of the walk has of the functions that it calls.
--     other-end       no end tag of that name
--     behind-end      an end tag, and what stands behind it
--     no_slash        no end tag's /
--     first, no-first a name's first byte, or another
--     closed-root     a root without content
-- Assumes nothing.
use Prim.Native.Nat.{ℕ, ◌+◌, ◌≤◌, ◌<◌}
use mathlib.Core.Path.{◌≡◌, ap, sym, ◌∙◌}
use mathlib.Core.Bool.{Bool, true, false, not}
use mathlib.Core.List.{List, [], ◌++◌}
use borrow.Author.Tests.{not-true, not-false}
use lib.ListN.{length, get_or, drop}
use Rattle.std.specs.Prelude.{Option, Some, None}
use Rattle.xml.specs.Bytes.{is_space, is_first, is_name, run_length, run, past}
use Rattle.xml.specs.Tree.{Tag, self_closing}
use Rattle.xml.specs.Scanning.{attributes_of, tag_behind, closes}
use Rattle.pacs.specs.declared.notes.Notes.{Notes}
use Rattle.pacs.specs.Named.{named, row_of, outside}
use Rattle.pacs.specs.Kept.{placed_text, Kept}
use Rattle.pacs.specs.Walk.{is_end, from_space, arrived}
use Rattle.pacs.proofs.Going.{root-closes}
use Rattle.reader.specs.Walks.{EndRead, WalkedOn}

pub other-end : (t : List ℕ) (at : ℕ) (name : List ℕ) {e : Option ℕ} → e ≡ None → EndRead t at name e → is_end name (drop at t) ≡ false
other-end t at name is h = rw is at h

pub behind-end : (t : List ℕ) (at : ℕ) (name : List ℕ) {e : Option ℕ} {p : ℕ} → e ≡ Some p → EndRead t at name e
    → (is_end name (drop at t) ≡ true) × (drop 1 (past is_space (from_space name (drop at t))) ≡ drop p t) × (at < p) × (p ≤ length t)
behind-end t at name is h = rw is at h

pub no_slash : (t : List ℕ) (q : ℕ) {b : ℕ} → b ≡ get_or t q 0 → (b ≡ 0x2f → ⊥) → get_or t q 0 ≡ 0x2f → ⊥
no_slash t q e h x = h (e ∙ x)

pub no-first : (t : List ℕ) (q : ℕ) {r : Bool} {b : ℕ} → r ≡ is_first b → b ≡ get_or t q 0 → not r ≡ true → is_first (get_or t q 0) ≡ false
no-first t q {r} {b} e f h = ap is_first (sym f) ∙ sym e ∙ not-true r h

pub first : (t : List ℕ) (q : ℕ) {r : Bool} {b : ℕ} → r ≡ is_first b → b ≡ get_or t q 0 → not r ≡ false → is_first (get_or t q 0) ≡ true
first t q {r} {b} e f h = ap is_first (sym f) ∙ sym e ∙ not-false r h

-- a root without content
pub closed-root : (t : List ℕ) (start : ℕ) → get_or t start 0 ≡ 0x3c → is_first (get_or t (start + 1) 0) ≡ true → {behind : ℕ}
    → behind ≡ start + 1 + run_length is_name (drop (start + 1) t) → (u : Tag) {p row : ℕ}
    → tag_behind (run is_name (drop (start + 1) t)) (attributes_of (drop behind t)) ≡ closes u (drop p t) → p ≤ length t
    → row ≡ row_of outside (placed_text t (start + 1) behind) → {kept : Notes} → Kept ([] ++ named row u [] true) kept
    → WalkedOn t start p kept
closed-root t start less head {behind} name u {p} {row} read within is {kept} keeps =
    record {
      root = self_closing u;
      seen = [] ++ named row u [] true;
      arrives =
          root-closes t start less head name p u read
          ∙ ap (λ (k : ℕ). arrived (self_closing u) ([] ++ named k u [] true) (drop p t)) (sym is);
      within = within;
      keeps = keeps;
    }
