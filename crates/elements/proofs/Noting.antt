-- One turn of `note` on plain values: what is kept before it and after it, by what each call has answered.
--     stays-wrong    something was wrong before
--     Looked         what the calls have answered where nothing was
--     found-wrong    the element has a fault
--     kept_on        it has none, and is kept
--     no-places      of places nothing is said where there is a fault
--     kept-placed    where there is none, the texts that are kept stand at theirs
-- Assumes nothing.
use mathlib.Core.Path.{◌≡◌, refl, sym, ◌∙◌, ap, ap₂, subst}
use mathlib.Core.Logic.{inl, inr, ⊎_elim}
use mathlib.Core.Bool.{Bool, true, false, ◌&&◌, ◌||◌, not, cond}
use mathlib.Core.List.{List, [], ◌∷◌, ◌++◌}
use Prim.Native.Nat.{ℕ, suc, ◌+◌, ◌≤◌, ◌<◌}
use native.Mathlib.Numerals.{add-one}
use native.Mathlib.Omega.{arith}
use borrow.Author.Tests.{eqb-true, eq-eqb, ne_eqb}
use lib.Dec.{eqb, ltb}
use lib.ListN.{length, get_or, drop, length-set}
use lib.Seq.{get_or-set_same, get_or-set_other}
use Rattle.std.specs.Prelude.{Option, Some, None}
use Rattle.fields.proofs.Compared.{below_or_not}
use Rattle.fields.proofs.Tests.{and_left}
use Rattle.xml.specs.Bytes.{is_text, run}
use Rattle.xml.specs.Tree.{Attribute}
use Rattle.xml.specs.Scanning.{attributes_in, attributed}
use Rattle.scan.proofs.Runs.{run_end}
use Rattle.pacs.specs.declared.notes.Text.{Text}
use Rattle.pacs.specs.declared.notes.Notes.{Notes}
use Rattle.pacs.specs.declared.refusals.Refused.{Refused}
use Rattle.pacs.specs.declared.refusals.Wrong.{Wrong}
use Rattle.pacs.specs.Named.{Named, is_text_row}
use Rattle.pacs.specs.Judged.{is_euro}
use Rattle.pacs.specs.Kept.{placed_text, KeptRight, KeptWrong, StandsIn, KeptPlaced}
use Rattle.elements.specs.Noted.{met_at, fault_of, told_fault, keeping, Noted}
use Rattle.elements.proofs.Appending.{is_due, wrong_stays, goes-wrong, Added, goes_on}
use Rattle.elements.proofs.Plain.{plain-read, text-read}

-- the row that is due is the element's own, where that is asked
due-own : (n : ℕ) (m : Named) → is_due n m ≡ (eqb m.row n && (not (is_text_row m.row) || m.plain))
due-own n m = go (eqb m.row n) refl
  where
    go : (b : Bool) → eqb m.row n ≡ b → (b && (not (is_text_row n) || m.plain)) ≡ (b && (not (is_text_row m.row) || m.plain))
    go true e = ap (λ (r : ℕ). not (is_text_row r) || m.plain) (sym (eqb-true m.row n e))
    go false e = refl

-- no fault where the row is due and its text is as it has to be, and one where it isn't
no-fault : (row due : ℕ) (plain : Bool) → fault_of row due plain ≡ 0 → (eqb row due && plain) ≡ true
no-fault row due plain = go (eqb row due) plain (ltb row due)
  where
    go : (b p l : Bool) → cond b (cond p 0 (48 + row)) (cond l (64 + row) (32 + due)) ≡ 0 → (b && p) ≡ true
    go true true l e = refl
    go true false l e = absurd (omega arith)
    go false p true e = absurd (omega arith)
    go false p false e = absurd (omega arith)

some-fault : (row due : ℕ) (plain : Bool) → 32 ≤ fault_of row due plain → (eqb row due && plain) ≡ false
some-fault row due plain = go (eqb row due) plain (ltb row due)
  where
    go : (b p l : Bool) → 32 ≤ cond b (cond p 0 (48 + row)) (cond l (64 + row) (32 + due)) → (b && p) ≡ false
    go true true l e = absurd (omega arith)
    go true false l e = refl
    go false p l e = refl

pub stays-wrong : (t : List ℕ) (row behind at : ℕ) (nests : Bool) (kept : Notes) → (kept.fault ≡ None → ⊥)
    → Noted t row behind at nests kept kept
stays-wrong t row behind at nests kept h = λ seen fuel more space z e k.
    ⊎_elim
    (λ (r : KeptRight seen kept). absurd (h r.fault))
    (λ (w : KeptWrong seen kept). inr (wrong_stays seen (met_at t row more at nests) kept w))
    k

pub no-places : {R : Type 0} {fault : Option Refused} {refused : Refused} → fault ≡ Some refused → fault ≡ None → R
no-places {refused = refused} some none = let z : ◌≡◌ {A = Option Refused} None (Some refused) = sym none ∙ some in cc

-- what the calls have answered where nothing was wrong before
pub record Looked (t : List ℕ) (row at : ℕ) (nests : Bool) (kept : Notes) (ends : ℕ) (fault : Option Wrong) : Type 0 where
  pub right : kept.fault ≡ None
  pub reads : Bool
  pub plain : Bool
  pub asked : reads ≡ (nests && is_text_row row)
  pub ended : ends ≡ cond reads (run_end is_text t at) at
  pub tested : plain ≡ (not reads || eqb (get_or t (ends + 1) 0) 47)
  pub told : told_fault fault (fault_of row kept.due plain)

module _ {t : List ℕ} {row at : ℕ} {nests : Bool} {kept : Notes} {ends : ℕ} {fault : Option Wrong}
    (l : Looked t row at nests kept ends fault) where
  where-ended : ends ≡ cond (nests && is_text_row row) (run_end is_text t at) at
  where-ended = l.ended ∙ ap (λ (b : Bool). cond b (run_end is_text t at) at) l.asked

  plain-told : l.plain ≡ (not (is_text_row row) || (met_at t row [] at nests).plain)
  plain-told =
      l.tested
      ∙ ap₂ (λ (b : Bool) (n : ℕ). not b || eqb (get_or t (n + 1) 0) 47) l.asked where-ended
      ∙ plain-read t at nests (is_text_row row)

  -- the fault is by whether the element is the one that is due
  due-told : (seen : List Named) (more : List Attribute) → KeptRight seen kept
      → is_due (length seen) (met_at t row more at nests) ≡ (eqb row kept.due && l.plain)
  due-told seen more k =
      due-own (length seen) (met_at t row more at nests) ∙ ap₂ (λ (n : ℕ) (b : Bool). eqb row n && b) (sym k.due) (sym plain-told)

  pub found-wrong : (behind : ℕ) {wrong : Wrong} {place : ℕ} → fault ≡ Some wrong → {after : Notes}
      → after.fault ≡ Some (record { wrong = wrong; place = place }) → Noted t row behind at nests kept after
  found-wrong behind {wrong} {place} is {after} written = λ seen fuel more space z e k.
      ⊎_elim
      (λ (r : KeptRight seen kept).
      let told = subst (λ (f : Option Wrong). told_fault f (fault_of row kept.due l.plain)) is l.told in
      inr
      (goes-wrong
      seen
      (met_at t row more at nests)
      kept
      after
      (record { wrong = wrong; place = place })
      r
      written
      told.2
      (due-told seen more r ∙ some-fault row kept.due l.plain told.1)))
      (λ (w : KeptWrong seen kept). let none : ◌≡◌ {A = Option Refused} None (Some w.refused) = sym l.right ∙ w.fault in cc)
      k

  module _ (euro : Bool) (found : Text) (is-found : found.bytes.now ≡ placed_text t at ends) (none : fault ≡ None) where
    abbrev noted : Notes
    noted = keeping row found euro kept

    matched : (eqb row kept.due && l.plain) ≡ true
    matched =
        no-fault row kept.due l.plain
        (subst (λ (f : Option Wrong). told_fault f (fault_of row kept.due l.plain)) none l.told)

    same_text : row < length kept.texts → is_text_row row ≡ true → (blank : Text)
        → cond nests (run is_text (drop at t)) [] ≡ (get_or noted.texts row blank).bytes.now
    same_text h x blank =
        text-read t at nests
        ∙ ap (λ (b : Bool). placed_text t at (cond (nests && b) (run_end is_text t at) at)) (sym x)
        ∙ ap (placed_text t at) (sym where-ended)
        ∙ sym is-found
        ∙ ap (λ (y : Text). y.bytes.now) (sym (get_or-set_same kept.texts row found blank h))

    module _ (more : List Attribute) (paid : euro ≡ cond (eqb row 9) (is_euro more) kept.euro) where
      euro-by : (b : Bool) → eqb row 9 ≡ b → noted.euro ≡ cond b (is_euro more) kept.euro
      euro-by b e = paid ∙ ap (λ (x : Bool). cond x (is_euro more) kept.euro) e

      added : row < length kept.texts → (seen : List Named) → row ≡ length seen → Added seen (met_at t row more at nests) kept noted
      added h seen q =
          record {
            rows = length-set kept.texts row found;
            fault = l.right;
            due = add-one row ∙ ap suc q;
            texts = λ j b blank. get_or-set_other kept.texts row j found blank (λ (e : j ≡ row). omega arith);
            holds =
                subst
                (λ (n : ℕ). is_text_row n ≡ true → (blank : Text)
                → cond nests (run is_text (drop at t)) [] ≡ (get_or noted.texts n blank).bytes.now)
                q
                (same_text h);
            euro = λ b. euro-by false (ne_eqb row 9 (omega arith));
            now = λ b. euro-by true (eq-eqb row 9 (q ∙ b));
          }

      right-on : row < 16 → (seen : List Named) → KeptRight seen kept → KeptRight (seen ++ (met_at t row more at nests ∷ [])) noted
      right-on few seen k =
          let q : row ≡ length seen =
          eqb-true row kept.due (and_left (eqb row kept.due) l.plain matched) ∙ k.due in
          goes_on seen (met_at t row more at nests) kept noted k (added (omega (arith, k.rows)) seen q) (omega arith) (due-told seen more k ∙ matched)

    pub kept_on : (behind : ℕ) → row < 16
        → ((fuel : ℕ) (more : List Attribute) (space z : List ℕ) → attributes_in fuel (drop behind t) ≡ attributed more space z
        → euro ≡ cond (eqb row 9) (is_euro more) kept.euro)
        → Noted t row behind at nests kept noted
    kept_on behind few paid = λ seen fuel more space z e k.
        ⊎_elim
        (λ (r : KeptRight seen kept). inl (right-on more (paid fuel more space z e) few seen r))
        (λ (x : KeptWrong seen kept). let some : ◌≡◌ {A = Option Refused} None (Some x.refused) = sym l.right ∙ x.fault in cc)
        k

    pub kept-placed : row < 16 → StandsIn t found → KeptPlaced t kept → KeptPlaced t noted
    kept-placed few stands placed e =
        let before = placed l.right in
        let q : row ≡ kept.due = eqb-true row kept.due (and_left (eqb row kept.due) l.plain matched) in
        record {
          rows = length-set kept.texts row found ∙ before.rows;
          stand = λ r h x blank.
              let met : r < row + 1 = h in
              ⊎_elim
              (λ (b : r < row).
              subst (StandsIn t) (sym (get_or-set_other kept.texts row r found blank (λ (n : r ≡ row). omega arith)))
              (before.stand r (omega arith) x blank))
              (λ (b : row ≤ r).
              let own : r ≡ row = omega arith in
              let long : row < length kept.texts = omega (arith, before.rows) in
              subst (StandsIn t) (sym (ap (λ (k : ℕ). get_or noted.texts k blank) own ∙ get_or-set_same kept.texts row found blank long)) stands)
              (below_or_not r row);
        }
