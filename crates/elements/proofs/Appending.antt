-- What is kept of the named elements that were met, with one more behind them.
--     wrong_stays    what is wrong stays so
--     goes-wrong     an element that is not the one that was due, or a text that holds one
--     Added          what is written of an element that was due
--     goes_on        it is kept as those before it
-- Assumes nothing.
use mathlib.Core.Path.{◌≡◌, sym, ◌∙◌, ap, subst}
use mathlib.Core.Logic.{⊎_elim}
use mathlib.Core.Bool.{Bool, true, false, ◌&&◌, ◌||◌, not}
use mathlib.Core.List.{List, [], ◌∷◌, ◌++◌, append_assoc}
use Prim.Native.Nat.{ℕ, suc, ◌≤◌, ◌<◌}
use native.Mathlib.Omega.{arith}
use lib.Dec.{eqb}
use lib.ListN.{length, get_or, length-append, get_or-append}
use lib.Seq.{get_or-append_seam}
use Rattle.std.specs.Prelude.{Some, None}
use Rattle.fields.proofs.Compared.{below_or_not}
use Rattle.pacs.specs.declared.notes.Text.{Text}
use Rattle.pacs.specs.declared.notes.Notes.{Notes}
use Rattle.pacs.specs.declared.refusals.Refused.{Refused}
use Rattle.pacs.specs.Named.{Named, is_text_row, amount_row, outside}
use Rattle.pacs.specs.Judged.{in_order, element_at, is_euro, element_refusal}
use Rattle.pacs.specs.Wrongs.{wrong_refusal}
use Rattle.pacs.specs.Kept.{KeptText, KeptRight, KeptWrong}

-- an element of the row that is due, whose text is as it has to be
abbrev pub is_due : ℕ → Named → Bool
is_due n m = eqb m.row n && (not (is_text_row n) || m.plain)

module _ (seen : List Named) (m : Named) where
  grown : (later : List Named) → in_order 0 ((seen ++ (m ∷ [])) ++ later) ≡ in_order 0 (seen ++ (m ∷ later))
  grown later = ap (λ (ms : List Named). in_order 0 ms) (append_assoc seen (m ∷ []) later)

  one_more : length (seen ++ (m ∷ [])) ≡ suc (length seen)
  one_more = length-append seen (m ∷ []) ∙ omega arith

  pub wrong_stays : (kept : Notes) → KeptWrong seen kept → KeptWrong (seen ++ (m ∷ [])) kept
  wrong_stays kept w =
      record { refused = w.refused; fault = w.fault; is = w.is; never = λ later. grown later ∙ w.never (m ∷ later) }

  pub goes-wrong : (kept after : Notes) (refused : Refused) → KeptRight seen kept → after.fault ≡ Some refused
      → wrong_refusal refused.wrong ≡ element_refusal → is_due (length seen) m ≡ false → KeptWrong (seen ++ (m ∷ [])) after
  goes-wrong kept after refused k f is e =
      record {
        refused = refused;
        fault = f;
        is = is;
        never = λ later.
            grown later ∙ k.first (m ∷ later) ∙ ap (λ (b : Bool). b && in_order (suc (length seen)) later) e;
      }

  pub record Added (kept after : Notes) : Type 0 where
    pub rows : length after.texts ≡ length kept.texts
    pub fault : after.fault ≡ None
    pub due : after.due ≡ suc (length seen)
    pub texts : (r : ℕ) → r < length seen → (blank : Text) → get_or after.texts r blank ≡ get_or kept.texts r blank
    pub holds : is_text_row (length seen) ≡ true → (blank : Text) → m.text ≡ (get_or after.texts (length seen) blank).bytes.now
    pub euro : amount_row < length seen → after.euro ≡ kept.euro
    pub now : length seen ≡ amount_row → after.euro ≡ is_euro m.attributes

  -- those before it are where they were, and it stands behind them
  earlier : (r : ℕ) → r < length seen → element_at (seen ++ (m ∷ [])) r ≡ element_at seen r
  earlier r h = get_or-append seen (m ∷ []) _ r h

  newest : element_at (seen ++ (m ∷ [])) (length seen) ≡ m
  newest = get_or-append_seam seen m [] _

  module _ (kept after : Notes) (k : KeptRight seen kept) (a : Added kept after) where
    text-before : (r : ℕ) → r < length seen → is_text_row r ≡ true → KeptText (seen ++ (m ∷ [])) after r
    text-before r h e =
        record {
          holds = λ blank.
              ap (λ (n : Named). n.text) (earlier r h)
              ∙ (k.texts r h e).holds blank
              ∙ ap (λ (x : Text). x.bytes.now) (sym (a.texts r h blank));
        }

    text-newest : is_text_row (length seen) ≡ true → KeptText (seen ++ (m ∷ [])) after (length seen)
    text-newest e = record { holds = λ blank. ap (λ (n : Named). n.text) newest ∙ a.holds e blank }

    text-kept : (r : ℕ) → r < length (seen ++ (m ∷ [])) → is_text_row r ≡ true → KeptText (seen ++ (m ∷ [])) after r
    text-kept r h =
        ⊎_elim
        (λ (l : r < length seen). text-before r l)
        (λ (l : length seen ≤ r).
        let q : length seen ≡ r = omega (arith, one_more) in
        subst (λ (n : ℕ). is_text_row n ≡ true → KeptText (seen ++ (m ∷ [])) after n) q text-newest)
        (below_or_not r (length seen))

    euro-kept : amount_row < length (seen ++ (m ∷ []))
        → after.euro ≡ is_euro (element_at (seen ++ (m ∷ [])) amount_row).attributes
    euro-kept h =
        ⊎_elim
        (λ (l : amount_row < length seen).
        a.euro l ∙ k.euro l ∙ ap (λ (n : Named). is_euro n.attributes) (sym (earlier amount_row l)))
        (λ (l : length seen ≤ amount_row).
        let q : length seen ≡ amount_row = omega (arith, one_more) in
        let n : element_at (seen ++ (m ∷ [])) amount_row ≡ m = subst (λ (i : ℕ). element_at (seen ++ (m ∷ [])) i ≡ m) q newest in
        a.now q ∙ ap (λ (n : Named). is_euro n.attributes) (sym n))
        (below_or_not amount_row (length seen))

    pub goes_on : length seen < outside → is_due (length seen) m ≡ true → KeptRight (seen ++ (m ∷ [])) after
    goes_on h e =
        record {
          rows = a.rows ∙ k.rows;
          fault = a.fault;
          due = a.due ∙ sym one_more;
          few = omega (arith, one_more);
          first = λ later.
              grown later
              ∙ k.first (m ∷ later)
              ∙ ap (λ (b : Bool). b && in_order (suc (length seen)) later) e
              ∙ ap (λ (n : ℕ). in_order n later) (sym one_more);
          texts = text-kept;
          euro = euro-kept;
        }
