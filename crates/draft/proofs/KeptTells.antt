-- What was kept tells the verdict.
--     told-fault, told-missing, told-texts    by what is wrong, by the row that is due, by the five texts
--     Placed, FivePlaced, five-placed         the five texts lie in their places within a text of n bytes, where a test says so
--     told-placed, told-misplaced             the reader keeps none that don't
-- Assumes nothing.
use mathlib.Core.Path.{◌≡◌, refl, sym, ◌∙◌, ap, ap₂}
use mathlib.Core.Bool.{Bool, true, false, ◌&&◌}
use mathlib.Core.List.{List, [], ◌++◌, append-nil}
use mathlib.Core.Logic.{inl, inr}
use Prim.Native.Nat.{ℕ, ◌+◌, ◌≤◌, ◌<◌}
use native.Mathlib.Omega.{arith}
use borrow.Author.Tests.{le-leb, leb-true, ne_eqb}
use lib.Dec.{eqb, leb}
use lib.ListN.{length, get_or}
use Rattle.std.specs.Prelude.{Option, Some, None}
use Rattle.fields.proofs.Tests.{and_left, and_right, never}
use Rattle.pacs.specs.declared.notes.Text.{Text}
use Rattle.pacs.specs.declared.notes.Notes.{Notes}
use Rattle.pacs.specs.declared.refusals.Refused.{Refused}
use Rattle.pacs.specs.Named.{Named, is_text_row, sender_row, txid_row, amount_row, payee_row, iban_row, outside}
use Rattle.pacs.specs.Judged.{refused, in_order, element_at, text_at, is_euro, judged}
use Rattle.pacs.specs.Kept.{KeptRight, Kept, KeptPlaced}
use Rattle.pacs.specs.Wrongs.{wrong_refusal}
use Rattle.draft.specs.Drafting.{judged_on, JudgedTo}

-- 24 where the elements aren't in order
out_of_order : (time : ℕ) (seen : List Named) → in_order 0 (seen ++ []) ≡ false → judged time seen ≡ refused 24
unfolding judged
out_of_order time seen e = simp (ap (in_order 0) (sym (append-nil seen)) ∙ e)

pub told-fault : (time : ℕ) (seen : List Named) (kept : Notes) (why : Refused) → Kept seen kept → kept.fault ≡ Some why
    → (judged time seen ≡ refused 24) × (wrong_refusal why.wrong ≡ 24)
told-fault time seen kept why (inl right) h = let z : ◌≡◌ {A = Option Refused} None (Some why) = sym right.fault ∙ h in cc
told-fault time seen kept why (inr wrong) h = (
  out_of_order time seen (wrong.never []),
  let same : why ≡ wrong.refused = (let z : ◌≡◌ {A = Option Refused} (Some why) (Some wrong.refused) = sym h ∙ wrong.fault in cc) in
      ap (λ (r : Refused). wrong_refusal r.wrong) same ∙ wrong.is,
)

pub told-missing : (time : ℕ) (seen : List Named) (kept : Notes) → Kept seen kept → kept.fault ≡ None → kept.due < 16
    → judged time seen ≡ refused 24
told-missing time seen kept (inl right) e h =
    out_of_order time seen
    (right.first [] ∙ ne_eqb (length seen) outside (λ (q : length seen ≡ outside). let d = right.due in omega arith))
told-missing time seen kept (inr wrong) e h =
    let z : ◌≡◌ {A = Option Refused} None (Some wrong.refused) = sym e ∙ wrong.fault in cc

-- where the text kept of a row ends
abbrev pub end_kept : Notes → Text → ℕ → ℕ
end_kept kept blank r = (get_or kept.texts r blank).place + length (get_or kept.texts r blank).bytes.now

-- each of the five texts lies in its place
pub record Placed (kept : Notes) (blank : Text) (n r : ℕ) : Type 0 where
  pub ordered : (get_or kept.texts r blank).place ≤ end_kept kept blank r
  pub within : end_kept kept blank r ≤ n

abbrev pub is_placed : Notes → Text → ℕ → ℕ → Bool
is_placed kept blank n r = leb (end_kept kept blank r) n

abbrev pub all_placed : Notes → Text → ℕ → Bool
all_placed kept blank n =
    is_placed kept blank n sender_row
    && is_placed kept blank n txid_row
    && is_placed kept blank n amount_row
    && is_placed kept blank n payee_row
    && is_placed kept blank n iban_row

is-placed : (kept : Notes) (blank : Text) (n r : ℕ) → is_placed kept blank n r ≡ true → Placed kept blank n r
is-placed kept blank n r e = record { ordered = omega arith; within = leb-true (end_kept kept blank r) n e }

pub record FivePlaced (kept : Notes) (blank : Text) (n : ℕ) : Type 0 where
  pub sender : Placed kept blank n sender_row
  pub txid : Placed kept blank n txid_row
  pub amount : Placed kept blank n amount_row
  pub payee : Placed kept blank n payee_row
  pub iban : Placed kept blank n iban_row

pub five-placed : (kept : Notes) (blank : Text) (n : ℕ) → all_placed kept blank n ≡ true → FivePlaced kept blank n
five-placed kept blank n e =
    let sender = is_placed kept blank n sender_row in
    let txid = is_placed kept blank n txid_row in
    let amount = is_placed kept blank n amount_row in
    let payee = is_placed kept blank n payee_row in
    let iban = is_placed kept blank n iban_row in
    let to-payee = and_left (sender && txid && amount && payee) iban e in
    let to-amount = and_left (sender && txid && amount) payee to-payee in
    let to-txid = and_left (sender && txid) amount to-amount in
    record {
      sender = is-placed kept blank n sender_row (and_left sender txid to-txid);
      txid = is-placed kept blank n txid_row (and_right sender txid to-txid);
      amount = is-placed kept blank n amount_row (and_right (sender && txid) amount to-amount);
      payee = is-placed kept blank n payee_row (and_right (sender && txid && amount) payee to-payee);
      iban = is-placed kept blank n iban_row (and_right (sender && txid && amount && payee) iban e);
    }

-- what was kept of all rows lies in its places
module _ (t : List ℕ) (kept : Notes) (placed : KeptPlaced t kept) (right : kept.fault ≡ None) (all : 16 ≤ kept.due) (blank : Text) where
  row-placed : (r : ℕ) → r < outside → is_text_row r ≡ true → is_placed kept blank (length t) r ≡ true
  row-placed r h e = le-leb (end_kept kept blank r) (length t) ((placed right).stand r (omega arith) e blank).within

  pub told-placed : all_placed kept blank (length t) ≡ true
  told-placed =
      simp (
        row-placed sender_row (omega arith) refl,
        row-placed txid_row (omega arith) refl,
        row-placed amount_row (omega arith) refl,
        row-placed payee_row (omega arith) refl,
        row-placed iban_row (omega arith) refl,
      )

  pub told-misplaced : all_placed kept blank (length t) ≡ false → ⊥
  told-misplaced h = never (sym told-placed ∙ h)

module _ (time : ℕ) (seen : List Named) (kept : Notes) (right : KeptRight seen kept) (blank : Text) (all : 16 ≤ kept.due) where
  whole : length seen ≡ outside
  whole = let d = right.due in let f = right.few in omega arith

  in_order_lem : in_order 0 seen ≡ true
  in_order_lem = ap (in_order 0) (sym (append-nil seen)) ∙ right.first [] ∙ ap (λ (n : ℕ). eqb n outside) whole

  euro-told : kept.euro ≡ is_euro (element_at seen amount_row).attributes
  euro-told = right.euro (let d = whole in omega arith)

  abbrev kept_text : ℕ → List ℕ
  kept_text r = (get_or kept.texts r blank).bytes.now

  row-text : (r : ℕ) → r < outside → is_text_row r ≡ true → text_at seen r ≡ kept_text r
  row-text r h e = (right.texts r (let d = whole in omega arith) e).holds blank

  judged-right : judged time seen
      ≡ judged_on time kept.euro (kept_text amount_row) (kept_text sender_row) (kept_text payee_row) (kept_text txid_row) (kept_text iban_row)
  unfolding judged judged_on
  judged-right =
      simp in_order_lem
      (ap₂
      (λ (b : Bool) (s : List ℕ).
      judged_on time b s (text_at seen sender_row) (text_at seen payee_row) (text_at seen txid_row) (text_at seen iban_row))
      (sym euro-told) (row-text amount_row (omega arith) refl)
      ∙ ap₂
      (λ (s p : List ℕ).
      judged_on time kept.euro (kept_text amount_row) s p (text_at seen txid_row) (text_at seen iban_row))
      (row-text sender_row (omega arith) refl) (row-text payee_row (omega arith) refl)
      ∙ ap₂
      (λ (x i : List ℕ).
      judged_on time kept.euro (kept_text amount_row) (kept_text sender_row) (kept_text payee_row) x i)
      (row-text txid_row (omega arith) refl) (row-text iban_row (omega arith) refl))

pub told-texts : {before after : List ℕ} {n : ℕ} (time : ℕ) (seen : List Named) (kept : Notes) (blank : Text) → Kept seen kept
    → kept.fault ≡ None → 16 ≤ kept.due
    → JudgedTo
    (judged_on
    time
    kept.euro
    (get_or kept.texts amount_row blank).bytes.now
    (get_or kept.texts sender_row blank).bytes.now
    (get_or kept.texts payee_row blank).bytes.now
    (get_or kept.texts txid_row blank).bytes.now
    (get_or kept.texts iban_row blank).bytes.now)
    before
    after
    n
    → JudgedTo (judged time seen) before after n
told-texts time seen kept blank (inl right) e all j = rw (judged-right time seen kept right blank all) j
told-texts time seen kept blank (inr wrong) e all j =
    let z : ◌≡◌ {A = Option Refused} None (Some wrong.refused) = sym e ∙ wrong.fault in cc
