-- A ticket of kinds 4 to 8 with zero bytes from 27 to 37, and the same with a BIC there: each reads by its own forms alike. So does any
-- other ticket, and itself. Assumes nothing.
use mathlib.Core.Path.{◌≡◌, refl, sym, ◌∙◌, ap, ap₂}
use mathlib.Core.Bool.{Bool, true, false, ◌&&◌, not}
use mathlib.Core.List.{List, [], ◌∷◌}
use mathlib.Core.Logic.{◌⊎◌, inl, inr}
use Prim.Native.Nat.{ℕ, ◌+◌, ◌≤◌}
use native.Mathlib.Omega.{arith}
use borrow.Author.Tests.{eqb-true, eq-eqb, leb-true, le-leb}
use lib.Dec.{leb, eqb}
use lib.ListN.{length, get_or}
use lib.Seq.{length-sets}
use Rattle.codes.specs.Bic.{is_bic}
use Rattle.codes.specs.Txid.{is_txid}
use Rattle.codes.proofs.WholeCodes.{bic-length}
use Rattle.fields.specs.Number.{part, number}
use Rattle.fields.specs.Text.{blank, unpadded}
use Rattle.fields.proofs.Stores.{sets-part, part-one, part-before, part-after}
use Rattle.fields.proofs.Tests.{and_left, and_right, never}
use Rattle.ticket.specs.TicketLayout as layout
use Rattle.ticket.specs.Kind.{kind_number}
use Rattle.ticket.specs.Form.{most_order, form_of}
use Rattle.ticket.specs.Shape.{bic_if_listed, txid_if_listed, blank_unless_listed, well_formed}
use Rattle.ticket.specs.declared.Fields.{Fields}
use Rattle.ticket.specs.declared.forms.Form.{Form}
use Rattle.ticket.specs.declared.kinds.Kind.{Kind}
use Rattle.ticket.specs.declared.kinds.Kind.TheVariants.{
  CoverIn,
  CoverOut,
  Order,
  Yes,
  No,
  Recall,
  Return,
  Decline,
  Inquiry,
  Cut,
  Confirm,
  Tick,
}
use Rattle.ticket.proofs.KindBytes.{kinded-tells}
use Rattle.ticket.proofs.TicketTelling.{Tells, tested-txid}
use Rattle.rules.specs.Terms.{terms_of, names_order}
use Rattle.by_txid.specs.FormByTxid.{without_payer, form_by_txid}
use Rattle.by_txid.specs.OldLists.{about_order, with_payer}
use Rattle.by_txid.proofs.ReadingAlike.{Alike}

-- the forms differ in the payer alone
but-payer : {A : Type 0} (f : Form → A) → ((form : Form) → f (without_payer form) ≡ f form) → (k : Kind) → f (form_by_txid k) ≡ f (form_of k)
but-payer f h CoverIn = refl
but-payer f h CoverOut = refl
but-payer f h Order = refl
but-payer f h Yes = h (form_of Yes)
but-payer f h No = h (form_of No)
but-payer f h Recall = h (form_of Recall)
but-payer f h Return = h (form_of Return)
but-payer f h Decline = h (form_of Decline)
but-payer f h Inquiry = h (form_of Inquiry)
but-payer f h Cut = refl
but-payer f h Confirm = refl
but-payer f h Tick = refl

-- zero bytes are no TxId
blank-txid : (s : List ℕ) → blank s ≡ true → is_txid (unpadded s) ≡ false
unfolding is_txid
blank-txid [] e = refl
blank-txid (c ∷ s) e = rw e

-- what a ticket of kinds 4 to 8 is
pub record AboutBytes (t : List ℕ) : Type 0 where
  pub whole : length t ≡ layout.ticket_length
  pub low : 4 ≤ layout.kind_byte t
  pub high : layout.kind_byte t ≤ 8

pub about-bytes : (t : List ℕ) → about_order t ≡ true → AboutBytes t
about-bytes t e =
    let kind = and_right (eqb (length t) layout.ticket_length) (leb 4 (layout.kind_byte t) && leb (layout.kind_byte t) 8) e in
    record {
      whole = eqb-true (length t) layout.ticket_length
          (and_left (eqb (length t) layout.ticket_length) (leb 4 (layout.kind_byte t) && leb (layout.kind_byte t) 8) e);
      low = leb-true 4 (layout.kind_byte t) (and_left (leb 4 (layout.kind_byte t)) (leb (layout.kind_byte t) 8) kind);
      high = leb-true (layout.kind_byte t) 8 (and_right (leb 4 (layout.kind_byte t)) (leb (layout.kind_byte t) 8) kind);
    }

module _ (t payer : List ℕ) (about : about_order t ≡ true) (bic : is_bic payer ≡ true) where
  abbrev u : List ℕ
  u = with_payer t payer

  fits : 27 + length payer ≤ length t
  fits = let w = (about-bytes t about).whole in let l = bic-length payer bic in omega arith

  front : (v a : ℕ) → a + v ≤ 27 → part v a u ≡ part v a t
  front v a h = part-before payer t 27 fits v a h

  back : (v a : ℕ) → 38 ≤ a → part v a u ≡ part v a t
  back v a h = part-after payer t 27 fits v a (let l = bic-length payer bic in omega arith)

  pub long : length u ≡ length t
  long = length-sets t 27 payer

  byte : (i : ℕ) → i + 1 ≤ 27 → get_or u i 0 ≡ get_or t i 0
  byte i h =
      let w = (about-bytes t about).whole in
      let l = long in
      ap (λ (s : List ℕ). get_or s 0 0) (sym (part-one i u (omega arith)) ∙ front 1 i h ∙ part-one i t (omega arith))

  pub kind-kept : layout.kind_byte u ≡ layout.kind_byte t
  kind-kept = byte 0 (omega arith)

  flag-kept : layout.flag_byte u ≡ layout.flag_byte t
  flag-kept = byte 1 (omega arith)

  pub sender-kept : layout.sender_of u ≡ layout.sender_of t
  sender-kept = front 11 16 (omega arith)

  pub txid-kept : layout.txid_field u ≡ layout.txid_field t
  txid-kept = back 35 38 (omega arith)

  pub payer-written : layout.payee_of u ≡ payer
  payer-written = ap (λ (w : ℕ). part w 27 u) (sym (bic-length payer bic)) ∙ sets-part payer t 27 fits

  -- fields that a kind lists and bytes that it leaves zero
  module _ (zeros : blank (layout.payee_of t) ≡ true) where
    form-kept : (sender txid iban : Bool) (least most : ℕ)
        → well_formed (record { sender = sender; payee = false; txid = txid; iban = iban; least = least; most = most }) t
        ≡ well_formed (record { sender = sender; payee = true; txid = txid; iban = iban; least = least; most = most }) u
    form-kept sender txid iban least most =
        let spare = sym (front 2 2 (omega arith)) in
        let amount = sym (front 8 8 (omega arith)) in
        let payee : blank (layout.payee_of t) ≡ is_bic (layout.payee_of u) = zeros ∙ sym (ap is_bic payer-written ∙ bic) in
        let ibans = sym (back 34 73 (omega arith)) in
        let last = sym (back 1 107 (omega arith)) in
        λ j.
        blank_unless_listed false (spare j)
        && blank_unless_listed (not (eqb most 0)) (amount j)
        && bic_if_listed sender (sym sender-kept j)
        && payee j
        && txid_if_listed txid (sym txid-kept j)
        && blank_unless_listed iban (ibans j)
        && blank_unless_listed false (last j)

    -- the kind is one of 4 to 8
    formed-kept : (k : Kind) → kind_number k ≡ layout.kind_byte t → well_formed (form_by_txid k) t ≡ well_formed (form_of k) u
    formed-kept CoverIn e = let l = (about-bytes t about).low in absurd (omega arith)
    formed-kept CoverOut e = let l = (about-bytes t about).low in absurd (omega arith)
    formed-kept Order e = let l = (about-bytes t about).low in absurd (omega arith)
    formed-kept Yes e = form-kept true true false 0 0
    formed-kept No e = form-kept true true false 0 0
    formed-kept Recall e = form-kept true true false 0 0
    formed-kept Return e = form-kept true true false 1 most_order
    formed-kept Decline e = form-kept true true false 0 0
    formed-kept Inquiry e = form-kept true true false 0 0
    formed-kept Cut e = let h = (about-bytes t about).high in absurd (omega arith)
    formed-kept Confirm e = let h = (about-bytes t about).high in absurd (omega arith)
    formed-kept Tick e = let h = (about-bytes t about).high in absurd (omega arith)

    pub alike : Alike form_by_txid t u
    alike =
        record {
          long = sym long;
          kind = sym kind-kept;
          flag = sym flag-kept;
          time = sym (ap number (front 4 4 (omega arith)));
          amount = sym (ap number (front 8 8 (omega arith)));
          formed = λ k whole e. formed-kept k (sym (kinded-tells (layout.kind_byte u) (layout.flag_byte u) k e).number ∙ kind-kept);
          iban = sym (ap unpadded (back 34 73 (omega arith)));
          listed = but-payer (λ (form : Form). form.iban) (λ form. refl);
          least = but-payer (λ (form : Form). form.least) (λ form. refl);
          most = but-payer (λ (form : Form). form.most) (λ form. refl);
        }

-- its kind is one of 4 to 8
pub about-kind : (k : Kind) → 4 ≤ kind_number k → kind_number k ≤ 8 → names_order (terms_of k).subject ≡ true
about-kind CoverIn low high = absurd (omega arith)
about-kind CoverOut low high = absurd (omega arith)
about-kind Order low high = absurd (omega arith)
about-kind Yes low high = refl
about-kind No low high = refl
about-kind Recall low high = refl
about-kind Return low high = refl
about-kind Decline low high = refl
about-kind Inquiry low high = refl
about-kind Cut low high = absurd (omega arith)
about-kind Confirm low high = absurd (omega arith)
about-kind Tick low high = absurd (omega arith)

-- a ticket of another length or kind byte
module _ (t : List ℕ) (other : about_order t ≡ false) where
  not-about : {A : Type 0} → length t ≡ layout.ticket_length → 4 ≤ layout.kind_byte t → layout.kind_byte t ≤ 8 → A
  not-about whole low high =
      never
      (sym
      (ap₂ ◌&&◌ (eq-eqb (length t) layout.ticket_length whole)
      (ap₂ ◌&&◌ (le-leb 4 (layout.kind_byte t) low) (le-leb (layout.kind_byte t) 8 high)))
      ∙ other)

  form-same : (k : Kind) → length t ≡ layout.ticket_length → layout.kind_byte t ≡ kind_number k
      → well_formed (form_by_txid k) t ≡ well_formed (form_of k) t
  form-same CoverIn whole e = refl
  form-same CoverOut whole e = refl
  form-same Order whole e = refl
  form-same Yes whole e = not-about whole (omega arith) (omega arith)
  form-same No whole e = not-about whole (omega arith) (omega arith)
  form-same Recall whole e = not-about whole (omega arith) (omega arith)
  form-same Return whole e = not-about whole (omega arith) (omega arith)
  form-same Decline whole e = not-about whole (omega arith) (omega arith)
  form-same Inquiry whole e = not-about whole (omega arith) (omega arith)
  form-same Cut whole e = refl
  form-same Confirm whole e = refl
  form-same Tick whole e = refl

  pub other-alike : Alike form_by_txid t t
  other-alike =
      record {
        long = refl;
        kind = refl;
        flag = refl;
        time = refl;
        amount = refl;
        formed = λ k whole e. form-same k whole (kinded-tells (layout.kind_byte t) (layout.flag_byte t) k e).number;
        iban = refl;
        listed = but-payer (λ (form : Form). form.iban) (λ form. refl);
        least = but-payer (λ (form : Form). form.least) (λ form. refl);
        most = but-payer (λ (form : Form). form.most) (λ form. refl);
      }

  -- an order, or a kind that lists no TxId
  pub other-kind : (k : Kind) → length t ≡ layout.ticket_length → layout.kind_byte t ≡ kind_number k
      → (k ≡ Order) ⊎ ((form_of k).txid ≡ false)
  other-kind CoverIn whole e = inr refl
  other-kind CoverOut whole e = inr refl
  other-kind Order whole e = inl refl
  other-kind Yes whole e = not-about whole (omega arith) (omega arith)
  other-kind No whole e = not-about whole (omega arith) (omega arith)
  other-kind Recall whole e = not-about whole (omega arith) (omega arith)
  other-kind Return whole e = not-about whole (omega arith) (omega arith)
  other-kind Decline whole e = not-about whole (omega arith) (omega arith)
  other-kind Inquiry whole e = not-about whole (omega arith) (omega arith)
  other-kind Cut whole e = inr refl
  other-kind Confirm whole e = inr refl
  other-kind Tick whole e = inr refl

-- a TxId that isn't listed is none
pub unlisted-txid : (t : List ℕ) (f : Fields) → Tells t f → (form_of f.kind).txid ≡ false → is_txid (layout.txid_of t) ≡ false
unlisted-txid t f tells unlisted = blank-txid (layout.txid_field t) (rw unlisted at (tested-txid t f tells))
