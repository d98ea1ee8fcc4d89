-- What an accepted text's ticket is: the order with the texts that stand at the five paths, which passes refusals 7 to 10.
--     passed-of         what was tested of an accepted order; amount-of, of its amount
--     sender_path        and the four others: the paths of the five texts
--     TextAt            an element stands at a path and holds a text, and nothing else
--     OrderIn           the five texts in a document, what holds of them, and the ticket that they make
--     accepted-order    an accepted verdict's ticket is that of the document
--     cents-below       an amount has at most eleven digits; digits-below
--     accepted-passes   it reads as an order at the time given, with the amount
-- Assumes nothing.
use Rattle.std.specs.Prelude.{Ok}
use Prim.Native.Nat.{ℕ, zero, suc, ◌+◌, ◌-◌, ◌*◌, ◌^◌, ◌≤◌, ◌<◌}
use Prim.Native.String.{String}
use mathlib.Core.Path.{◌≡◌, refl, ap, sym, subst, ◌∙◌}
use mathlib.Core.Bool.{Bool, true, false, ◌&&◌, not, cond}
use mathlib.Core.List.{List, [], ◌∷◌}
use native.Mathlib.Omega.{arith}
use borrow.Author.Tests.{leb-true, eqb-false, not-true}
use lib.Dec.{eqb, leb}
use lib.ListN.{length, get_or, take, drop, length-take, length-drop}
use Rattle.fields.specs.Text.{text}
use Rattle.fields.proofs.Tests.{and_left, and_right}
use Rattle.codes.specs.Bic.{is_bic}
use Rattle.codes.specs.Txid.{is_txid}
use Rattle.iban.specs.Iban.{is_iban}
use Rattle.ticket.specs.TicketWriting.{order_ticket, order_written}
use Rattle.ticket.specs.TicketReading.{reading}
use Rattle.ticket.specs.declared.kinds.Kind.TheVariants.{Order}
use Rattle.ticket.proofs.ReadsBack.{written-reads}
use Rattle.xml.specs.Bytes.{all_of}
use Rattle.xml.specs.Tree.{Element, Content, last_text, text_then}
use Rattle.pacs.specs.Named.{
  Named,
  row_of,
  is_text_row,
  sender_row,
  txid_row,
  amount_row,
  payee_row,
  iban_row,
  leading_text,
  is_plain,
  met,
  outside,
}
use Rattle.pacs.specs.Judged.{
  refused,
  accepted,
  in_order,
  element_at,
  text_at,
  is_euro,
  is_digit,
  is_amount,
  digits_behind,
  cents,
  filled,
  amount_right,
  codes_right,
  ticket_of,
  judged,
}
use Rattle.pacs.proofs.Words.{texts-plain}
use Rattle.pacs.proofs.Standing.{tag, holds, row_at, named_at, one_place, At, stands_at, at-met, element-at}

-- what was tested of an accepted order
pub record Passed (time : ℕ) (ms : List Named) (ticket : List ℕ) : Type 0 where
  pub order : in_order 0 ms ≡ true
  pub amount : amount_right (element_at ms amount_row) ≡ true
  pub codes : codes_right ms ≡ true
  pub iban : is_iban (text_at ms iban_row) ≡ true
  pub is : ticket ≡ ticket_of time ms

differs : {A : Type 0} (n : ℕ) (ticket : List ℕ) → refused n ≡ accepted ticket → A
differs n ticket e = absurd (let z : ◌≡◌ {A = ℕ} 0 1 = cc in omega arith)

passed-all : (order amount codes iban : Bool) (made ticket : List ℕ)
    → cond order (cond amount (cond codes (cond iban (accepted made) (refused 8)) (refused 7)) (refused 25)) (refused 24)
    ≡ accepted ticket
    → (order ≡ true) × (amount ≡ true) × (codes ≡ true) × (iban ≡ true) × (ticket ≡ made)
passed-all false amount codes iban made ticket e = differs 24 ticket e
passed-all true false codes iban made ticket e = differs 25 ticket e
passed-all true true false iban made ticket e = differs 7 ticket e
passed-all true true true false made ticket e = differs 8 ticket e
passed-all true true true true made ticket e = (refl, refl, refl, refl, cc)

pub passed-of : (time : ℕ) (ms : List Named) (ticket : List ℕ) → judged time ms ≡ accepted ticket → Passed time ms ticket
unfolding judged
passed-of time ms ticket e =
    let p =
    passed-all
    (in_order 0 ms)
    (amount_right (element_at ms amount_row))
    (codes_right ms)
    (is_iban (text_at ms iban_row))
    (ticket_of time ms)
    ticket
    e
    in
    record { order = p.0; amount = p.1; codes = p.2; iban = p.3; is = p.4 }

-- names from the root on, turned so that the innermost comes first
abbrev turned : List String → List (List ℕ) → List (List ℕ)
turned [] around = around
turned (n ∷ more) around = turned more (text n ∷ around)

abbrev in_message : List String → List (List ℕ)
in_message names = turned names (text "FIToFICstmrCdtTrf" ∷ text "LBFastCdtTrf" ∷ [])

abbrev pub sender_path : List (List ℕ)
sender_path = in_message ("GrpHdr" ∷ "InstgAgt" ∷ "FinInstnId" ∷ "BIC" ∷ [])

abbrev pub txid_path : List (List ℕ)
txid_path = in_message ("CdtTrfTxInf" ∷ "PmtId" ∷ "TxId" ∷ [])

abbrev pub amount_path : List (List ℕ)
amount_path = in_message ("CdtTrfTxInf" ∷ "IntrBkSttlmAmt" ∷ [])

abbrev pub payee_path : List (List ℕ)
payee_path = in_message ("CdtTrfTxInf" ∷ "CdtrAgt" ∷ "FinInstnId" ∷ "BIC" ∷ [])

abbrev pub iban_path : List (List ℕ)
iban_path = in_message ("CdtTrfTxInf" ∷ "CdtrAcct" ∷ "Id" ∷ "IBAN" ∷ [])

-- an element stands at a path, and a text is all that it holds
pub record TextAt (root : Element) (path : List (List ℕ)) (s : List ℕ) : Type 0 where
  pub there : At root path
  pub is : holds there.element ≡ last_text s

plain-text : (c : Content) → is_plain c ≡ true → c ≡ last_text (leading_text c)
plain-text (last_text s) e = refl
plain-text (text_then s x c) e = cc

text-found : (root : Element) (path : List (List ℕ)) → in_order 0 (met root outside) ≡ true → row_at path < outside
    → is_text_row (row_at path) ≡ true → TextAt root path (text_at (met root outside) (row_at path))
text-found root path e low is =
    let ms = met root outside in
    let r = row_at path in
    let a = stands_at root path e low in
    let element = element-at root path e low a in
    let plain = texts-plain ms e (named_at a.element r) (at-met root path a low) is in
    record {
      there = a;
      is = plain-text (holds a.element) plain ∙ ap last_text (sym (ap (λ (m : Named). m.text) element));
    }

text-of-row : (root : Element) (path : List (List ℕ)) (r : ℕ) → in_order 0 (met root outside) ≡ true → row_at path ≡ r → r < outside
    → is_text_row r ≡ true → TextAt root path (text_at (met root outside) r)
text-of-row root path r e row low is =
    subst (λ (i : ℕ). TextAt root path (text_at (met root outside) i)) row
    (text-found root path e (subst (λ (i : ℕ). i < outside) (sym row) low) (subst (λ (i : ℕ). is_text_row i ≡ true) (sym row) is))

-- one text stands at a path
pub one-text : (root : Element) (path : List (List ℕ)) (s t : List ℕ) → in_order 0 (met root outside) ≡ true → row_at path < outside
    → TextAt root path s → TextAt root path t → s ≡ t
one-text root path s t e low a b =
    let x = a.there in
    let y = b.there in
    let known = subst (λ (p : List (List ℕ)). row_at p < outside) (sym x.is) low in
    let same =
    one_place root x.element y.element x.names y.names e x.stands y.stands (x.is ∙ sym y.is) known
    in
    let whole : last_text s ≡ last_text t = sym a.is ∙ ap holds same ∙ b.is in
    cc

-- the rows of the five paths
sender-row : row_at sender_path ≡ sender_row
unfolding row_of
sender-row = refl

txid-row : row_at txid_path ≡ txid_row
unfolding row_of
txid-row = refl

amount-row : row_at amount_path ≡ amount_row
unfolding row_of
amount-row = refl

payee-row : row_at payee_path ≡ payee_row
unfolding row_of
payee-row = refl

iban-row : row_at iban_path ≡ iban_row
unfolding row_of
iban-row = refl

-- the five texts of a document, what holds of them, and the order that they make
pub record OrderIn (root : Element) (time : ℕ) (ticket : List ℕ) : Type 0 where
  pub sender : List ℕ
  pub txid : List ℕ
  pub amount : List ℕ
  pub payee : List ℕ
  pub iban : List ℕ
  pub sender-at : TextAt root sender_path sender
  pub txid-at : TextAt root txid_path txid
  pub amount-at : TextAt root amount_path amount
  pub payee-at : TextAt root payee_path payee
  pub iban-at : TextAt root iban_path iban
  pub euro : is_euro (tag amount-at.there.element).attributes ≡ true
  pub amount-right : is_amount amount ≡ true
  pub above_zero : cents amount ≡ 0 → ⊥
  pub sender-right : is_bic (filled sender) ≡ true
  pub payee-right : is_bic (filled payee) ≡ true
  pub txid-right : is_txid txid ≡ true
  pub iban-right : is_iban iban ≡ true
  pub is : ticket ≡ order_ticket time (filled sender) (filled payee) (cents amount) txid iban

-- the three tests of the amount
pub record AmountRight (m : Named) : Type 0 where
  pub euro : is_euro m.attributes ≡ true
  pub right : is_amount m.text ≡ true
  pub above_zero : cents m.text ≡ 0 → ⊥

pub amount-of : (m : Named) → amount_right m ≡ true → AmountRight m
amount-of m e =
    let euro = is_euro m.attributes in
    let right = is_amount m.text in
    let none = eqb (cents m.text) 0 in
    let both = and_left (euro && right) (not none) e in
    record {
      euro = and_left euro right both;
      right = and_right euro right both;
      above_zero = eqb-false (cents m.text) 0 (not-true none (and_right (euro && right) (not none) e));
    }

pub accepted-order : (root : Element) (time : ℕ) (ticket : List ℕ) → judged time (met root outside) ≡ accepted ticket
    → OrderIn root time ticket
accepted-order root time ticket e =
    let ms = met root outside in
    let p = passed-of time ms ticket e in
    let o = p.order in
    let a = amount-of (element_at ms amount_row) p.amount in
    let at = text-of-row root amount_path amount_row o amount-row (omega arith) refl in
    let low = subst (λ (r : ℕ). r < outside) (sym amount-row) (omega arith) in
    let element = ap (element_at ms) (sym amount-row) ∙ element-at root amount_path o low at.there in
    let sender = is_bic (filled (text_at ms sender_row)) in
    let payee = is_bic (filled (text_at ms payee_row)) in
    let txid = is_txid (text_at ms txid_row) in
    let bics = and_left (sender && payee) txid p.codes in
    record {
      sender = text_at ms sender_row;
      txid = text_at ms txid_row;
      amount = text_at ms amount_row;
      payee = text_at ms payee_row;
      iban = text_at ms iban_row;
      sender-at = text-of-row root sender_path sender_row o sender-row (omega arith) refl;
      txid-at = text-of-row root txid_path txid_row o txid-row (omega arith) refl;
      amount-at = at;
      payee-at = text-of-row root payee_path payee_row o payee-row (omega arith) refl;
      iban-at = text-of-row root iban_path iban_row o iban-row (omega arith) refl;
      euro = sym (ap (λ (m : Named). is_euro m.attributes) element) ∙ a.euro;
      amount-right = a.right;
      above_zero = a.above_zero;
      sender-right = and_left sender payee bics;
      payee-right = and_right sender payee bics;
      txid-right = and_right (sender && payee) txid p.codes;
      iban-right = p.iban;
      is = p.is;
    }

-- digits behind a number below a are below a times ten for each
abbrev pub tens : ℕ → ℕ → ℕ
tens zero a = a
tens (suc k) a = tens k (10 * a)

tens-least : (k a : ℕ) → a ≤ tens k a
tens-least zero a = omega arith
tens-least (suc k) a = let z = tens-least k (10 * a) in omega arith

digit-below : (b : ℕ) → is_digit b ≡ true → b - 48 < 10
unfolding is_digit
digit-below b e = let z = leb-true b 57 (and_right (leb 48 b) (leb b 57) e) in omega arith

pub digits-below : (k n a : ℕ) (s : List ℕ) → length s ≤ k → n < a → all_of is_digit s ≡ true → digits_behind n s < tens k a
digits-below k n a [] few less all = let z = tens-least k a in omega arith
digits-below zero n a (b ∷ s) few less all = absurd (omega arith)
digits-below (suc k) n a (b ∷ s) few less all =
    let d = digit-below b (and_left (is_digit b) (all_of is_digit s) all) in
    digits-below k (10 * n + (b - 48)) (10 * a) s (omega arith) (omega arith) (and_right (is_digit b) (all_of is_digit s) all)

-- 02, slip 3: the amount has 1 to 9 digits, a point and two digits
pub cents-below : (s : List ℕ) → is_amount s ≡ true → cents s < 100_000_000_000
cents-below s e =
    let whole = all_of is_digit (take (length s - 3) s) in
    let point = eqb (get_or s (length s - 3) 0) 0x2e in
    let part = all_of is_digit (drop (length s - 2) s) in
    let least = leb 4 (length s) in
    let most = leb (length s) 12 in
    let a = and_left (least && most && whole && point) part e in
    let b = and_left (least && most && whole) point a in
    let c = and_left (least && most) whole b in
    let long = leb-true (length s) 12 (and_right least most c) in
    let short = leb-true 4 (length s) (and_left least most c) in
    let front = length-take (length s - 3) s in
    let back = length-drop (length s - 2) s in
    digits-below
    2
    (digits_behind 0 (take (length s - 3) s))
    1_000_000_000
    (drop (length s - 2) s)
    (omega arith)
    (digits-below 9 0 1 (take (length s - 3) s) (omega arith) (omega arith) (and_right (least && most) whole b))
    (and_right (least && most && whole && point) part e)

-- 02, slip 3: an accepted text yields one order ticket that passes refusals 7 to 10
pub accepted-passes : (root : Element) (time : ℕ) (ticket : List ℕ) → time < 256 ^ 4 → (o : OrderIn root time ticket)
    → reading ticket ≡ Ok (record { kind = Order; time = time; amount = cents o.amount })
accepted-passes root time ticket fits o =
    let below = cents-below o.amount o.amount-right in
    let above = o.above_zero in
    ap reading o.is
    ∙ written-reads Order (order_written time (filled o.sender) (filled o.payee) (cents o.amount) o.txid o.iban)
    (record {
      kind = refl;
      low = omega arith;
      high = omega arith;
      time = fits;
      least = omega arith;
      most = omega arith;
      sender = o.sender-right;
      payee = o.payee-right;
      txid = o.txid-right;
      iban = o.iban-right;
    })
