-- The verdict on five texts, check by check, as the code takes them. Assumes nothing.
use mathlib.Core.Path.{◌≡◌, refl, ◌∙◌, ap, ap₂}
use mathlib.Core.Bool.{Bool, true, false, ◌&&◌, not, cond, and-false}
use mathlib.Core.List.{List, ◌++◌}
use Prim.Native.Nat.{ℕ}
use native.Mathlib.Omega.{arith}
use lib.Dec.{eqb}
use lib.ListN.{drop}
use Rattle.classes.specs.CheckAnswer.{answer}
use Rattle.codes.specs.Bic.{is_bic}
use Rattle.codes.specs.Txid.{is_txid}
use Rattle.iban.specs.Iban.{is_iban}
use Rattle.ticket.specs.TicketLayout.{ticket_length}
use Rattle.ticket.specs.TicketWriting.{order_ticket}
use Rattle.pacs.specs.Judged.{Verdict, refused, accepted, is_amount, cents, filled}
use Rattle.draft.specs.Drafting.{judged_on, JudgedTo}

-- a check's answer
pub answered-no : (b : Bool) → answer b ≡ 0 → b ≡ false
answered-no true e = absurd (omega arith)
answered-no false e = refl

pub answered-yes : (b : Bool) → (answer b ≡ 0 → ⊥) → b ≡ true
answered-yes true h = refl
answered-yes false h = absurd (h refl)

-- a refusal leaves the buffer as it was
pub refuses : {v : Verdict} {n m : ℕ} (b : List ℕ) → v ≡ refused n → m ≡ n → JudgedTo v b b m
refuses b e f = rw e (record { number = f; ticket = refl })

pub accepts : {v : Verdict} {after : List ℕ} {n n' : ℕ} {sender sender' payee payee' : List ℕ} (b : List ℕ) (time : ℕ) (txid iban : List ℕ)
    → v ≡ accepted (order_ticket time sender payee n txid iban) → n' ≡ n → sender' ≡ sender → payee' ≡ payee
    → after ≡ order_ticket time sender' payee' n' txid iban ++ drop ticket_length b → JudgedTo v b after 0
accepts {n = n} {n'} {sender} {sender'} {payee} {payee'} b time txid iban e amount from to f =
    rw e
    (record {
      number = refl;
      ticket =
          f
          ∙ ap (λ (k : ℕ). order_ticket time sender' payee' k txid iban ++ drop ticket_length b) amount
          ∙ ap₂ (λ (s p : List ℕ). order_ticket time s p n txid iban ++ drop ticket_length b) from to;
    })

none_of : (a b c : Bool) → (b && c) ≡ false → (a && b && c) ≡ false
none_of true b c e = e
none_of false b c e = refl

all_of : (a b c : Bool) → a ≡ true → (b && c) ≡ true → (a && b && c) ≡ true
all_of true b c e f = f
all_of false b c e f = e

module _ (time : ℕ) (euro : Bool) (amount sender payee txid iban : List ℕ) where
  abbrev verdict : Verdict
  verdict = judged_on time euro amount sender payee txid iban

  pub attributes-wrong : euro ≡ false → verdict ≡ refused 25
  unfolding judged_on
  attributes-wrong e = rw e

  pub amount-wrong : (is_amount amount && not (eqb (cents amount) 0)) ≡ false → verdict ≡ refused 25
  unfolding judged_on
  amount-wrong e = simp (none_of euro (is_amount amount) (not (eqb (cents amount) 0)) e)

  -- the codes, once the amount is right
  module _ (yes : euro ≡ true) (above : (is_amount amount && not (eqb (cents amount) 0)) ≡ true) where
    abbrev ticket : List ℕ
    ticket = order_ticket time (filled sender) (filled payee) (cents amount) txid iban

    amount-right : verdict
        ≡ cond (is_bic (filled sender) && is_bic (filled payee) && is_txid txid) (cond (is_iban iban) (accepted ticket) (refused 8)) (refused 7)
    unfolding judged_on
    amount-right = simp (all_of euro (is_amount amount) (not (eqb (cents amount) 0)) yes above)

    pub sender-wrong : is_bic (filled sender) ≡ false → verdict ≡ refused 7
    sender-wrong e = amount-right ∙ simp e

    pub payee-wrong : is_bic (filled payee) ≡ false → verdict ≡ refused 7
    payee-wrong e = amount-right ∙ simp (e, and-false)

    pub txid-wrong : is_txid txid ≡ false → verdict ≡ refused 7
    txid-wrong e = amount-right ∙ simp (e, and-false)

    -- the account, once the codes are right
    module _ (s : is_bic (filled sender) ≡ true) (p : is_bic (filled payee) ≡ true) (x : is_txid txid ≡ true) where
      codes-right : verdict ≡ cond (is_iban iban) (accepted ticket) (refused 8)
      codes-right = amount-right ∙ simp (s, p, x)

      pub iban-wrong : is_iban iban ≡ false → verdict ≡ refused 8
      iban-wrong e = codes-right ∙ simp e

      pub all_right : is_iban iban ≡ true → verdict ≡ accepted ticket
      all_right e = codes-right ∙ simp e
