-- What is judged of the five texts, as the code takes them.
--     amount_in     an amount in cents
--     bic_field     the eleven bytes of a BIC, filled where it has eight; none where it has neither eight nor eleven
--     CentsOf      the cents of a text that is an amount above zero
--     BicOf        the eleven bytes of a text that is a BIC
--     judged_on     the verdict on the five texts, and whether the amount's attributes are right, at a time
--     JudgedTo     what a verdict gives: the refusal, and the buffer after it
-- Assumes nothing.
use Rattle.std.specs.Prelude.{ℕ, ◌≡◌, Bool, true, false, ◌&&◌, not, cond, List, ◌++◌, eqb, length, Option, Some, None, Result, Ok, Err}
use Rattle.fields.specs.Text.{text}
use Rattle.codes.specs.Bic.{is_bic}
use Rattle.codes.specs.Txid.{is_txid}
use Rattle.iban.specs.Iban.{is_iban}
use Rattle.ticket.specs.TicketWriting.{order_ticket}
use Rattle.pacs.specs.declared.refusals.Refused.{Refused}
use Rattle.pacs.specs.declared.refusals.Wrong.{Wrong}
use Rattle.pacs.specs.Judged.{Verdict, refused, accepted, is_amount, cents, filled, amount_refusal}
use Rattle.pacs.specs.Answering.{refusal_of, left_in}
use Rattle.pacs.specs.Wrongs.{wrong_refusal}

abbrev pub amount_in : List ℕ → Option ℕ
amount_in s = cond (is_amount s) (Some (cents s)) None

abbrev pub bic_field : List ℕ → Option (List ℕ)
bic_field s = cond (eqb (length s) 8) (Some (s ++ text "XXX")) (cond (eqb (length s) 11) (Some s) None)

abbrev pub CentsOf : List ℕ → Result ℕ Refused → Type 0
CentsOf s (Ok n) = ((is_amount s && not (eqb (cents s) 0)) ≡ true) × (n ≡ cents s)
CentsOf s (Err why) = ((is_amount s && not (eqb (cents s) 0)) ≡ false) × (wrong_refusal why.wrong ≡ amount_refusal)

abbrev pub BicOf : List ℕ → Wrong → Result (List ℕ) Refused → Type 0
BicOf s wrong (Ok field) = (is_bic (filled s) ≡ true) × (field ≡ filled s)
BicOf s wrong (Err why) = (is_bic (filled s) ≡ false) × (why.wrong ≡ wrong)

unfoldable pub judged_on : ℕ → Bool → List ℕ → List ℕ → List ℕ → List ℕ → List ℕ → Verdict
judged_on time euro amount sender payee txid iban =
    cond (euro && is_amount amount && not (eqb (cents amount) 0))
    (cond (is_bic (filled sender) && is_bic (filled payee) && is_txid txid)
    (cond (is_iban iban) (accepted (order_ticket time (filled sender) (filled payee) (cents amount) txid iban)) (refused 8))
    (refused 7))
    (refused 25)

pub record JudgedTo (v : Verdict) (before after : List ℕ) (refusal : ℕ) : Type 0 where
  pub number : refusal ≡ refusal_of v
  pub ticket : after ≡ left_in before v
