-- `draft::texts::judge_texts` meets its contract. Assumes nothing.
use Rattle.std.proofs.Common.{◌≡◌, sym, ◌∙◌, ap}
use Rattle.std.specs.Prelude.{Result, Ok, Err}
use Rattle.std.specs.Result.{IsErrAnd}
use Rattle.codes.proofs.WholeCodes.{txid-length}
use Rattle.iban.proofs.WholeIban.{iban-length}
use Rattle.pacs.specs.declared.refusals.Refused.{Refused}
use Rattle.pacs.specs.Wrongs.{wrong_refusal, refusal_in}
use Rattle.draft.proofs.Verdicts.{answered-no, answered-yes, refuses, accepts, attributes-wrong, amount-wrong, sender-wrong, payee-wrong, txid-wrong, iban-wrong, all_right}
use Rattle.draft.proofs.texts.judge_texts.Goals as goal

-- an error that is handed on
handed-on : (r : Result (Unit {0}) Refused) (why : Refused) → IsErrAnd r (λ x. x ≡ why) → refusal_in r ≡ wrong_refusal why.wrong
handed-on (Ok done) why h = absurd h
handed-on (Err x) why h = ap (λ (y : Refused). wrong_refusal y.wrong) h

pub returns-then-not-euro : goal.returns-then-not-euro
returns-then-not-euro c =
    refuses _ (attributes-wrong _ _ _ _ _ _ _ c.if-not-euro.true) (ap (λ (r : Refused). wrong_refusal r.wrong) c.at.ensures)

pub returns-in_err-cents : goal.returns-in_err-cents
returns-in_err-cents c =
    refuses _ (amount-wrong _ _ _ _ _ _ _ c.in_err-cents.ensures.0)
    (handed-on _ _ c.from_residual.ensures.1 ∙ c.in_err-cents.ensures.1)

pub returns-in_err-payer : goal.returns-in_err-payer
returns-in_err-payer c =
    refuses _ (sender-wrong _ _ _ _ _ _ _ c.if-not-euro.false c.in_ok-cents.ensures.0 c.in_err-payer.ensures.0)
    (handed-on _ _ c.from_residual-in_err-payer.ensures.1 ∙ ap wrong_refusal c.in_err-payer.ensures.1)

pub returns-in_err-paid : goal.returns-in_err-paid
returns-in_err-paid c =
    refuses _ (payee-wrong _ _ _ _ _ _ _ c.if-not-euro.false c.in_ok-cents.ensures.0 c.in_err-paid.ensures.0)
    (handed-on _ _ c.from_residual-in_err-paid.ensures.1 ∙ ap wrong_refusal c.in_err-paid.ensures.1)

pub returns-then-zolfigar_txid_ok-eq0 : goal.returns-then-zolfigar_txid_ok-eq0
returns-then-zolfigar_txid_ok-eq0 c =
    refuses _
    (txid-wrong _ _ _ _ _ _ _ c.if-not-euro.false c.in_ok-cents.ensures.0
    (answered-no _ (sym c.zolfigar_txid_ok.ensures ∙ c.if-zolfigar_txid_ok-eq0.true)))
    (ap (λ (r : Refused). wrong_refusal r.wrong) c.at-then-zolfigar_txid_ok-eq0.ensures)

pub returns-then-zolfigar_iban_ok-eq0 : goal.returns-then-zolfigar_iban_ok-eq0
returns-then-zolfigar_iban_ok-eq0 c =
    refuses _
    (iban-wrong _ _ _ _ _ _ _ c.if-not-euro.false c.in_ok-cents.ensures.0 c.in_ok-payer.ensures.0 c.in_ok-paid.ensures.0
    (answered-yes _ (λ z. c.if-zolfigar_txid_ok-eq0.false (c.zolfigar_txid_ok.ensures ∙ z)))
    (answered-no _ (sym c.zolfigar_iban_ok.ensures ∙ c.if-zolfigar_iban_ok-eq0.true)))
    (ap (λ (r : Refused). wrong_refusal r.wrong) c.at-then-zolfigar_iban_ok-eq0.ensures)

pub put_ticket-requires : goal.put_ticket-requires
put_ticket-requires c = (
  c.requires,
  txid-length _ (answered-yes _ (λ z. c.if-zolfigar_txid_ok-eq0.false (c.zolfigar_txid_ok.ensures ∙ z))),
  iban-length _ (answered-yes _ (λ z. c.if-zolfigar_iban_ok-eq0.false (c.zolfigar_iban_ok.ensures ∙ z))),
)

pub returns : goal.returns
returns c =
    accepts c.args.ticket.now c.args.time c.args.texts.now.txid.bytes.now c.args.texts.now.iban.bytes.now
    (all_right _ _ _ _ _ _ _ c.if-not-euro.false c.in_ok-cents.ensures.0 c.in_ok-payer.ensures.0 c.in_ok-paid.ensures.0
    (answered-yes _ (λ z. c.if-zolfigar_txid_ok-eq0.false (c.zolfigar_txid_ok.ensures ∙ z)))
    (answered-yes _ (λ z. c.if-zolfigar_iban_ok-eq0.false (c.zolfigar_iban_ok.ensures ∙ z))))
    c.in_ok-cents.ensures.1 c.in_ok-payer.ensures.1 c.in_ok-paid.ensures.1 c.put_ticket.ensures
