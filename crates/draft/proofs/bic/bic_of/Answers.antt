-- `draft::bic::bic_of` meets its contract. Assumes nothing.
use Rattle.std.proofs.Common.{◌≡◌, false, sym, ◌∙◌, ap}
use Rattle.codes.specs.Bic.{is_bic}
use Rattle.pacs.specs.Judged.{filled}
use Rattle.pacs.specs.declared.refusals.Refused.{Refused}
use Rattle.draft.proofs.BicFields.{field-none, field-filled}
use Rattle.draft.proofs.Verdicts.{answered-no}
use Rattle.draft.proofs.bic.bic_of.Goals.{in_default-via-in-Some+else-zolfigar_bic_ok-ne0, in_default-via-in_default}
use Rattle.draft.proofs.bic.bic_of.Goals as goal

pub returns-in_default : goal.returns-in_default
returns-in_default c =
    let none : is_bic (filled c.args.text.bytes.now) ≡ false =
    elim c.in_default.branch [
      | in_default-via-in-Some+else-zolfigar_bic_ok-ne0 w ↦
          let f = field-filled c.args.text.bytes.now (sym c.bic_field.ensures ∙ w.in-Some.is) in
          sym (ap is_bic f) ∙ answered-no _ (sym w.zolfigar_bic_ok.ensures ∙ w.if-zolfigar_bic_ok-ne0.false)
      | in_default-via-in_default w ↦ field-none c.args.text.bytes.now (sym c.bic_field.ensures ∙ w.in_default.is)
    ] in
    (none, ap (λ (r : Refused). r.wrong) c.at.ensures)
