-- `dayrows::rows::participant_ok` meets its contract. Assumes nothing.
use native.Mathlib.Nat.{add-sub_cancel_left}
use Rattle.fields.proofs.FromFront.{span}
use Rattle.classes.proofs.CheckAnswer.{answer-is-1}
use Rattle.dayrows.proofs.rows.participant_ok.Goals as goal

pub returns : goal.returns
returns c =
    simp (
      c.zolfigar_bic_ok-bic.ensures,
      answer-is-1,
      c.u64_at-opening.ensures,
      c.blank-spare.ensures,
      add-sub_cancel_left,
      span,
    )
