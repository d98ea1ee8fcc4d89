use Rattle.std.proofs.Common.{◌+◌, ◌*◌, Bool, cond, sym, ap, ◌∙◌, arith}
use Rattle.dayfile.specs.FileLimits.{participant_length}
use Rattle.dayfile.specs.FileRows.{participant_ok}
use Rattle.dayfile.specs.declared.check.Enrolled.TheVariants.{Right, Wrong}
use Rattle.dayrows.proofs.Repeating.{all-right}
use Rattle.dayrows.proofs.check.check_participants.Goals as goal

pub returns-then-ok-bic_repeats : goal.returns-then-ok-bic_repeats
returns-then-ok-bic_repeats c =
    ap (λ (b : Bool). cond b Right Wrong)
    (sym c.if-ok-bic_repeats.true
    ∙ all-right (λ i. participant_ok (c.args.start + participant_length * i) c.args.f.now) c.args.start participant_length c.args.n c.loop-i.i c.args.f.now (omega arith)
    c.loop-i.invariant c.bic_repeats.ensures)

pub returns-else-ok-bic_repeats : goal.returns-else-ok-bic_repeats
returns-else-ok-bic_repeats c =
    ap (λ (b : Bool). cond b Right Wrong)
    (sym c.if-ok-bic_repeats.false
    ∙ all-right (λ i. participant_ok (c.args.start + participant_length * i) c.args.f.now) c.args.start participant_length c.args.n c.loop-i.i c.args.f.now (omega arith)
    c.loop-i.invariant c.bic_repeats.ensures)
