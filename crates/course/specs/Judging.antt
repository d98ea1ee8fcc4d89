-- A refusal or a decision, on what was found. A refused decision writes back what was there: the order that was found, covers that stay,
-- no reports (`decided_unless`). `refused-carried` says that it is what the expiries left. In the code a refused verdict does nothing.
--     judged    the first refusal that applies, and what is decided: of a refused ticket, that all stays as it is
-- Assumes nothing.
use Rattle.std.specs.Prelude.{ℕ, cond, false, eqb}
use Rattle.rules.specs.Refusal.{first_of, first_refusal}
use Rattle.rules.specs.Decision.{nobody, order_kept, decision_of}
use Rattle.rules.specs.declared.finding.Finding.{Finding}
use Rattle.rules.specs.declared.decision.Told.TheVariants.{Nobody}
use Rattle.rules.specs.declared.decision.Decision.{Decision}
use Rattle.course.specs.declared.Judged.{Judged}

abbrev pub decided_unless : ℕ → Finding → Decision
decided_unless refusal x = cond (eqb refusal 0) (decision_of x) (order_kept x nobody false Nobody)

-- before is the refusal by 7 to 11, 0 if none
abbrev pub judged : ℕ → Finding → Judged
judged before x =
    let n = first_of before (first_refusal x) in
    record { refusal = n; decision = decided_unless n x }
