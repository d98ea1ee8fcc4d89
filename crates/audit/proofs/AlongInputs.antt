-- What is carried along a list of inputs, from any sound book: history and book agree, each event tells whom it must, and what it takes
-- from one participant it brings to another.
--     carried-start      nothing was seen yet
--     carried_step       one ticket's step more
--     carried-outcome    one input more, as a caller sees it
--     carried-inputs     any inputs more
--     carried-claim      the claim follows
-- Assumes nothing.
use mathlib.Core.Path.{◌≡◌, sym, subst}
use mathlib.Core.Bool.{true}
use mathlib.Core.List.{List, [], ◌∷◌}
use Prim.Native.Nat.{ℕ}
use native.Mathlib.Omega.{arith}
use borrow.Author.Tests.{ne_eqb}
use Rattle.report.specs.declared.Report.{Report}
use Rattle.dayfile.specs.declared.roster.Roster.{Roster}
use Rattle.rules.specs.Tick.{Step}
use Rattle.rules.specs.Step.{handed}
use Rattle.rules.specs.Inputs.{Input, seen, outcome_of, seen_from, book_from}
use Rattle.rules.specs.Sound.{Sound}
use Rattle.rules.specs.declared.Book.{Book}
use Rattle.rules.proofs.Courses.{handed-goes}
use Rattle.rules.proofs.Reporting.{buffer-reads-back}
use Rattle.audit.specs.History.{Event, History, from, ◌▹◌, participants, Each}
use Rattle.audit.specs.Orders.{tells_parties}
use Rattle.audit.specs.Claim.{Claim}
use Rattle.audit.specs.Run.{event_of, events_on}
use Rattle.audit.proofs.Agreeing.{Agrees, claim-follows}
use Rattle.audit.proofs.Starting.{start-agrees}
use Rattle.audit.proofs.OneStep.{the-ticket, step-agrees}
use Rattle.audit.proofs.Balance.{Balanced, unmoved, own-balanced}
use Rattle.audit.proofs.Parties.{step-parties}

pub record Carried (h : History) (b : Book) : Type 0 where
  pub agrees : Agrees (participants h) h b
  pub told : Each (λ e before. tells_parties (participants h) e ≡ true) h
  pub balanced : Each (λ e before. Balanced (participants h) e) h

-- the event of a ticket with these reports
abbrev reporting : List ℕ → ℕ → List Report → Event
reporting t n rs = record { ticket = t; refusal = n; reports = rs }

step-balanced : (ps : Roster) (h : History) (b : Book) → Agrees ps h b → (t buffer : List ℕ)
    → Balanced ps (reporting t (handed b t buffer).refusal (handed b t buffer).reports)
step-balanced ps h b a t buffer =
    handed-goes b t (λ (s : Step). Balanced ps (reporting t s.refusal s.reports))
    (λ n low high. unmoved ps _ (rw (ne_eqb n 0 (λ e. omega arith))) (rw (ne_eqb n 0 (λ e. omega arith))))
    (λ f tells l n low. unmoved ps _ (rw (ne_eqb n 0 (λ e. omega arith))) (rw (ne_eqb n 0 (λ e. omega arith))))
    (λ f tells l passed. own-balanced f.kind (the-ticket ps h b a t f tells l passed))
    buffer

pub carried-start : (b : Book) → Sound b → Carried (from b) b
carried-start b s = record { agrees = start-agrees b s; told = tt; balanced = tt }

module _ {h : History} {b : Book} (c : Carried h b) where
  pub carried-claim : Claim h b
  carried-claim = claim-follows h b c.agrees c.told

  pub carried_step : (t buffer : List ℕ) → let s = handed b t buffer in Carried (reporting t s.refusal s.reports ▹ h) s.book
  carried_step t buffer =
      record {
        agrees = step-agrees (participants h) h b c.agrees t buffer;
        told = (step-parties (participants h) h b c.agrees t buffer, c.told);
        balanced = (step-balanced (participants h) h b c.agrees t buffer, c.balanced);
      }

  -- the buffer reads back
  pub carried-outcome : (x : Input) → let o = outcome_of b x in Carried (event_of (seen x o) ▹ h) o.book
  carried-outcome x =
      let s = handed b x.ticket x.buffer in
      subst (λ (rs : List Report). Carried (reporting x.ticket s.refusal rs ▹ h) s.book)
      (sym (buffer-reads-back b c.agrees.sound x.ticket x.buffer))
      (carried_step x.ticket x.buffer)

pub carried-inputs : {h : History} {b : Book} → Carried h b → (xs : List Input) → Carried (events_on h (seen_from b xs)) (book_from b xs)
carried-inputs c [] = c
carried-inputs {h = h} {b = b} c (x ∷ xs) = carried-inputs {h = event_of (seen x (outcome_of b x)) ▹ h} (carried-outcome c x) xs
