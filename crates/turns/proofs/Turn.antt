-- A turn up to its verdict: a ticket that is refused by 7 to 11 changes nothing; of another, the expiries, and then the step of the rules
-- is that of the verdict on what is sought in the book after them. Assumes nothing.
--     refused-turn    the step of a ticket that 7 to 11 refuse
--     clocked-sound   the book of a ticket that they do not refuse is sound at its time
--     loop-begun      the loop over orders begins
--     expiries-done   the loop over orders has ended: at the last order, or at one that is young
--     after-sound ..  of the book after the expiries: it is sound, and has the orders' keys that it had
--     turn            its step, for any verdict that is the one on what is sought
use Rattle.std.specs.Prelude.{Err, Ok, Result}
use mathlib.Core.Path.{◌≡◌, sym, ◌∙◌, ap, ap₂, subst}
use mathlib.Core.Bool.{false}
use mathlib.Core.List.{List, ◌++◌}
use mathlib.Core.Logic.{◌⊎◌}
use Prim.Native.Nat.{ℕ, ◌+◌, ◌-◌, ◌*◌, ◌≤◌, ◌<◌}
use native.Mathlib.Omega.{arith}
use borrow.Author.Tests.{eqb-false}
use lib.Dec.{eqb}
use lib.ListN.{length, length-append}
use lib.Seq.{sets, length-sets}
use Rattle.ticket.specs.TicketReading.{reading}
use Rattle.ticket.specs.declared.Fields.{Fields}
use Rattle.report.specs.ReportLayout.{reports_bytes}
use Rattle.report.specs.declared.Report.{Report}
use Rattle.report.proofs.ReportLaws.{put-further}
use Rattle.rules.specs.Book.{order_of, key_of}
use Rattle.rules.specs.Cover.{most_total}
use Rattle.rules.specs.Tick.{Step, at_time}
use Rattle.rules.specs.Decision.{applied, told_by}
use Rattle.rules.specs.Refusal.{timing_of}
use Rattle.rules.specs.Step.{untouched, step_timed, step_read, step_of}
use Rattle.rules.specs.Sound.{Sound}
use Rattle.rules.specs.declared.refusal.Timing.{Timing}
use Rattle.rules.specs.declared.refusal.Timing.TheVariants.{InTime, Early}
use Rattle.rules.specs.declared.verdict.Verdict.{Verdict}
use Rattle.rules.specs.declared.Book.{Book}
use Rattle.rules.proofs.SweepSound.{Swept, swept}
use Rattle.rules.proofs.Reporting.{swept-few}
use Rattle.course.specs.Room.{Applicable}
use Rattle.course.specs.Entry.{timed_entry, read_entry, entry_of}
use Rattle.course.specs.Expiry.{Passed}
use Rattle.course.specs.Seeking.{sought}
use Rattle.course.specs.Judging.{judged}
use Rattle.course.specs.Taking.{swept_for, carried_out, taken_as}
use Rattle.course.specs.declared.Entry.{Entry}
use Rattle.course.specs.declared.Judged.{Judged}
use Rattle.course.proofs.Taking.{step-taken}
use Rattle.course.proofs.Turning as turning
use Rattle.course.proofs.Looping.{Sweeping, sweep-begun, all-swept}
use Rattle.course.proofs.Seeking.{swept-key}
use Rattle.course.proofs.SoughtFitting.{Entered, entered, judged-applicable}
use Rattle.course.proofs.Summing.{all_of, all-total}
use Rattle.verdict.specs.Judgement.{verdict_of}
use Rattle.verdict.specs.Meaning.{facts_of, decision_by, judged_by}
use Rattle.verdict.proofs.Meaning.{judged-verdict}
use Rattle.turns.specs.Turn.{swept_at, Written, TakenUp, Expired}

-- refused by 7 to 11: book and reports stay as they are
pub refused-turn : (b : Book) (t : List ℕ) (n : ℕ) → (entry_of b.clock t).refusal ≡ n → eqb n 0 ≡ false → step_of b t ≡ untouched b n
unfolding step_of
refused-turn b t n refusal refused = from-reading (reading t) refusal
  where
    from-timing : (f : Fields) (z : Timing) → (timed_entry b.clock f z).refusal ≡ n → step_timed b t f z ≡ untouched b n
    from-timing f InTime e = absurd (eqb-false n 0 refused (sym e))
    from-timing f Early e = ap (untouched b) e

    from-reading : (r : Result Fields ℕ) → (read_entry b.clock r).refusal ≡ n → step_read b t r ≡ untouched b n
    from-reading (Ok f) e = from-timing f (timing_of b.clock f.time) e
    from-reading (Err m) e = ap (untouched b) e

pub clocked-sound : {b : Book} {t : List ℕ} {e : Entry} → TakenUp b t e → Sound (at_time b e.time)
clocked-sound {b} {t} h = subst (λ (x : Entry). Sound (at_time b x.time)) (sym h.is) (turning.start-sound b h.sound t)

-- the loop over orders begins at order m
pub loop-begun : {b : Book} (time : ℕ) → Sound (at_time b time) → {n : ℕ} {text : List ℕ} {m : ℕ} → Passed m b
    → Sweeping (at_time b time) n text (at_time b time) m n text
loop-begun {b} time s {n} {text} {m} p = sweep-begun (at_time b time) s n text m (record { none = λ i l. p.none i l })

-- no order is left to be looked at, or the next one is young: c is the book of all expiries, and so are the reports
pub expiries-done : {b : Book} (time : ℕ) → Sound (at_time b time) → {n₀ : ℕ} {text₀ : List ℕ} {c : Book} {m₀ m n : ℕ} {text : List ℕ}
    → Passed m₀ b → Sweeping (at_time b time) n₀ text₀ c m n text → m₀ ≤ m → m ≤ b.count
    → (b.count ≤ m) ⊎ (c.clock - (order_of c.orders m).time < 20)
    → (c ≡ (swept_at b time).book) × Written (swept_at b time).reports n₀ text₀ n text
expiries-done {b} time s {n₀} {text₀} first w low high stops =
    let all = all-swept (at_time b time) s n₀ text₀ 0 w (record { none = λ i l. first.none i l }) low high stops (omega arith) in (
      w.book ∙ ap (λ (x : Step). x.book) all,
      record {
        told = w.told ∙ ap (λ (x : Step). n₀ + length x.reports) all;
        reports = w.reports ∙ ap (λ (x : Step). sets text₀ (12 * n₀) (reports_bytes x.reports)) all;
      },
    )

-- they are at most 512
pub swept-few-at : (b : Book) (time : ℕ) → Sound (at_time b time) → length (swept_at b time).reports ≤ 512
swept-few-at b time s = let f = (swept-few (at_time b time) s b.count (omega arith)).few in let l = s.orders.count in omega arith

pub written-as : {rs : List Report} {n : ℕ} {text : List ℕ} {n' : ℕ} {text' : List ℕ} → text' ≡ sets text (12 * n) (reports_bytes rs)
    → n' ≡ n + length rs → Written rs n text n' text'
written-as reports told = record { told = told; reports = reports }

-- reports behind others are all of them
pub written-on : {rs more : List Report} {n n' n″ : ℕ} {text text' text″ : List ℕ} → Written rs n text n' text'
    → Written more n' text' n″ text″ → Written (rs ++ more) n text n″ text″
written-on {rs} {more} {n} {text = text} w x =
    record {
      told = let a = w.told in let b = x.told in let l = length-append rs more in omega arith;
      reports =
          x.reports
          ∙ ap₂ (λ (l : List ℕ) (k : ℕ). sets l (12 * k) (reports_bytes more)) w.reports w.told
          ∙ put-further text n rs more;
    }

-- what is written behind others leaves the text as long as it was
pub written-long : {rs : List Report} {n : ℕ} {text : List ℕ} {n' : ℕ} {text' : List ℕ} → Written rs n text n' text'
    → length text' ≡ length text
written-long w = simp length-sets at (ap length w.reports)

module _ {b : Book} {t : List ℕ} {e : Entry} {c : Book} (w : Expired b t e c) where
  abbrev start : Book
  start = at_time b e.time

  -- the expiries of the rules
  abbrev swept_step : Step
  swept_step = swept_at b e.time

  sweeps : Swept start swept_step
  sweeps = swept start (clocked-sound w.taken) b.count (omega arith)

  pub after-sound : Sound c
  after-sound = subst Sound (sym w.book) sweeps.sound

  pub after-count : c.count ≡ b.count
  after-count = ap (λ (d : Book). d.count) w.book ∙ sweeps.count

  pub after-roster : c.roster ≡ b.roster
  after-roster = ap (λ (d : Book). d.roster) w.book ∙ sweeps.roster

  -- no key changes
  pub after-key : (i : ℕ) → key_of (order_of c.orders i) ≡ key_of (order_of b.orders i)
  after-key i =
      ap (λ (d : Book). key_of (order_of d.orders i)) w.book ∙ swept-key start (clocked-sound w.taken) b.count (omega arith) i

  -- all cover together is within the limit
  pub all-few : all_of c.covers ≤ most_total
  all-few = let e = all-total c after-sound in let l = after-sound.limited in omega arith

  -- the verdict on what is sought
  module _ {v : Verdict} (is : v ≡ verdict_of (facts_of (sought c e t))) where
    judged-is : judged e.refusal (sought c e t) ≡ judged_by (sought c e t) v
    judged-is =
        ap (λ (r : ℕ). judged r (sought c e t)) w.taken.passes
        ∙ judged-verdict (sought c e t)
        ∙ ap (judged_by (sought c e t)) (sym is)

    -- is the step of the rules
    pub turn : step_of b t
        ≡ record {
          refusal = v.refusal;
          reports = swept_step.reports ++ told_by c (decision_by (sought c e t) v);
          rows = (decision_by (sought c e t) v).rows;
          book = applied c (decision_by (sought c e t) v);
        }
    turn =
        step-taken b t
        ∙ ap (λ (x : Entry). taken_as b x t) (sym w.taken.is)
        ∙ ap (λ (r : ℕ). carried_out (swept_for r start) (judged e.refusal (sought (swept_for r start).book e t))) w.taken.passes
        ∙ ap
        (λ (d : Book).
        let j = judged e.refusal (sought d e t) in
        record {
          refusal = j.refusal;
          reports = swept_step.reports ++ told_by d j.decision;
          rows = j.decision.rows;
          book = applied d j.decision;
        })
        (sym w.book)
        ∙ ap
        (λ (j : Judged).
        record {
          refusal = j.refusal;
          reports = swept_step.reports ++ told_by c j.decision;
          rows = j.decision.rows;
          book = applied c j.decision;
        })
        judged-is

    -- can be carried out
    pub verdict-applicable : Applicable c (decision_by (sought c e t) v)
    verdict-applicable =
        subst (λ (j : Judged). Applicable c j.decision) judged-is
        (judged-applicable c after-sound b.clock t e (subst (Entered b.clock t) (sym w.taken.is) (entered b.clock t)))
