-- What holds when a turn is done: it was one step of the rules. With it the loop over tickets goes on. Assumes nothing.
--     turned_down    a ticket that 7 to 11 refuse
--     refused-late   a ticket that is refused from 12 on leaves what the expiries left
--     turned         a ticket whose decision is carried out
--     rows-few       the rows followed fit a byte
--     step-told      so do a step's reports 16 bits
--     going_on       what holds of the tickets taken so far holds with one more
use mathlib.Core.Path.{◌≡◌, refl, sym, ◌∙◌, ap, subst}
use mathlib.Core.Bool.{true, false}
use mathlib.Core.List.{List}
use Prim.Native.Nat.{ℕ, ◌+◌, ◌-◌, ◌*◌, ◌≤◌, ◌<◌}
use native.Mathlib.Nat.{add-zero}
use native.Mathlib.Omega.{arith}
use lib.Dec.{eqb}
use lib.ListN.{length, take, drop}
use lib.Seq.{sets}
use Rattle.report.specs.ReportLayout.{reports_bytes}
use Rattle.report.specs.Answer.{answer_bytes}
use Rattle.report.specs.declared.answer.Answer.{Answer}
use Rattle.rules.specs.Book.{with_covers}
use Rattle.rules.specs.Cover.{transferred}
use Rattle.rules.specs.Decision.{nobody}
use Rattle.rules.specs.Tick.{Step}
use Rattle.rules.specs.Step.{step_of}
use Rattle.rules.specs.Taken.{answer_of}
use Rattle.rules.specs.Sound.{Sound}
use Rattle.rules.specs.declared.verdict.Verdict.{Verdict}
use Rattle.rules.specs.declared.Book.{Book}
use Rattle.rules.proofs.CoverMoving.{nobody-moves}
use Rattle.rules.proofs.Reporting.{step-few}
use Rattle.rules.proofs.StepSound.{step-sound}
use Rattle.course.specs.Entry.{entry_of}
use Rattle.course.specs.Running.{room_left}
use Rattle.course.specs.Seeking.{sought}
use Rattle.course.specs.declared.Entry.{Entry}
use Rattle.course.proofs.Running.{Going, room-left, taken-on}
use Rattle.verdict.specs.Judgement.{verdict_of}
use Rattle.verdict.specs.Meaning.{facts_of, decision_by}
use Rattle.verdict.specs.OwnStep.{refused_verdict}
use Rattle.verdict.proofs.VerdictLaws.{refused-alone}
use Rattle.turns.specs.Kept.{moved_by}
use Rattle.turns.specs.Turn.{swept_at, Written, Expired, CarriedOut, Turned}
use Rattle.turns.proofs.Turn.{refused-turn, after-roster, written-on, turn, verdict-applicable}
use Rattle.turns.proofs.VerdictFitting.{verdict_reports}
use Rattle.turns.proofs.TurnEnds.{did_nothing}

-- refused by 7 to 11, all stays as it is
pub turned_down : (b : Book) (t : List ℕ) (r n : ℕ) (text : List ℕ) → (entry_of b.clock t).refusal ≡ r → eqb r 0 ≡ false
    → Turned b t n text b (record { refusal = r; reports = 0; rows = 0 }) text
turned_down b t r n text refusal refused =
    let step = refused-turn b t r refusal refused in
    record {
      book = ap (λ (x : Step). x.book) (sym step);
      answer = ap answer_of (sym step);
      reports = ap (λ (x : Step). sets text (12 * n) (reports_bytes x.reports)) (sym step);
      roster = refl;
    }

pub step-told : (b : Book) → Sound b → (t : List ℕ) → length (step_of b t).reports ≤ 544
step-told b s t = (step-few b s t).few

module _ {b : Book} {t : List ℕ} {e : Entry} {c : Book} (w : Expired b t e c) {v : Verdict}
    (is : v ≡ verdict_of (facts_of (sought c e t))) where
  -- refused from 12 on
  pub refused-late : {n : ℕ} {text : List ℕ} → (v.refusal ≡ 0 → ⊥) → CarriedOut c (decision_by (sought c e t) v) n text c n text 0
  refused-late {n} {text} refused =
      did_nothing w is (ap (λ (y : Verdict). y.does) alone) (ap (with_covers c) (sym stays))
      (record {
        told = sym (ap (λ (y : Verdict). n + length (verdict_reports y)) alone ∙ add-zero n);
        reports = sym (ap (λ (y : Verdict). sets text (12 * n) (reports_bytes (verdict_reports y))) alone);
      })
    where
      alone : v ≡ refused_verdict v.refusal
      alone =
          subst (λ (y : Verdict). y ≡ refused_verdict y.refusal) (sym is)
          (refused-alone (facts_of (sought c e t)) (λ none. refused (ap (λ (y : Verdict). y.refusal) is ∙ none)))

      stays : moved_by v.second v.amount (moved_by v.first v.amount c.covers) ≡ c.covers
      stays =
          ap (λ (y : Verdict). moved_by y.second y.amount (moved_by y.first y.amount c.covers)) alone
          ∙ nobody-moves (transferred nobody c.covers)
          ∙ nobody-moves c.covers

  module _ {n₀ n n' : ℕ} {text₀ text text' : List ℕ} (before : Written (swept_at b e.time).reports n₀ text₀ n text) {b' : Book} {rows : ℕ}
      (k : CarriedOut c (decision_by (sought c e t) v) n text b' n' text' rows) where
    all-written : Written (step_of b t).reports n₀ text₀ n' text'
    all-written =
        subst (λ (x : Step). Written x.reports n₀ text₀ n' text') (sym (turn w is)) (written-on before k.told)

    -- how many reports there are
    pub told-is : n' ≡ n₀ + length (step_of b t).reports
    told-is = all-written.told

    pub rows-few : rows < 256
    rows-few = let l = (verdict-applicable w is).rows in let q = k.rows in omega arith

    pub turned : Turned b t n₀ text₀ b' (record { refusal = v.refusal; reports = n' - n₀; rows = rows }) text'
    turned =
        let step = turn w is in
        let count : n' - n₀ ≡ length (step_of b t).reports = let q = told-is in omega arith in
        record {
          book = k.book ∙ ap (λ (x : Step). x.book) (sym step);
          answer =
              λ i. record {
                refusal = ap (λ (x : Step). x.refusal) (sym step) i;
                reports = count i;
                rows = (k.rows ∙ ap (λ (x : Step). x.rows) (sym step)) i;
              };
          reports = all-written.reports;
          roster = ap (λ (x : Book). x.roster) k.book ∙ after-roster w;
        }

-- the loop over tickets goes on
pub going_on : {b₀ : Book} {tickets answers₀ reports₀ : List ℕ} {b : Book} {taken n : ℕ} {bytes text t : List ℕ} {b' : Book} {a : Answer}
    {text' bytes' : List ℕ}
    → Going b₀ tickets answers₀ reports₀ b taken n bytes text
    → room_left (length tickets - 108 * taken) (length answers₀ - 4 * taken) (length reports₀ - 12 * n) ≡ true
    → t ≡ take 108 (drop (108 * taken) tickets)
    → Turned b t n text b' a text' → bytes' ≡ sets bytes (4 * taken) (answer_bytes a)
    → Going b₀ tickets answers₀ reports₀ b' (taken + 1) (n + a.reports) bytes' text'
going_on {b₀} {tickets} {answers₀} {reports₀} {b} {taken} {n} {bytes} {text} {t} {b'} {a} {text'} {bytes'} g more is h is-bytes =
    let room : 6528 ≤ length reports₀ - 12 * n =
    (room-left (length tickets - 108 * taken) (length answers₀ - 4 * taken) (length reports₀ - 12 * n) more).report in
    let most = step-told b g.sound (take 108 (drop (108 * taken) tickets)) in
    taken-on b₀ tickets answers₀ reports₀ g more (omega arith) (step-sound b g.sound _) b' (n + a.reports) bytes' text'
    (h.book ∙ ap (λ (x : List ℕ). (step_of b x).book) is)
    (ap (λ (x : Answer). n + x.reports) h.answer ∙ ap (λ (x : List ℕ). n + length (step_of b x).reports) is)
    (is-bytes
    ∙ ap (λ (x : Answer). sets bytes (4 * taken) (answer_bytes x)) h.answer
    ∙ ap (λ (x : List ℕ). sets bytes (4 * taken) (answer_bytes (answer_of (step_of b x)))) is)
    (h.reports ∙ ap (λ (x : List ℕ). sets text (12 * n) (reports_bytes (step_of b x).reports)) is)
