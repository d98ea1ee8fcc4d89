-- One ticket through the core, or turned back before it, is the outcome of the rules. Assumes nothing.
use Rattle.std.specs.Prelude.{◌≡◌, ℕ, zero, suc, ◌-◌, ◌*◌, ◌<◌, ◌≤◌, Bool, true, false, cond, ◌&&◌, leb, List, [], ◌∷◌, length, take, drop, None}
use mathlib.Core.Path.{refl, sym, ◌∙◌, ap, subst}
use mathlib.Core.List.{append-nil}
use native.Mathlib.Omega.{arith}
use borrow.Author.Tests.{le-leb, le-ltb, lt-ltb, ne_eqb}
use Rattle.fields.proofs.FromFront.{to_end}
use Rattle.ticket.specs.Shape.{shape_of}
use Rattle.ticket.proofs.CheckLaws.{read-malformed}
use Rattle.report.specs.ReportLayout.{laid}
use Rattle.report.specs.Answer.{answer_at, answers_laid, AllFittingAnswers}
use Rattle.report.specs.declared.Report.{Report}
use Rattle.report.specs.declared.answer.Answer.{Answer}
use Rattle.report.proofs.AnswerLaws.{answer-reads-back}
use Rattle.rules.specs.Tick.{Step}
use Rattle.rules.specs.Refusal.{least_buffer}
use Rattle.rules.specs.Step.{untouched, step_of, step_read, handed, Outcome, handed_back, outcome, book_after}
use Rattle.rules.specs.Taken.{answer_of, answers_of, reports_in}
use Rattle.rules.specs.Sound.{Sound}
use Rattle.rules.specs.declared.Book.{Book}
use Rattle.course.specs.Running.{ran_to, ran, Ran}
use Rattle.course.proofs.PrintedBatches.{ran-printable}

-- without room for an answer no ticket is taken
no_answer : (m : ℕ) (b : Book) (tickets : List ℕ) (reports : ℕ) → ran_to m b tickets 0 reports ≡ []
no_answer zero b tickets reports = refl
no_answer (suc m) b tickets reports = go (leb 108 (length tickets))
  where
    go : (z : Bool)
        → cond ((z && leb 4 0) && leb least_buffer reports)
        (step_of b (take 108 tickets)
        ∷ ran_to m (step_of b (take 108 tickets)).book (drop 108 tickets) (0 - 4)
        (reports - 12 * length (step_of b (take 108 tickets)).reports)) []
        ≡ []
    go true = refl
    go false = refl

module _ (b : Book) (t : List ℕ) (reports : ℕ) (whole : length t ≡ 108) (enough : 6528 ≤ reports) where
  one-ran : ran b t 4 reports ≡ step_of b t ∷ []
  unfolding ran
  one-ran = go (length t) refl
    where
      all : take 108 t ≡ t
      all = (let e : 108 ≡ length t - 0 = omega arith in ap (λ (n : ℕ). take n t) e) ∙ to_end t 0

      go : (n : ℕ) → length t ≡ n → ran_to n b t 4 reports ≡ step_of b t ∷ []
      go zero e = absurd (omega arith)
      go (suc n) e =
          rw (le-leb 108 (length t) (omega arith), le-leb 6528 reports enough)
          (ap (λ (rest : List Step). step_of b (take 108 t) ∷ rest)
          (no_answer n (step_of b (take 108 t)).book (drop 108 t) (reports - 12 * length (step_of b (take 108 t)).reports))
          ∙ ap (λ (x : List ℕ). step_of b x ∷ []) all)

-- with a buffer that is long enough
enough-handed : (b : Book) (t buffer : List ℕ) → 6528 ≤ length buffer → handed b t buffer ≡ step_of b t
unfolding handed
enough-handed b t buffer h = rw (le-ltb (length buffer) 6528 h)

pub one-outcome : (b : Book) → Sound b → (t answers buffer : List ℕ) → length answers ≡ 4 → length t ≡ 108 → 6528 ≤ length buffer
    → {c : Book} {k : ℕ} {bytes text : List ℕ} → Ran b t answers buffer c k bytes text
    → (a : Answer) → a ≡ answer_at bytes 0
    → ◌≡◌ {A = Outcome} (record { refusal = a.refusal; reports = a.reports; rows = a.rows; book = c; buffer = text })
    (outcome b t buffer)
one-outcome b s t answers buffer four whole enough {c} {k} {bytes} {text} r a is =
    (λ i. record {
      refusal = (answer i).refusal;
      reports = (answer i).reports;
      rows = (answer i).rows;
      book = (r.book ∙ ap (book_after b) one) i;
      buffer = (r.reports ∙ ap (λ (ss : List Step). laid (reports_in ss) buffer) one
          ∙ ap (λ (rs : List Report). laid rs buffer) (append-nil (step_of b t).reports)) i;
    })
    ∙ ap (λ (w : Step). handed_back w buffer) (sym (enough-handed b t buffer enough))
  where
    one : ran b t (length answers) (length buffer) ≡ step_of b t ∷ []
    one = ap (λ (n : ℕ). ran b t n (length buffer)) four ∙ one-ran b t (length buffer) whole enough

    fit : AllFittingAnswers (answer_of (step_of b t) ∷ [])
    fit =
        subst (λ (ss : List Step). AllFittingAnswers (answers_of ss)) one (ran-printable b s t (length answers) (length buffer)).answers-fit

    answer : a ≡ answer_of (step_of b t)
    answer =
        is
        ∙ ap (λ (l : List ℕ). answer_at l 0) (r.answers ∙ ap (λ (ss : List Step). answers_laid (answers_of ss) answers) one)
        ∙ answer-reads-back (answer_of (step_of b t) ∷ []) answers 0 (answer_of (step_of b t)) fit (omega arith)

-- turned back by 6
pub short-outcome : (b : Book) (t buffer : List ℕ) → length buffer < 6528
    → ◌≡◌ {A = Outcome} (record { refusal = 6; reports = 0; rows = 0; book = b; buffer = buffer }) (outcome b t buffer)
unfolding handed
short-outcome b t buffer h = rw (lt-ltb (length buffer) 6528 h)

-- a ticket that is not 108 bytes
malformed : (t : List ℕ) → (length t ≡ 108 → ⊥) → shape_of t ≡ None
malformed t n = rw (ne_eqb (length t) 108 n)

other_step : (b : Book) (t : List ℕ) → (length t ≡ 108 → ⊥) → step_of b t ≡ untouched b 7
unfolding step_of
other_step b t n = ap (step_read b t) (read-malformed t (malformed t n))

-- turned back by 7
pub other-outcome : (b : Book) (t buffer : List ℕ) → 6528 ≤ length buffer → (length t ≡ 108 → ⊥)
    → ◌≡◌ {A = Outcome} (record { refusal = 7; reports = 0; rows = 0; book = b; buffer = buffer }) (outcome b t buffer)
other-outcome b t buffer h n = sym (ap (λ (w : Step). handed_back w buffer) (enough-handed b t buffer h ∙ other_step b t n))
