-- What is printed of the tickets that are taken: their answers and reports fit, and one batch after the other gives the day's steps.
-- Assumes nothing.
use mathlib.Core.Path.{◌≡◌, refl, sym, ◌∙◌, ap, ap₂, subst}
use mathlib.Core.Bool.{Bool, true, false, cond}
use mathlib.Core.List.{List, [], ◌∷◌, ◌++◌, append_assoc}
use Prim.Native.Nat.{ℕ, zero, suc, ◌+◌, ◌-◌, ◌*◌, ◌≤◌, ◌<◌}
use native.Mathlib.Nat.{add-zero, sub-zero}
use native.Mathlib.Omega.{arith}
use borrow.Author.Tests.{le-leb}
use lib.ListN.{length, take, drop, length-append, length-drop}
use lib.Seq.{drop-drop}
use Rattle.ticket.specs.TicketLayout.{ticket_length}
use Rattle.report.specs.ReportLayout.{report_length, AllFitting}
use Rattle.report.specs.Answer.{answer_length, AllFittingAnswers, FittingAnswer}
use Rattle.dayfile.specs.DayFile.{day_file, ticket_at}
use Rattle.rules.specs.Tick.{Step}
use Rattle.rules.specs.Refusal.{least_buffer}
use Rattle.rules.specs.Step.{step_of, steps_of, book_after}
use Rattle.rules.specs.Taken.{answer_of, answers_of, reports_in}
use Rattle.rules.specs.Program.{ticket_lines, lines_from, tickets_from}
use Rattle.rules.specs.Sound.{Sound}
use Rattle.rules.specs.declared.Book.{Book}
use Rattle.rules.proofs.Courses.{step-refusal-small}
use Rattle.rules.proofs.Reporting.{fitting-append, step-few}
use Rattle.rules.proofs.StepSound.{step-sound}
use Rattle.course.specs.Running.{room_left, ran_to, ran}
use Rattle.course.proofs.Running.{room-left}
use Rattle.course.proofs.Turning.{applicable, step_is}

rows-small : (b : Book) → Sound b → (t : List ℕ) → (step_of b t).rows < 256
rows-small b s t = subst (λ (w : Step). w.rows < 256) (sym (step_is b s t)) (applicable b s t).rows

-- a step's answer fits its bytes
answer-fits : (b : Book) → Sound b → (t : List ℕ) → FittingAnswer (answer_of (step_of b t))
answer-fits b s t =
    record { refusal = step-refusal-small b t; reports = let few = (step-few b s t).few in omega arith; rows = rows-small b s t }

-- the answers and reports of steps fit theirs, and both their buffers
pub record Printable (ss : List Step) (answers reports : ℕ) : Type 0 where
  pub answers-fit : AllFittingAnswers (answers_of ss)
  pub reports-fit : AllFitting (reports_in ss)
  pub answered : answer_length * length ss ≤ answers
  pub reported : report_length * length (reports_in ss) ≤ reports

to-printable : (n : ℕ) (b : Book) → Sound b → (tickets : List ℕ) (answers reports : ℕ)
    → Printable (ran_to n b tickets answers reports) answers reports
to-printable zero b s tickets answers reports =
    record { answers-fit = tt; reports-fit = tt; answered = omega arith; reported = omega arith }
to-printable (suc n) b s tickets answers reports =
    go (to-printable n w.book (step-sound b s t) (drop ticket_length tickets) (answers - answer_length)
    (reports - report_length * length w.reports))
    (room_left (length tickets) answers reports) refl
  where
    t : List ℕ
    t = take ticket_length tickets

    w : Step
    w = step_of b t

    rest : List Step
    rest = ran_to n w.book (drop ticket_length tickets) (answers - answer_length) (reports - report_length * length w.reports)

    go : Printable rest (answers - answer_length) (reports - report_length * length w.reports)
        → (z : Bool) → room_left (length tickets) answers reports ≡ z → Printable (cond z (w ∷ rest) []) answers reports
    go on true e =
        let has = room-left (length tickets) answers reports e in
        let few = step-few b s t in
        record {
          answers-fit = (answer-fits b s t, on.answers-fit);
          reports-fit = fitting-append w.reports (reports_in rest) few.fit on.reports-fit;
          answered = let l = on.answered in omega arith;
          reported = let l = on.reported in let f = few.few in rw (length-append w.reports (reports_in rest)) (omega arith);
        }
    go on false e = record { answers-fit = tt; reports-fit = tt; answered = omega arith; reported = omega arith }

pub ran-printable : (b : Book) → Sound b → (tickets : List ℕ) (answers reports : ℕ)
    → Printable (ran b tickets answers reports) answers reports
unfolding ran
ran-printable b s tickets answers reports = to-printable (length tickets) b s tickets answers reports

-- and leave a sound book
to-sound : (n : ℕ) (b : Book) → Sound b → (tickets : List ℕ) (answers reports : ℕ) → Sound (book_after b (ran_to n b tickets answers reports))
to-sound zero b s tickets answers reports = s
to-sound (suc n) b s tickets answers reports =
    go (to-sound n w.book (step-sound b s (take ticket_length tickets)) (drop ticket_length tickets) (answers - answer_length) left)
    (room_left (length tickets) answers reports)
  where
    w : Step
    w = step_of b (take ticket_length tickets)

    left : ℕ
    left = reports - report_length * length w.reports

    rest : List Step
    rest = ran_to n w.book (drop ticket_length tickets) (answers - answer_length) left

    go : Sound (book_after w.book rest) → (z : Bool) → Sound (book_after b (cond z (w ∷ rest) []))
    go on true = on
    go on false = s

pub ran-sound : (b : Book) → Sound b → (tickets : List ℕ) (answers reports : ℕ) → Sound (book_after b (ran b tickets answers reports))
unfolding ran
ran-sound b s tickets answers reports = to-sound (length tickets) b s tickets answers reports

-- with a whole ticket and room at least one is taken
pub takes_one : (b : Book) (tickets : List ℕ) (answers reports : ℕ) → ticket_length ≤ length tickets
    → answer_length ≤ answers → least_buffer ≤ reports
    → 1 ≤ length (ran b tickets answers reports)
unfolding ran
takes_one b tickets answers reports t a r = go (length tickets) refl
  where
    go : (n : ℕ) → length tickets ≡ n → 1 ≤ length (ran_to n b tickets answers reports)
    go zero e = absurd (omega arith)
    go (suc n) e = rw (le-leb 108 (length tickets) t, le-leb 4 answers a, le-leb 6528 reports r) (omega arith)

-- the tickets of a file from number k on, of which there are left: those taken come first
module _ (file : List ℕ) where
  pub record Split (b : Book) (k left : ℕ) (ss : List Step) : Type 0 where
    pub within : length ss ≤ left
    pub steps : steps_of b (tickets_from file k left) ≡ ss ++ steps_of (book_after b ss) (tickets_from file (k + length ss) (left - length ss))

  split-none : (b : Book) (k left : ℕ) → Split b k left []
  split-none b k left = record { within = omega arith; steps = rw (add-zero k, sub-zero left) }

  split_one : (b : Book) (k left : ℕ) (ss : List Step) → Split (step_of b (ticket_at file k)).book (suc k) left ss
      → Split b k (suc left) (step_of b (ticket_at file k) ∷ ss)
  split_one b k left ss h =
      record {
        within = let l = h.within in omega arith;
        steps =
            ap (λ (more : List Step). w ∷ more)
            (h.steps ∙ ap₂ (λ (i m : ℕ). ss ++ steps_of (book_after w.book ss) (tickets_from file i m)) later less);
      }
    where
      w : Step
      w = step_of b (ticket_at file k)

      later : suc k + length ss ≡ k + suc (length ss)
      later = omega arith

      less : left - length ss ≡ suc left - suc (length ss)
      less = omega arith

  to-split : (n : ℕ) (b : Book) (k left : ℕ) (answers reports : ℕ) → length file ≡ (day_file file).first + ticket_length * (k + left)
      → Split b k left (ran_to n b (drop ((day_file file).first + ticket_length * k) file) answers reports)
  to-split zero b k left answers reports whole = split-none b k left
  to-split (suc n) b k left answers reports whole =
      go (λ (m : ℕ) h. to-split n w.book (suc k) m (answers - answer_length) (reports - report_length * length w.reports) h)
      (room_left (length tickets) answers reports) refl left whole
    where
      at : ℕ
      at = (day_file file).first + ticket_length * k

      tickets : List ℕ
      tickets = drop at file

      w : Step
      w = step_of b (ticket_at file k)

      next : drop ticket_length tickets ≡ drop ((day_file file).first + ticket_length * suc k) file
      next =
          drop-drop ticket_length at file
          ∙ (let e : at + ticket_length ≡ (day_file file).first + ticket_length * suc k = omega arith in ap (λ (i : ℕ). drop i file) e)

      rest : List ℕ → List Step
      rest more = ran_to n w.book more (answers - answer_length) (reports - report_length * length w.reports)

      -- the file has m tickets from number i on
      Has : ℕ → ℕ → Type 0
      Has i m = length file ≡ (day_file file).first + ticket_length * (i + m)

      go : ((m : ℕ) → Has (suc k) m → Split w.book (suc k) m (rest (drop ((day_file file).first + ticket_length * suc k) file)))
          → (z : Bool) → room_left (length tickets) answers reports ≡ z → (m : ℕ) → Has k m
          → Split b k m (cond z (w ∷ rest (drop ticket_length tickets)) [])
      go on true e zero h =
          let has = (room-left (length tickets) answers reports e).ticket in
          let l = length-drop at file in
          absurd (omega arith)
      go on true e (suc m) h =
          subst (λ (more : List ℕ). Split b k (suc m) (w ∷ rest more)) (sym next)
          (split_one b k m (rest (drop ((day_file file).first + ticket_length * suc k) file)) (on m (omega arith)))
      go on false e m h = split-none b k m

  pub ran-splits : (b : Book) (k left : ℕ) (answers reports : ℕ) → length file ≡ (day_file file).first + ticket_length * (k + left)
      → Split b k left (ran b (drop ((day_file file).first + ticket_length * k) file) answers reports)
  unfolding ran
  ran-splits b k left answers reports whole =
      to-split (length (drop ((day_file file).first + ticket_length * k) file)) b k left answers reports whole

-- one batch's lines and book behind the other's
pub lines-append : (k : ℕ) (ss ts : List Step) → lines_from k (ss ++ ts) ≡ lines_from k ss ++ lines_from (k + length ss) ts
lines-append k [] ts = ap (λ (n : ℕ). lines_from n ts) (sym (add-zero k))
lines-append k (s ∷ ss) ts =
    ap (λ (t : List ℕ). ticket_lines k s ++ t) (lines-append (suc k) ss ts ∙ ap (λ (n : ℕ). lines_from (suc k) ss ++ lines_from n ts) later)
    ∙ sym (append_assoc (ticket_lines k s) (lines_from (suc k) ss) (lines_from (k + suc (length ss)) ts))
  where
    later : suc k + length ss ≡ k + suc (length ss)
    later = omega arith

pub after-append : (b : Book) (ss ts : List Step) → book_after b (ss ++ ts) ≡ book_after (book_after b ss) ts
after-append b [] ts = refl
after-append b (s ∷ ss) ts = after-append s.book ss ts
