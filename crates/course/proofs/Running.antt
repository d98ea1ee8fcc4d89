-- The loop over tickets: what holds of the tickets taken so far, one more ticket, and the end. Assumes nothing.
use mathlib.Core.Path.{◌≡◌, refl, sym, ◌∙◌, ap, ap₂, subst}
use mathlib.Core.Bool.{Bool, true, false, ◌&&◌}
use mathlib.Core.List.{List, [], ◌∷◌, ◌++◌, append-nil, append_assoc}
use Prim.Native.Nat.{ℕ, zero, suc, ◌+◌, ◌-◌, ◌*◌, ◌≤◌}
use native.Mathlib.Nat.{sub-zero}
use native.Mathlib.Omega.{arith}
use borrow.Author.Tests.{leb-true}
use lib.Dec.{leb}
use lib.ListN.{length, take, drop, length-append, length-drop, length-map}
use lib.Seq.{sets, drop-drop}
use Rattle.fields.proofs.Tests.{and_left, and_right}
use Rattle.report.specs.ReportLayout.{reports_bytes, laid}
use Rattle.report.specs.Answer.{answer_bytes, answers_laid}
use Rattle.report.specs.declared.Report.{Report}
use Rattle.report.specs.declared.answer.Answer.{Answer}
use Rattle.report.proofs.ReportLaws.{length-laid, laid-further-at}
use Rattle.report.proofs.AnswerLaws.{length-answers-laid, answers-laid-more}
use Rattle.rules.specs.Tick.{Step}
use Rattle.rules.specs.Refusal.{least_buffer}
use Rattle.rules.specs.Step.{step_of, book_after}
use Rattle.rules.specs.Taken.{answer_of, answers_of, reports_in}
use Rattle.rules.specs.Sound.{Sound}
use Rattle.rules.specs.declared.Book.{Book}
use Rattle.course.specs.Running.{room_left, ran_to, ran, Ran}

-- what holds of the steps taken so far
pub record Going (b₀ : Book) (tickets answers₀ reports₀ : List ℕ) (b : Book) (k n : ℕ) (bytes text : List ℕ) : Type 0 where
  pub done : List Step
  pub book : b ≡ book_after b₀ done
  pub taken : k ≡ length done
  pub told : n ≡ length (reports_in done)
  pub answers : bytes ≡ answers_laid (answers_of done) answers₀
  pub reports : text ≡ laid (reports_in done) reports₀
  pub tickets_left : 108 * k ≤ length tickets
  pub answers_left : 4 * k ≤ length answers₀
  pub reports_left : 12 * n ≤ length reports₀
  pub rest : ran b₀ tickets (length answers₀) (length reports₀)
      ≡ done ++ ran_to (length tickets - k) b (drop (108 * k) tickets) (length answers₀ - 4 * k) (length reports₀ - 12 * n)
  pub sound : Sound b

after_one : (b : Book) (ss : List Step) (s : Step) → book_after b (ss ++ (s ∷ [])) ≡ s.book
after_one b [] s = refl
after_one b (r ∷ ss) s = after_one r.book ss s

reports-one : (ss : List Step) (s : Step) → reports_in (ss ++ (s ∷ [])) ≡ reports_in ss ++ s.reports
reports-one [] s = append-nil s.reports
reports-one (r ∷ ss) s =
    ap (λ (rs : List Report). r.reports ++ rs) (reports-one ss s) ∙ sym (append_assoc r.reports (reports_in ss) s.reports)

answers_one : (ss : List Step) (s : Step) → answers_of (ss ++ (s ∷ [])) ≡ answers_of ss ++ (answer_of s ∷ [])
answers_one [] s = refl
answers_one (r ∷ ss) s = ap (λ (rest : List Answer). answer_of r ∷ rest) (answers_one ss s)

-- there is room for one ticket more
pub record RoomFor (tickets answers reports : ℕ) : Type 0 where
  pub ticket : 108 ≤ tickets
  pub answer : 4 ≤ answers
  pub report : 6528 ≤ reports

pub room-left : (tickets answers reports : ℕ) → room_left tickets answers reports ≡ true → RoomFor tickets answers reports
room-left tickets answers reports e =
    let both = and_left (leb 108 tickets && leb 4 answers) (leb least_buffer reports) e in
    record {
      ticket = leb-true 108 tickets (and_left (leb 108 tickets) (leb 4 answers) both);
      answer = leb-true 4 answers (and_right (leb 108 tickets) (leb 4 answers) both);
      report = leb-true 6528 reports (and_right (leb 108 tickets && leb 4 answers) (leb least_buffer reports) e);
    }

module _ (b₀ : Book) (tickets answers₀ reports₀ : List ℕ) where
  pub started : Sound b₀ → Going b₀ tickets answers₀ reports₀ b₀ 0 0 answers₀ reports₀
  unfolding ran
  started s =
      record {
        done = [];
        book = refl;
        taken = refl;
        told = refl;
        answers = refl;
        reports = refl;
        tickets_left = omega arith;
        answers_left = omega arith;
        reports_left = omega arith;
        rest = rw (sub-zero (length tickets), sub-zero (length answers₀), sub-zero (length reports₀));
        sound = s;
      }

  module _ {b : Book} {k n : ℕ} {bytes text : List ℕ} (g : Going b₀ tickets answers₀ reports₀ b k n bytes text) where
    abbrev room : Bool
    room = room_left (length tickets - 108 * k) (length answers₀ - 4 * k) (length reports₀ - 12 * n)

    -- the ticket at hand, and its step
    abbrev pub ticket : List ℕ
    ticket = take 108 (drop (108 * k) tickets)

    abbrev pub step : Step
    step = step_of b ticket

    -- the buffers keep their lengths
    pub answers-long : length bytes ≡ length answers₀
    answers-long =
        ap length g.answers ∙ length-answers-laid (answers_of g.done) answers₀
        (rw (length-map g.done answer_of) (let e = g.taken in let l = g.answers_left in omega arith))

    pub reports-long : length text ≡ length reports₀
    reports-long =
        ap length g.reports ∙ length-laid (reports_in g.done) reports₀ (let e = g.told in let l = g.reports_left in omega arith)

    -- the steps that are left, of at most m tickets
    abbrev left : ℕ → List Step
    left m = ran_to m b (drop (108 * k) tickets) (length answers₀ - 4 * k) (length reports₀ - 12 * n)

    none_left : room ≡ false → (m : ℕ) → left m ≡ []
    none_left none zero = refl
    none_left none (suc m) = rw (length-drop (108 * k) tickets, none)

    pub ended : room ≡ false → Ran b₀ tickets answers₀ reports₀ b k bytes text
    ended none =
        let all : ran b₀ tickets (length answers₀) (length reports₀) ≡ g.done =
        g.rest ∙ ap (λ (ss : List Step). g.done ++ ss) (none_left none (length tickets - k)) ∙ append-nil g.done in
        record {
          book = rw all g.book;
          taken = rw all g.taken;
          answers = rw all g.answers;
          reports = rw all g.reports;
          sound = g.sound;
        }

    module _ (more : room ≡ true) (fits : 12 * n + 12 * length step.reports ≤ length reports₀) where
      has : RoomFor (length tickets - 108 * k) (length answers₀ - 4 * k) (length reports₀ - 12 * n)
      has = room-left _ _ _ more

      -- one ticket is taken
      one_left : left (length tickets - k)
          ≡ step
          ∷ ran_to (length tickets - (k + 1)) step.book (drop (108 * (k + 1)) tickets) (length answers₀ - 4 * (k + 1))
          (length reports₀ - 12 * (n + length step.reports))
      one_left =
          let h = has.ticket in
          let fuel : length tickets - k ≡ suc (length tickets - (k + 1)) = omega arith in
          let a : length answers₀ - 4 * k - 4 ≡ length answers₀ - 4 * (k + 1) = omega arith in
          let r : length reports₀ - 12 * n - 12 * length step.reports
          ≡ length reports₀ - 12 * (n + length step.reports) = omega arith in
          let d : drop 108 (drop (108 * k) tickets) ≡ drop (108 * (k + 1)) tickets =
          drop-drop 108 (108 * k) tickets ∙ (let e : 108 * k + 108 ≡ 108 * (k + 1) = omega arith in ap (λ (m : ℕ). drop m tickets) e) in
          ap left fuel ∙ rw (length-drop (108 * k) tickets, more, a, r, d)

      pub taken-on : Sound step.book → (b' : Book) (n' : ℕ) (bytes' text' : List ℕ) → b' ≡ step.book → n' ≡ n + length step.reports
          → bytes' ≡ sets bytes (4 * k) (answer_bytes (answer_of step)) → text' ≡ sets text (12 * n) (reports_bytes step.reports)
          → Going b₀ tickets answers₀ reports₀ b' (k + 1) n' bytes' text'
      taken-on s b' n' bytes' text' is_b is-n is-a is-r =
          let h = has in
          record {
            done = g.done ++ (step ∷ []);
            book = is_b ∙ sym (after_one b₀ g.done step);
            taken = rw (length-append g.done (step ∷ [])) (let e = g.taken in omega arith);
            told = rw (reports-one g.done step, length-append (reports_in g.done) step.reports) (let e = g.told in omega arith);
            answers =
                is-a
                ∙ ap₂ (λ (l : List ℕ) (m : ℕ). sets l (4 * m) (answer_bytes (answer_of step))) g.answers
                (g.taken ∙ sym (length-map g.done answer_of))
                ∙ answers-laid-more (answers_of g.done) answers₀ (answer_of step)
                (rw (length-map g.done answer_of) (let e = g.taken in omega arith))
                ∙ ap (λ (as' : List Answer). answers_laid as' answers₀) (sym (answers_one g.done step));
            reports =
                is-r
                ∙ ap (λ (l : List ℕ). sets l (12 * n) (reports_bytes step.reports)) g.reports
                ∙ laid-further-at (reports_in g.done) step.reports reports₀ n g.told fits
                ∙ ap (λ (rs : List Report). laid rs reports₀) (sym (reports-one g.done step));
            tickets_left = omega arith;
            answers_left = omega arith;
            reports_left = omega arith;
            rest =
                g.rest
                ∙ ap (λ (ss : List Step). g.done ++ ss) one_left
                ∙ sym (append_assoc g.done (step ∷ []) _)
                ∙ ap₂ (λ (c : Book) (m : ℕ). (g.done ++ (step ∷ [])) ++ ran_to (length tickets - (k + 1)) c (drop (108 * (k + 1)) tickets)
                (length answers₀ - 4 * (k + 1)) (length reports₀ - 12 * m))
                (sym is_b) (sym is-n);
            sound = subst Sound (sym is_b) s;
          }
