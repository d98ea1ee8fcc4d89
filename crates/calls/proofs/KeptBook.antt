-- Demand 3 of a book that is kept by any calls of `open`, `hand_in` and the core's `run`.
--     carried-bytes     what the core leaves, read off its bytes
--     kept-sound        what `hand_in` and `run` need of the book is so at every call
--     kept-demand3      demand 3, of all events and the book at the end
-- Assumes nothing.
use mathlib.Core.Path.{◌≡◌, sym, ◌∙◌, ap, ap₂, subst}
use mathlib.Core.Bool.{Bool, true, false, cond}
use mathlib.Core.List.{List, [], ◌∷◌, ◌++◌}
use Prim.Native.Nat.{ℕ, zero, suc, ◌-◌, ◌*◌}
use lib.ListN.{length, take, drop}
use Rattle.ticket.specs.TicketLayout.{ticket_length}
use Rattle.report.specs.ReportLayout.{report_length, reports_bytes, laid}
use Rattle.report.specs.Answer.{answer_length, answers_bytes, answers_laid, FittingAnswer, AllFittingAnswers}
use Rattle.report.specs.declared.Report.{Report}
use Rattle.report.specs.declared.answer.Answer.{Answer}
use Rattle.rules.specs.Book.{book_of}
use Rattle.rules.specs.Tick.{Step}
use Rattle.rules.specs.Step.{step_of, book_after}
use Rattle.rules.specs.Taken.{answer_of, answers_of, reports_in}
use Rattle.rules.specs.Sound.{Sound}
use Rattle.rules.specs.declared.Book.{Book}
use Rattle.rules.proofs.StepSound.{file-sound}
use Rattle.rules.proofs.Reporting.{step-few}
use Rattle.course.specs.Running.{room_left, ran_to, ran, Ran}
use Rattle.course.proofs.PrintedBatches.{ran-printable}
use Rattle.book.specs.Handing.{handed_in}
use Rattle.book.specs.declared.opening.Opened.{Opened}
use Rattle.audit.specs.History.{History, from, ◌▹◌}
use Rattle.audit.specs.Claim.{Claim}
use Rattle.audit.proofs.AlongInputs.{Carried, carried-start, carried-claim}
use Rattle.calls.specs.Steps.{step_event}
use Rattle.calls.specs.Kept as kept
use Rattle.calls.specs.Kept.{answered_event, read_on, Kept}
use Rattle.calls.proofs.ReadingOff.{first-answer, first-reports, later-reports}
use Rattle.calls.proofs.Reaching.{carried-promised, carried-one}

-- the answers and reports of steps, and what stands behind them
abbrev answers_with : List Step → List ℕ → List ℕ
answers_with ss u = answers_bytes (answers_of ss) ++ u

abbrev reports_with : List Step → List ℕ → List ℕ
reports_with ss v = reports_bytes (reports_in ss) ++ v

-- the first of them is read off
read_one : (b : Book) → Sound b → (tickets : List ℕ) → FittingAnswer (answer_of (step_of b (take ticket_length tickets)))
    → (ss : List Step) (u v : List ℕ) (h : History)
    → let w = step_of b (take ticket_length tickets) in
    read_on (suc (length ss)) tickets (answers_with (w ∷ ss) u) (reports_with (w ∷ ss) v) h
    ≡ read_on (length ss) (drop ticket_length tickets) (answers_with ss u) (reports_with ss v) (step_event (take ticket_length tickets) w ▹ h)
read_one b s tickets fit ss u v h =
    ap (λ (a : Answer). read_on (length ss) (drop ticket_length tickets) (answers_with ss u) (drop (report_length * a.reports) text)
    (answered_event t a text ▹ h))
    (first-answer (answer_of w) fit (answers_with ss u))
    ∙ ap₂ (λ (rest : List ℕ) (rs : List Report). read_on (length ss) (drop ticket_length tickets) (answers_with ss u) rest
    (record { ticket = t; refusal = w.refusal; reports = rs } ▹ h))
    (later-reports w.reports (reports_in ss) v)
    (first-reports w.reports (reports_in ss) v (step-few b s t).fit)
  where
    t : List ℕ
    t = take ticket_length tickets

    w : Step
    w = step_of b t

    text : List ℕ
    text = reports_with (w ∷ ss) v

module _ (u v : List ℕ) where
  to-carried : (n : ℕ) {h : History} {b : Book} → Carried h b → (tickets : List ℕ) (answers reports : ℕ)
      → AllFittingAnswers (answers_of (ran_to n b tickets answers reports))
      → let ss = ran_to n b tickets answers reports in
      Carried (read_on (length ss) tickets (answers_with ss u) (reports_with ss v) h) (book_after b ss)
  to-carried zero r tickets answers reports fit = r
  to-carried (suc n) {h} {b} r tickets answers reports fit =
      go (room_left (length tickets) answers reports)
      (to-carried n (carried-one r t) (drop ticket_length tickets) (answers - answer_length) (reports - report_length * length w.reports))
      fit
    where
      t : List ℕ
      t = take ticket_length tickets

      w : Step
      w = step_of b t

      rest : List Step
      rest = ran_to n w.book (drop ticket_length tickets) (answers - answer_length) (reports - report_length * length w.reports)

      Reads : List Step → Type 0
      Reads ss = Carried (read_on (length ss) tickets (answers_with ss u) (reports_with ss v) h) (book_after b ss)

      go : (z : Bool)
          → (AllFittingAnswers (answers_of rest) → Carried (read_on (length rest) (drop ticket_length tickets) (answers_with rest u)
          (reports_with rest v) (step_event t w ▹ h)) (book_after w.book rest))
          → AllFittingAnswers (answers_of (cond z (w ∷ rest) [])) → Reads (cond z (w ∷ rest) [])
      go true on f =
          subst (λ (g : History). Carried g (book_after w.book rest))
          (sym (read_one b r.agrees.sound tickets f.0 rest u v h)) (on f.1)
      go false on f = r

-- the bytes that the core leaves
pub carried-bytes : {h : History} {b : Book} → Carried h b → (tickets answers reports : List ℕ)
    → let ss = ran b tickets (length answers) (length reports) in
    Carried (read_on (length ss) tickets (answers_laid (answers_of ss) answers) (laid (reports_in ss) reports) h) (book_after b ss)
unfolding ran
carried-bytes {h} {b} r tickets answers reports =
    to-carried (drop (answer_length * length (answers_of ss)) answers) (drop (report_length * length (reports_in ss)) reports) (length tickets)
    r tickets (length answers) (length reports)
    (ran-printable b r.agrees.sound tickets (length answers) (length reports)).answers-fit
  where
    ss : List Step
    ss = ran_to (length tickets) b tickets (length answers) (length reports)

carried-ran : {h : History} {b c : Book} {tickets answers₀ reports₀ answers reports : List ℕ} {k : ℕ} → Carried h b
    → Ran b tickets answers₀ reports₀ c k answers reports → Carried (read_on k tickets answers reports h) c
carried-ran {h} {b} {c} {tickets} {answers₀} {reports₀} {answers} {reports} {k} r w =
    subst (Carried (read_on k tickets answers reports h)) (sym w.book)
    (subst (λ (g : History). Carried g (book_after b (ran b tickets (length answers₀) (length reports₀))))
    (sym (λ i. read_on (w.taken i) tickets (w.answers i) (w.reports i) h)) (carried-bytes r tickets answers₀ reports₀))

kept-carried : {h : History} {b : Book} → Kept h b → Carried h b
kept-carried (kept.opened {file} {r} o) =
    let same : r.book ≡ book_of file = ap (λ (z : Opened). z.book) o.opened in
    subst (Carried (from (book_of file))) (sym same) (carried-start (book_of file) (file-sound file))
kept-carried (kept.given {b} s) = carried-start b s
kept-carried (kept.handed {x} {r} {after} k h) = carried-promised (kept-carried k) x (handed_in r after) h.outcome
kept-carried (kept.ran k r) = carried-ran (kept-carried k) r

pub kept-sound : {h : History} {b : Book} → Kept h b → Sound b
kept-sound (kept.opened o) = o.sound
kept-sound (kept.given s) = s
kept-sound (kept.handed k h) = h.sound
kept-sound (kept.ran k r) = r.sound

pub kept-demand3 : (h : History) (b : Book) → Kept h b → Claim h b
kept-demand3 h b k = carried-claim (kept-carried k)
