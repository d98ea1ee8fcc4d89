-- What the core leaves of a batch can be written as lines, and the lines are the program's. Assumes nothing.
use Rattle.std.specs.Prelude.{◌≡◌, ℕ, ◌+◌, ◌^◌, ◌<◌, ◌≤◌, List, length}
use mathlib.Core.Path.{◌∙◌, ap, ap₂}
use native.Mathlib.Omega.{arith}
use lib.ListN.{length-map}
use Rattle.report.specs.Answer.{answers_laid}
use Rattle.report.specs.ReportLayout.{laid}
use Rattle.report.proofs.ReportLaws.{length-laid}
use Rattle.report.proofs.AnswerLaws.{length-answers-laid}
use Rattle.rules.specs.Tick.{Step}
use Rattle.rules.specs.Step.{book_after}
use Rattle.rules.specs.Taken.{answer_of, answers_of, reports_in}
use Rattle.rules.specs.Program.{lines_from}
use Rattle.rules.specs.Sound.{Sound}
use Rattle.rules.specs.declared.Book.{Book}
use Rattle.course.specs.Running.{ran, Ran}
use Rattle.course.proofs.PrintedBatches.{Printable, ran-printable}
use Rattle.lines.specs.Lines.{start_of, lines_to, Lined}
use Rattle.lines.specs.Written.{Written}
use Rattle.lines.proofs.ProgramText.{lines_are, starts-are}
use Rattle.output.specs.Batch.{answers_room, reports_room, most_text, batch, Batched}

module _ {b c : Book} {tickets answers₀ reports₀ answers reports : List ℕ} {n : ℕ} (s : Sound b)
    (is-a : length answers₀ ≡ answers_room) (is-r : length reports₀ ≡ reports_room)
    (r : Ran b tickets answers₀ reports₀ c n answers reports) where
  abbrev ss : List Step
  ss = batch b tickets

  is-batch : ran b tickets (length answers₀) (length reports₀) ≡ ss
  unfolding batch
  is-batch = ap₂ (ran b tickets) is-a is-r

  printable : Printable ss answers_room reports_room
  unfolding batch
  printable = ran-printable b s tickets answers_room reports_room

  is-taken : n ≡ length ss
  is-taken = r.taken ∙ ap length is-batch

  is-answers : answers ≡ answers_laid (answers_of ss) answers₀
  is-answers = r.answers ∙ ap (λ (ts : List Step). answers_laid (answers_of ts) answers₀) is-batch

  is-reports : reports ≡ laid (reports_in ss) reports₀
  is-reports = r.reports ∙ ap (λ (ts : List Step). laid (reports_in ts) reports₀) is-batch

  starts : start_of answers n ≡ length (reports_in ss)
  starts =
      ap (start_of answers) is-taken
      ∙ starts-are ss answers₀ reports₀ answers reports is-answers printable.answers-fit is-reports printable.reports-fit

  answers-kept : length answers ≡ answers_room
  answers-kept =
      let p = printable.answered in
      ap length is-answers ∙ length-answers-laid (answers_of ss) answers₀ (rw (length-map ss answer_of) (omega arith)) ∙ is-a

  reports-kept : length reports ≡ reports_room
  reports-kept = let p = printable.reported in ap length is-reports ∙ length-laid (reports_in ss) reports₀ (omega arith) ∙ is-r

  pub batch-lined : (k : ℕ) (text : List ℕ) → k + 512 < 256 ^ 8 → most_text ≤ length text → Lined k n answers reports text
  batch-lined k text numbers room =
      let t = is-taken in
      let e = starts in
      let p = printable.answered in
      let q = printable.reported in
      let a = answers-kept in
      let f = reports-kept in
      record { answered = omega arith; reported = omega arith; numbered = omega arith; room = omega arith }

  pub batch-written : (k : ℕ) {text₀ text : List ℕ} {end : ℕ} → Written text₀ text 0 (lines_to k n answers reports) end → end ≤ length text₀
      → Batched b tickets k text₀ c n text end
  batch-written k {text₀} {text} {end} w within =
      let e : lines_to k n answers reports ≡ lines_from k ss =
      ap (λ (m : ℕ). lines_to k m answers reports) is-taken
      ∙ lines_are ss answers₀ reports₀ answers reports is-answers printable.answers-fit is-reports printable.reports-fit k in
      record {
        book = r.book ∙ ap (book_after b) is-batch;
        sound = r.sound;
        taken = is-taken;
        lines = rw e at w;
        within = within;
      }
