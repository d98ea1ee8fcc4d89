-- A turn's parts: the expiries, and what stands in a text of reports behind those that were there.
--     swept_at    the expiries at a time, which come before a ticket's own step
--     Written     reports written behind the n that stand in a text
--     TakenUp     a ticket that 7 to 11 do not refuse, and how it is entered
--     Expired     the book once orders have expired for it
--     CarriedOut  a decision carried out: the book, the reports and the rows followed are those of the rules
--     Turned      a ticket's turn: the book, the reports and the answer are those of its step
-- Assumes nothing.
use Rattle.std.specs.Prelude.{◌≡◌, ℕ, ◌+◌, ◌*◌, List, length}
use Rattle.std.proofs.lemmas.List.Edits.{sets}
use Rattle.report.specs.ReportLayout.{report_length, reports_bytes}
use Rattle.report.specs.declared.Report.{Report}
use Rattle.report.specs.declared.answer.Answer.{Answer}
use Rattle.rules.specs.Tick.{Step, sweep_to, at_time}
use Rattle.rules.specs.Step.{step_of}
use Rattle.rules.specs.Taken.{answer_of}
use Rattle.rules.specs.Decision.{applied, told_by}
use Rattle.rules.specs.Sound.{Sound}
use Rattle.rules.specs.declared.decision.Decision.{Decision}
use Rattle.rules.specs.declared.Book.{Book}
use Rattle.course.specs.Entry.{entry_of}
use Rattle.course.specs.declared.Entry.{Entry}

abbrev pub swept_at : Book → ℕ → Step
swept_at b time = sweep_to (at_time b time) b.count

-- n' reports stand in the text afterwards
pub record Written (rs : List Report) (n : ℕ) (text : List ℕ) (n' : ℕ) (text' : List ℕ) : Type 0 where
  pub told : n' ≡ n + length rs
  pub reports : text' ≡ sets text (report_length * n) (reports_bytes rs)

-- ticket t, entered as e in book b
pub record TakenUp (b : Book) (t : List ℕ) (e : Entry) : Type 0 where
  pub sound : Sound b
  pub is : e ≡ entry_of b.clock t
  pub passes : e.refusal ≡ 0

-- the expiries are done: c is the book then
pub record Expired (b : Book) (t : List ℕ) (e : Entry) (c : Book) : Type 0 where
  pub taken : TakenUp b t e
  pub book : c ≡ (swept_at b e.time).book

-- decision d is carried out on book c, n reports standing in the text before it; k are the route rows followed
pub record CarriedOut (c : Book) (d : Decision) (n : ℕ) (text : List ℕ) (b : Book) (n' : ℕ) (text' : List ℕ)
    (k : ℕ) : Type 0 where
  pub book : b ≡ applied c d
  pub told : Written (told_by c d) n text n' text'
  pub rows : k ≡ d.rows

-- of ticket t in book b, n reports standing in the text before it
pub record Turned (b : Book) (t : List ℕ) (n : ℕ) (text : List ℕ) (b' : Book) (a : Answer) (text' : List ℕ) : Type 0 where
  pub book : b' ≡ (step_of b t).book
  pub answer : a ≡ answer_of (step_of b t)
  pub reports : text' ≡ sets text (report_length * n) (reports_bytes (step_of b t).reports)
  pub roster : b'.roster ≡ b.roster
