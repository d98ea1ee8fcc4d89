-- What the answer of `zolfigar_steps` tells a caller, of a file of any bytes and buffers of any length.
--     taken-told       how many tickets were taken
--     none_told        0: the file is accepted and has no tickets
--     none-answered    of such a file it is 0, whatever is lent
--     refusal-told     between 1,024 and 2,048: the file is refused, and by which number
--     room-told        2,048: the file is accepted and has tickets, and there is no room for the first
-- Assumes nothing.
use Rattle.std.specs.Prelude.{◌≡◌, ℕ, zero, suc, ◌+◌, ◌<◌, ◌≤◌, Bool, true, false, cond, not, ◌&&◌, eqb, leb, List, [], length, drop, None, Option, Some}
use mathlib.Core.Path.{refl}
use native.Mathlib.Nat.{add-zero}
use native.Mathlib.Omega.{arith}
use borrow.Author.Tests.{le-ltb, lt-ltb, eqb-true, eqb-false, eq-eqb, ne_eqb, not-true, not-false}
use lib.ListN.{length-drop}
use Rattle.fields.proofs.Tests.{and_left, and_right}
use Rattle.ticket.specs.TicketLayout.{ticket_length}
use Rattle.dayfile.specs.DayFile.{day_file, file_routed, file_enrolled, file_placed, file_ranged, file_headed}
use Rattle.dayfile.specs.Header.{headed}
use Rattle.dayfile.specs.Check.{ranged, placed, enrolled, routed}
use Rattle.dayfile.specs.declared.header.Header.{Header}
use Rattle.dayfile.specs.declared.check.Ranged.{Ranged}
use Rattle.dayfile.specs.declared.check.Ranged.TheVariants.{Within, Outside}
use Rattle.dayfile.specs.declared.check.Placed.{Placed}
use Rattle.dayfile.specs.declared.check.Placed.TheVariants as placed-is
use Rattle.dayfile.specs.declared.check.Enrolled.{Enrolled}
use Rattle.dayfile.specs.declared.check.Enrolled.TheVariants as participants-are
use Rattle.dayfile.specs.declared.check.Routed.{Routed}
use Rattle.dayfile.specs.declared.check.Routed.TheVariants as routes-are
use Rattle.dayfile.proofs.Accepted.{file-guaranteed}
use Rattle.rules.specs.Book.{book_of}
use Rattle.rules.specs.Tick.{Step}
use Rattle.rules.specs.declared.Book.{Book}
use Rattle.course.specs.Running.{room_left, ran_to, ran}
use Rattle.course.proofs.Running.{room-left}
use Rattle.course.proofs.PrintedBatches.{takes_one, ran-splits}
use Rattle.foreign_steps.specs.Stepped.{steps_taken, file_refused, no_room, lacks_room, steps_answer, taken_by}

-- 01: a day file's refusals are 1 to 5
module _ (f : List ℕ) where
  routed-most : (h : Header) (r : Routed) → (file_routed h f r).refusal ≤ 5
  routed-most h routes-are.Right = omega arith
  routed-most h routes-are.Wrong = omega arith

  enrolled-most : (h : Header) (r : Enrolled) → (file_enrolled h f r).refusal ≤ 5
  enrolled-most h participants-are.Right = routed-most h (routed h.counts.participants h.offsets.routes h.counts.routes f)
  enrolled-most h participants-are.Wrong = omega arith

  placed-most : (h : Header) (r : Placed) → (file_placed h f r).refusal ≤ 5
  placed-most h placed-is.Right = enrolled-most h (enrolled h.offsets.participants h.counts.participants f)
  placed-most h placed-is.Wrong = omega arith

  ranged-most : (h : Header) (r : Ranged) → (file_ranged h f r).refusal ≤ 5
  ranged-most h Within = placed-most h (placed h (length f))
  ranged-most h Outside = omega arith

  headed-most : (h : Option Header) → (file_headed f h).refusal ≤ 5
  headed-most (Some h) = ranged-most h (ranged h)
  headed-most None = omega arith

  file-refusal-most : (day_file f).refusal ≤ 5
  unfolding day_file
  file-refusal-most = headed-most (headed f)

-- where there is no room for one ticket, none of any tickets is taken
less-room : (whole answer reports : Bool) → (answer && reports) ≡ false → (whole && answer && reports) ≡ false
less-room true answer reports e = e
less-room false answer reports e = refl

roomless-run : (b : Book) (tickets : List ℕ) (answers reports : ℕ) → room_left ticket_length answers reports ≡ false
    → ran b tickets answers reports ≡ []
unfolding ran
roomless-run b tickets answers reports e = go (length tickets)
  where
    go : (n : ℕ) → ran_to n b tickets answers reports ≡ []
    go zero = refl
    go (suc n) = rw (less-room (leb 108 (length tickets)) (leb 4 answers) (leb 6528 reports) e)

ticketless-run : (b : Book) (answers reports : ℕ) → ran b [] answers reports ≡ []
unfolding ran
ticketless-run b answers reports = refl

module _ (file : List ℕ) (answers reports : ℕ) where
  abbrev refusal : ℕ
  refusal = (day_file file).refusal

  abbrev tickets : ℕ
  tickets = (day_file file).tickets

  abbrev room : Bool
  room = room_left ticket_length answers reports

  abbrev lacks : Bool
  lacks = lacks_room tickets answers reports

  abbrev taken : List Step
  taken = steps_taken file answers reports

  abbrev answer : ℕ
  answer = steps_answer file answers reports

  -- nothing is taken of a refused file, nor where the first ticket has no room
  pub refused_none : (refusal ≡ 0 → ⊥) → taken ≡ []
  refused_none h = rw (ne_eqb refusal 0 h) (ticketless-run (book_of file) answers reports)

  pub roomless-none : lacks ≡ true → taken ≡ []
  roomless-none e = roomless-run (book_of file) _ answers reports (not-true room (and_right (not (eqb tickets 0)) (not room) e))

  -- no more are taken than the file has
  taken-most : refusal ≡ 0 → length taken ≤ tickets
  taken-most h =
      let end = (file-guaranteed file h).end in
      let within = (ran-splits file (book_of file) 0 tickets answers reports (omega arith)).within in
      rw (eq-eqb refusal 0 h) (rw (add-zero (day_file file).first) at within)

  -- the three answers
  answer-goes : (P : ℕ → Type 0) → ((refusal ≡ 0 → ⊥) → P (file_refused + refusal))
      → (refusal ≡ 0 → lacks ≡ true → P no_room) → (refusal ≡ 0 → lacks ≡ false → P (length taken)) → P answer
  answer-goes P refused roomless some = go (eqb refusal 0) refl lacks refl
    where
      go : (z : Bool) → eqb refusal 0 ≡ z → (w : Bool) → lacks ≡ w → P (cond z (cond w no_room (length taken)) (file_refused + refusal))
      go true e true l = roomless (eqb-true refusal 0 e) l
      go true e false l = some (eqb-true refusal 0 e) l
      go false e w l = refused (eqb-false refusal 0 e)

  pub taken-told : taken_by answer ≡ length taken
  taken-told =
      answer-goes (λ (n : ℕ). taken_by n ≡ length taken)
      (λ h. rw (le-ltb (file_refused + refusal) file_refused (omega arith), refused_none h))
      (λ h l. rw (roomless-none l))
      (λ h l.
      let most = taken-most h in
      let few = (file-guaranteed file h).tickets in
      rw (lt-ltb (length taken) file_refused (omega arith)))

  -- room for the first ticket of a file that has tickets: at least one is taken
  takes_first : refusal ≡ 0 → lacks ≡ false → length taken ≡ 0 → tickets ≡ 0
  takes_first h l none = go (eqb tickets 0) refl l
    where
      go : (z : Bool) → eqb tickets 0 ≡ z → (not z && not room) ≡ false → tickets ≡ 0
      go true e w = eqb-true tickets 0 e
      go false e w =
          let has = room-left 108 answers reports (not-false room w) in
          let some = eqb-false tickets 0 e in
          let end = (file-guaranteed file h).end in
          let left = length-drop (day_file file).first file in
          let one = takes_one (book_of file) (drop (day_file file).first file) answers reports (omega arith) has.answer has.report in
          let none' = rw (eq-eqb refusal 0 h) at none in
          absurd (omega arith)

  pub none_told : answer ≡ 0 → (refusal ≡ 0) × (tickets ≡ 0)
  none_told =
      answer-goes (λ (n : ℕ). n ≡ 0 → (refusal ≡ 0) × (tickets ≡ 0))
      (λ h e. absurd (omega arith))
      (λ h l e. absurd (omega arith))
      (λ h l e. (h, takes_first h l e))

  pub none-answered : refusal ≡ 0 → tickets ≡ 0 → answer ≡ 0
  none-answered accepted none =
      answer-goes (λ (n : ℕ). n ≡ 0)
      (λ h. absurd (h accepted))
      (λ h l. absurd (eqb-false tickets 0 (not-true (eqb tickets 0) (and_left (not (eqb tickets 0)) (not room) l)) none))
      (λ h l. let most = taken-most h in omega arith)

  pub refusal-told : file_refused ≤ answer → answer < no_room → (refusal ≡ 0 → ⊥) × (answer ≡ file_refused + refusal)
  refusal-told =
      answer-goes (λ (n : ℕ). file_refused ≤ n → n < no_room → (refusal ≡ 0 → ⊥) × (n ≡ file_refused + refusal))
      (λ h least most. (h, refl))
      (λ h l least most. absurd (omega arith))
      (λ h l least most. absurd (let n = taken-most h in let few = (file-guaranteed file h).tickets in omega arith))

  pub room-told : answer ≡ no_room → (refusal ≡ 0) × (lacks ≡ true)
  room-told =
      answer-goes (λ (n : ℕ). n ≡ no_room → (refusal ≡ 0) × (lacks ≡ true))
      (λ h e. absurd (let most = file-refusal-most file in omega arith))
      (λ h l e. (h, l))
      (λ h l e. absurd (let n = taken-most h in let few = (file-guaranteed file h).tickets in omega arith))
