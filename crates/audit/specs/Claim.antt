-- The claim of demand 3 about a whole history, newest first, and the book at its end. Of that book it takes available, reserved and
-- held, how many orders it holds, and which are Waiting; all else is computed from the history: the book that it starts from, and the
-- events since.
--
-- No difference is cut off at zero: the cover equation has sums on both sides and no subtraction, so that each of the three is what
-- remains after all that went out, and none can be below it.
-- Assumes nothing.
use Rattle.std.specs.Prelude.{ℕ, ◌+◌, ◌≤◌, ◌<◌, ◌≡◌, true, cond, List, [], ◌∷◌}
use Rattle.report.specs.Ending.{endings_in}
use Rattle.report.specs.declared.Report.{Report}
use Rattle.dayfile.specs.declared.roster.Roster.{Roster}
use Rattle.rules.specs.Book.{order_of, cover_of}
use Rattle.rules.specs.Status.{is_waiting}
use Rattle.rules.specs.Cover.{whole}
use Rattle.rules.specs.declared.Book.{Book}
use Rattle.audit.specs.History.{History, participants, Each}
use Rattle.audit.specs.Sums.{outgoing, incoming}
use Rattle.audit.specs.Orders.{
  order_count,
  order_amount,
  waits,
  waiting_total,
  lets_expire,
  must_expire,
  ending_tickets,
  all_endings,
  tells_parties,
}

-- each report carries the code and the amount
abbrev pub AllCarry : ℕ → ℕ → List Report → Type 0
AllCarry code amount [] = Unit {0}
AllCarry code amount (r ∷ rs) = (r.code ≡ code) × (r.amount ≡ amount) × AllCarry code amount rs

-- the code of the first of them
abbrev pub code_of : List Report → ℕ
code_of [] = 0
code_of (r ∷ rs) = r.code

-- with these participants
pub record ClaimOf (ps : Roster) (h : History) (b : Book) : Type 0 where
  -- the reports that the sums and the orders go by are there: 1 of an order, 2 of a yes, 6 of a return, each to a participant
  pub told : Each (λ e before. tells_parties ps e ≡ true) h
  -- each participant's cover adds up line by line from what was seen: available, reserved and held
  pub cover : (p : ℕ) → p < ps.size → whole (cover_of b.covers p) + outgoing ps p h ≡ incoming ps p h
  -- reserved is the sum of its waiting orders' amounts
  pub reserved : (p : ℕ) → p < ps.size → (cover_of b.covers p).reserved ≡ waiting_total ps p h
  -- the book holds the orders that were accepted
  pub held : b.count ≡ order_count h
  -- an order waits, and is Waiting in the book, until the first ticket with an ending of it, and not after
  pub waiting : (i : ℕ) → i < order_count h → is_waiting (order_of b.orders i).status ≡ waits i h
  -- a ticket lets an order expire exactly when it must
  pub expiry : Each (λ e before. (i : ℕ) → lets_expire i e before ≡ must_expire ps i e before) h
  -- every ending is one of an order that was accepted before
  pub known : Each (λ e before. (i : ℕ) → order_count before ≤ i → endings_in i e.reports ≡ []) h
  -- all endings of an order but repeats come from one ticket, and there is one once it waits no longer: it doesn't stop waiting twice
  pub once : (i : ℕ) → i < order_count h → ending_tickets i h ≡ cond (waits i h) 0 1
  -- all its endings, repeats too, carry the same code and its own amount: all are told the same
  pub alike : (i : ℕ) → i < order_count h → AllCarry (code_of (all_endings i h)) (order_amount i h) (all_endings i h)

-- the participants are the start's
abbrev pub Claim : History → Book → Type 0
Claim h b = ClaimOf (participants h) h b
