-- Rows of histories. A day is what the rules give for a book and tickets; a written history is put down by hand, right or wrong.
--     Day               a book, tickets, and what the sums, the orders and the book at the end come to
--     IsRight           they come to that, and the claim holds
--     WrittenHistory    a book, events, the book at the end, and the claim's clauses that fail of them, by name
--     AllFalse          of each, just these clauses fail, and the claim is false
--     AllTrue           of each, no clause fails, and the claim holds
-- Assumes nothing.
use Prim.Native.Nat.{ℕ, zero, suc, ◌-◌}
use Prim.Native.String.{String}
use mathlib.Core.Path.{◌≡◌}
use mathlib.Core.Bool.{Bool, true, ◌&&◌, not, cond}
use mathlib.Core.List.{List, [], ◌∷◌, ◌++◌, map}
use borrow.Author.Tests.{not-true}
use lib.ListN.{length, replicate}
use Rattle.classes.specs.CheckAnswer.{answer}
use Rattle.fields.specs.Text.{text, same, padded}
use Rattle.fields.proofs.Tests.{and_left, and_right}
use Rattle.fields.proofs.Same.{same_true}
use Rattle.report.specs.declared.Report.{Report}
use Rattle.dayfile.specs.FileLimits.{most_participants}
use Rattle.dayfile.specs.declared.roster.Roster.{Roster}
use Rattle.rules.specs.Book.{most_orders, no_cover, cover_of, unused_order}
use Rattle.rules.specs.Status.{with_status}
use Rattle.rules.specs.Refusal.{least_buffer}
use Rattle.rules.specs.Inputs.{Input, book_from}
use Rattle.rules.specs.declared.Status.{Status}
use Rattle.rules.specs.declared.Order.{Order}
use Rattle.rules.specs.declared.Cover.{Cover}
use Rattle.rules.specs.declared.Book.{Book}
use Rattle.audit.specs.History.{Event, History, from, ◌▹◌, sum_over}
use Rattle.audit.specs.Sums.{cover_in, cover_out, debit, credit, settled_to, settled_from, return_by, return_to}
use Rattle.audit.specs.Orders.{order_count, order_amount, order_time, is_for_bank, waits, all_endings}
use Rattle.audit.specs.Claim.{Claim}
use Rattle.audit.specs.Run.{history_of}
use Rattle.audit.proofs.Testing.{clauses, all_pass, claim-holds, claim-fails}

-- tickets, each with a buffer of the least length, all zero
abbrev pub inputs : List (List ℕ) → List Input
inputs [] = []
inputs (t ∷ ts) = record { ticket = t; buffer = replicate least_buffer 0 } ∷ inputs ts

-- a participant's eight sums: cover in and out, debits and credits, settled to and from, returns by and to
abbrev sums : Roster → History → ℕ → List ℕ
sums ps h p =
    since (λ e before. cover_in ps p e)
    ∷ since (λ e before. cover_out ps p e)
    ∷ since (debit ps p)
    ∷ since (credit ps p)
    ∷ since (λ e before. settled_to ps p e)
    ∷ since (λ e before. settled_from p e)
    ∷ since (λ e before. return_by ps p e)
    ∷ since (λ e before. return_to p e)
    ∷ []
  where
    since : (Event → History → ℕ) → ℕ
    since f = sum_over (λ b. 0) f h

-- a participant's cover in the book: available, reserved, held
abbrev cover_left : Book → ℕ → List ℕ
cover_left b p = let c = cover_of b.covers p in c.available ∷ c.reserved ∷ c.held ∷ []

-- an order as seen: amount, time, whether for a bank, whether it waits, and the codes of its endings, newest ticket first
abbrev order_seen : Roster → History → ℕ → List ℕ
order_seen ps h i =
    order_amount i h
    ∷ order_time i h
    ∷ answer (is_for_bank ps i h)
    ∷ answer (waits i h)
    ∷ map (λ (r : Report). r.code) (all_endings i h)

-- a row for each number below n
abbrev each_to : (ℕ → List ℕ) → ℕ → List (List ℕ)
each_to row zero = []
each_to row (suc n) = each_to row n ++ (row n ∷ [])

pub record Day : Type 0 where
  pub shows : String
  pub start : Book
  pub tickets : List (List ℕ)
  -- each participant's eight sums
  pub sums : List (List ℕ)
  -- each order
  pub orders : List (List ℕ)
  -- each participant's cover at the end
  pub covers : List (List ℕ)

abbrev pub seen_on : Day → History
seen_on d = history_of d.start (inputs d.tickets)

abbrev pub book_on : Day → Book
book_on d = book_from d.start (inputs d.tickets)

abbrev pub IsRight : Day → Type 0
IsRight d =
    (each_to (sums d.start.roster (seen_on d)) d.start.roster.size ≡ d.sums)
    × (each_to (order_seen d.start.roster (seen_on d)) (order_count (seen_on d)) ≡ d.orders)
    × (each_to (cover_left (book_on d)) d.start.roster.size ≡ d.covers)
    × Claim (seen_on d) (book_on d)

-- oldest first
pub record WrittenHistory : Type 0 where
  pub shows : String
  pub start : Book
  pub events : List Event
  pub book : Book
  pub fails : String

abbrev newest_first : List Event → History → History
newest_first [] before = before
newest_first (e ∷ rest) before = newest_first rest (e ▹ before)

abbrev pub written : WrittenHistory → History
written w = newest_first w.events (from w.start)

-- the names of the clauses that fail
abbrev failing : List Bool → List String → List (List ℕ)
failing [] names = []
failing (c ∷ cs) [] = []
failing (c ∷ cs) (name ∷ names) = cond c [] (text name ∷ []) ++ failing cs names

abbrev with_commas : List (List ℕ) → List ℕ
with_commas [] = []
with_commas (s ∷ []) = s
with_commas (s ∷ (t ∷ rest)) = s ++ text ", " ++ with_commas (t ∷ rest)

-- the clauses' names, in the claim's order
abbrev clause_names : List String
clause_names = "told" ∷ "cover" ∷ "reserved" ∷ "held" ∷ "waiting" ∷ "expiry" ∷ "known" ∷ "once" ∷ "alike" ∷ []

abbrev clauses_of : WrittenHistory → List Bool
clauses_of w = clauses (written w) w.book

abbrev fails_of : WrittenHistory → List ℕ
fails_of w = with_commas (failing (clauses_of w) clause_names)

abbrev pub AllFalse : List WrittenHistory → Type 0
AllFalse [] = Unit {0}
AllFalse (w ∷ ws) = (fails_of w ≡ text w.fails) × (Claim (written w) w.book → ⊥) × AllFalse ws

abbrev pub AllTrue : List WrittenHistory → Type 0
AllTrue [] = Unit {0}
AllTrue (w ∷ ws) = (fails_of w ≡ text w.fails) × Claim (written w) w.book × AllTrue ws

-- the tests that the checker computes
abbrev pub all_wrong : List WrittenHistory → Bool
all_wrong [] = true
all_wrong (w ∷ ws) = same (fails_of w) (text w.fails) && (not (all_pass (clauses_of w)) && all_wrong ws)

abbrev pub all_passed : List WrittenHistory → Bool
all_passed [] = true
all_passed (w ∷ ws) = same (fails_of w) (text w.fails) && (all_pass (clauses_of w) && all_passed ws)

pub all-false : (ws : List WrittenHistory) → all_wrong ws ≡ true → AllFalse ws
all-false [] e = tt
all-false (w ∷ ws) e =
    let named = same (fails_of w) (text w.fails) in
    let fails = not (all_pass (clauses_of w)) in
    let rest = and_right named (fails && all_wrong ws) e in (
      same_true (fails_of w) (text w.fails) (and_left named (fails && all_wrong ws) e),
      claim-fails (written w) w.book (not-true (all_pass (clauses_of w)) (and_left fails (all_wrong ws) rest)),
      all-false ws (and_right fails (all_wrong ws) rest),
    )

pub all_true : (ws : List WrittenHistory) → all_passed ws ≡ true → AllTrue ws
all_true [] e = tt
all_true (w ∷ ws) e =
    let named = same (fails_of w) (text w.fails) in
    let passes = all_pass (clauses_of w) in
    let rest = and_right named (passes && all_passed ws) e in (
      same_true (fails_of w) (text w.fails) (and_left named (passes && all_passed ws) e),
      claim-holds (written w) w.book (and_left passes (all_passed ws) rest),
      all_true ws (and_right passes (all_passed ws) rest),
    )

-- a ticket with its refusal and its reports
abbrev pub event : List ℕ → ℕ → List Report → Event
event t refusal rs = record { ticket = t; refusal = refusal; reports = rs }

-- a report: to whom, code, order, amount
abbrev pub report : ℕ → ℕ → ℕ → ℕ → Report
report to code order amount = record { to = to; code = code; order = order; amount = amount }

-- cover: available, reserved, held
abbrev pub cover : ℕ → ℕ → ℕ → Cover
cover available reserved held = record { available = available; reserved = reserved; held = held; debit = 0 }

-- an order: TxId, payer, payee, amount, time, status
abbrev pub order : List ℕ → ℕ → ℕ → ℕ → ℕ → Status → Order
order txid payer payee amount time status =
    record { txid = padded 35 txid; payer = payer; payee = payee; amount = amount; time = time; status = status }

-- a book to start from: clock, participants, covers and orders
abbrev pub book_at : ℕ → Roster → List Cover → List Order → Book
book_at clock ps cs os =
    record {
      clock = clock;
      covers = cs ++ replicate (most_participants - length cs) no_cover;
      orders = os ++ replicate (most_orders - length os) unused_order;
      count = length os;
      roster = ps;
    }

-- a book with these covers, and orders of these statuses
abbrev pub book_with : Roster → List Cover → List Status → Book
book_with ps cs ss =
    record { clock = 0; covers = cs; orders = map (λ (s : Status). with_status unused_order s) ss; count = length ss; roster = ps }
