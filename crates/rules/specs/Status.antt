-- An order's status and recall mark.
--     is_waiting      Waiting
--     is_unmarked     Settled with mark none; no_mark: of the mark
--     is_asked        Settled, asked; was_asked: of the mark
--     settled_at      the settlement time that a status keeps, 0 where there is none
--     recall_limit    how long after it a recall is in time
--     is_late         a recall comes too late, by the clock
--     returned_of     the returned amount that a status keeps, 0 where there is none; returned_amount: of an order
--     with_status     the order with another status
-- Assumes nothing.
use Rattle.std.specs.Prelude.{ℕ, ◌-◌, Bool, true, false, leb}
use Rattle.rules.specs.declared.Recall.{Recall}
use Rattle.rules.specs.declared.Recall.TheVariants.{None, Asked, Declined}
use Rattle.rules.specs.declared.Status.{Status}
use Rattle.rules.specs.declared.Status.TheVariants.{Waiting, Refused, Expired, Returned, Settled}
use Rattle.rules.specs.declared.Order.{Order}

abbrev pub is_waiting : Status → Bool
is_waiting Waiting = true
is_waiting Refused = false
is_waiting Expired = false
is_waiting (Returned at n) = false
is_waiting (Settled mark at) = false

abbrev pub no_mark : Recall → Bool
no_mark None = true
no_mark Asked = false
no_mark Declined = false

abbrev pub is_unmarked : Status → Bool
is_unmarked Waiting = false
is_unmarked Refused = false
is_unmarked Expired = false
is_unmarked (Returned at n) = false
is_unmarked (Settled mark at) = no_mark mark

abbrev pub was_asked : Recall → Bool
was_asked None = false
was_asked Asked = true
was_asked Declined = false

abbrev pub is_asked : Status → Bool
is_asked Waiting = false
is_asked Refused = false
is_asked Expired = false
is_asked (Returned at n) = false
is_asked (Settled mark at) = was_asked mark

-- 02, slip 5: an order remembers the time of its settlement
abbrev pub settled_at : Status → ℕ
settled_at Waiting = 0
settled_at Refused = 0
settled_at Expired = 0
settled_at (Returned at n) = at
settled_at (Settled mark at) = at

-- 02, slip 5: a recall 864,000 seconds or more after it is turned back
abbrev pub recall_limit : ℕ
recall_limit = 864_000

-- clock minus settlement: a sum could leave the 32 bits of a time
abbrev pub is_late : ℕ → Status → Bool
is_late clock s = leb recall_limit (clock - settled_at s)

-- 02, slip 2: the order keeps it beside its own amount
abbrev returned_of : Status → ℕ
returned_of Waiting = 0
returned_of Refused = 0
returned_of Expired = 0
returned_of (Returned at n) = n
returned_of (Settled mark at) = 0

abbrev pub returned_amount : Order → ℕ
returned_amount o = returned_of o.status

abbrev pub with_status : Order → Status → Order
with_status o s = record { txid = o.txid; payer = o.payer; payee = o.payee; amount = o.amount; time = o.time; status = s }
