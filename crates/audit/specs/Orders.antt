-- Orders, their waits and their endings, as seen: 01 'Demand 3, word by word'. An order in the start counts as one that was accepted
-- before: 02, slip 8.
--     order_count       how many orders were accepted
--     opens            this event is order i
--     of_order          something read off the event of order i, or off its row in the start
--     end_code          how the wait of an order in the start ended, as the code of an ending
--     start_endings     that ending, if it waits no longer
--     all_endings       the endings of order i: reports 2, 3 or 4 with that number
--     waits            order i waits after the history
--     waiting_total     the amounts of the waiting orders that participant p pays
--     lets_expire       the ticket lets order i expire
--     must_expire       when it does
--     ending_tickets    how many tickets have endings of order i that are no repeats
--     tells_parties     an order, a yes and a return tell a participant
-- Assumes nothing.
use Rattle.std.specs.Prelude.{ℕ, ◌+◌, ◌-◌, Bool, true, false, ◌&&◌, ◌||◌, not, cond, List, [], ◌∷◌, ◌++◌, leb, ltb, eqb, length}
use Rattle.fields.specs.Text.{same, unpadded}
use Rattle.fields.specs.UpTo.{sum_to}
use Rattle.ticket.specs.TicketLayout.{time_of, amount_of, sender_of, payer_of, txid_of}
use Rattle.report.specs.Ending.{endings_in}
use Rattle.report.specs.declared.Report.{Report}
use Rattle.dayfile.specs.Roster.{participant_of}
use Rattle.dayfile.specs.declared.roster.Roster.{Roster}
use Rattle.rules.specs.Book.{order_of}
use Rattle.rules.specs.Status.{is_waiting}
use Rattle.rules.specs.Tick.{time_limit}
use Rattle.rules.specs.declared.Status.{Status}
use Rattle.rules.specs.declared.Status.TheVariants.{Waiting, Refused, Expired, Returned, Settled}
use Rattle.rules.specs.declared.Order.{Order}
use Rattle.rules.specs.declared.Book.{Book}
use Rattle.audit.specs.History.{Event, History, from, ◌▹◌, participants, sum_over, is_kind, is_yes, is_sent_by, is_bank_of}
use Rattle.audit.specs.Sums.{first_with}

-- an order is an accepted ticket of kind 3
abbrev pub is_order : Event → Bool
is_order e = is_kind 3 e

abbrev pub order_count : History → ℕ
order_count (from b) = b.count
order_count (e ▹ before) = cond (is_order e) (order_count before + 1) (order_count before)

-- its number is how many were accepted before it
abbrev pub opens : ℕ → Event → History → Bool
opens i e before = is_order e && eqb (order_count before) i

-- what one function reads off its row in the start, or another off its event; none where there is no such order
abbrev pub of_order : {A : Type 0} → A → (Order → A) → (Event → A) → ℕ → History → A
of_order none row f i (from b) = cond (ltb i b.count) (row (order_of b.orders i)) none
of_order none row f i (e ▹ before) = cond (opens i e before) (f e) (of_order none row f i before)

-- its amount, time and TxId are its ticket's, and its payer's BIC is that of the sender; 02, slip 8: an order row counts as that order's
-- ticket
abbrev pub order_amount : ℕ → History → ℕ
order_amount = of_order 0 (λ o. o.amount) (λ e. amount_of e.ticket)

abbrev pub order_time : ℕ → History → ℕ
order_time = of_order 0 (λ o. o.time) (λ e. time_of e.ticket)

abbrev pub order_txid : ℕ → History → List ℕ
order_txid = of_order [] (λ o. unpadded o.txid) (λ e. txid_of e.ticket)

abbrev pub order_payer : ℕ → History → List ℕ
order_payer i h = of_order [] (λ o. (participant_of (participants h) o.payer).bic) (λ e. sender_of e.ticket) i h

-- with that ticket's sender as payer
abbrev pub is_paid_by : Roster → ℕ → ℕ → History → Bool
is_paid_by ps p = of_order false (λ o. eqb o.payer p) (is_sent_by ps p)

-- it is for a bank if its report 1 goes to one; 02, slip 8: with a report 1 to the row's payee
abbrev pub to_bank : Roster → List Report → Bool
to_bank ps [] = false
to_bank ps (r ∷ rs) = is_bank_of ps r.to

abbrev pub is_for_bank : Roster → ℕ → History → Bool
is_for_bank ps = of_order false (λ o. is_bank_of ps o.payee) (λ e. to_bank ps (first_with 1 e.reports))

-- 02, slip 8: unless Waiting, the order's wait counts as ended before the list, by 3 if Refused, 4 if Expired, else 2
abbrev pub end_code : Status → ℕ
end_code Waiting = 0
end_code Refused = 3
end_code Expired = 4
end_code (Returned at n) = 2
end_code (Settled mark at) = 2

-- that ending, with the order's own amount
abbrev pub ended_before : ℕ → Order → List Report
ended_before i o =
    cond (is_waiting o.status) [] (record { to = o.payer; code = end_code o.status; order = i; amount = o.amount } ∷ [])

abbrev pub start_endings : ℕ → Book → List Report
start_endings i b = cond (ltb i b.count) (ended_before i (order_of b.orders i)) []

-- all endings of the order, repeats too
abbrev pub all_endings : ℕ → History → List Report
all_endings i (from b) = start_endings i b
all_endings i (e ▹ before) = endings_in i e.reports ++ all_endings i before

abbrev pub is_none : List Report → Bool
is_none [] = true
is_none (r ∷ rs) = false

-- the order waits after its own ticket until the first ticket with an ending of it
abbrev pub waits : ℕ → History → Bool
waits i h = ltb i (order_count h) && is_none (all_endings i h)

-- a participant's waiting orders are those it pays
abbrev pub waiting_part : Roster → ℕ → History → ℕ → ℕ
waiting_part ps p h i = cond (waits i h && is_paid_by ps p i h) (order_amount i h) 0

abbrev pub waiting_total : Roster → ℕ → History → ℕ
waiting_total ps p h = sum_to (waiting_part ps p h) (order_count h)

abbrev pub is_first4 : List Report → Bool
is_first4 [] = false
is_first4 (r ∷ rs) = eqb r.code 4

-- the first ticket with an ending of the order lets it expire if its first ending there is 4
abbrev pub lets_expire : ℕ → Event → History → Bool
lets_expire i e before = is_none (all_endings i before) && is_first4 (endings_in i e.reports)

-- the ticket is not refused by 6 to 11
abbrev pub sets_clock : Event → Bool
sets_clock e = not (leb 6 e.refusal && leb e.refusal 11)

-- the order still waits (it waits after the ticket before), it is for a bank, and the ticket's time is 20 seconds or more after its
abbrev pub must_expire : Roster → ℕ → Event → History → Bool
must_expire ps i e before =
    sets_clock e && (waits i before && is_for_bank ps i before && leb time_limit (time_of e.ticket - order_time i before))

-- an accepted inquiry asks about the order with its TxId. 02, slip 6: the key of an order is payer and TxId together
abbrev pub asks_about : ℕ → Event → History → Bool
asks_about i e before =
    is_kind 8 e
    && ltb i (order_count before)
    && same (order_payer i before) (payer_of e.ticket)
    && same (order_txid i before) (txid_of e.ticket)

-- an accepted inquiry's last ending of the order that it asks about, if there is one, is a repeat: how many there are but for it
abbrev pub own_endings : ℕ → Event → History → ℕ
own_endings i e before = length (endings_in i e.reports) - cond (asks_about i e before) 1 0

-- the start counts as one if the order's wait ended before it
abbrev pub ending_tickets : ℕ → History → ℕ
ending_tickets i h = sum_over (λ b. cond (is_none (start_endings i b)) 0 1) (λ e before. cond (eqb (own_endings i e before) 0) 0 1) h

-- the first report with a code is there, and goes to a participant
abbrev to_participant : Roster → List Report → Bool
to_participant ps [] = false
to_participant ps (r ∷ rs) = ltb r.to ps.size

abbrev pub reaches : Roster → ℕ → Event → Bool
reaches ps code e = to_participant ps (first_with code e.reports)

-- an order has its report 1, an accepted yes its first report 2, an accepted return its report 6
abbrev pub tells_parties : Roster → Event → Bool
tells_parties ps e =
    (not (is_order e) || reaches ps 1 e) && (not (is_yes e) || reaches ps 2 e) && (not (is_kind 6 e) || reaches ps 6 e)
