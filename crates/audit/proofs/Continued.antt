-- Histories that go on from a book that is not fresh: 02, slip 8, last sentences of its first paragraph. Right days as the rules give them,
-- of which the claim holds, and wrong histories written down by hand, of which it is false.
-- Assumes nothing.
use mathlib.Core.Path.{refl}
use mathlib.Core.List.{List, [], ◌∷◌}
use Prim.Native.Nat.{ℕ}
use Prim.Native.String.{String}
use lib.ListN.{take, drop}
use Rattle.codes.specs.Bic.{is_bic}
use Rattle.iban.specs.Iban.{is_iban}
use Rattle.codes.specs.Txid.{is_txid}
use Rattle.ticket.specs.TicketReading.{reading}
use Rattle.ticket.specs.TicketWriting.{order_ticket, yes_ticket, recall_ticket, return_ticket, inquiry_ticket, confirm_ticket, tick_ticket}
use Rattle.dayfile.specs.DayFile.{day_file}
use Rattle.dayfile.specs.Route.{followed}
use Rattle.dayfile.specs.FileWriting.{file_bytes, bank, bank_opening, linked, direct}
use Rattle.rules.specs.Book.{book_of}
use Rattle.rules.specs.Find.{sender_in, order_in, route_in, way_in, any_open}
use Rattle.rules.specs.Cover.{total}
use Rattle.rules.specs.Tick.{tick}
use Rattle.rules.specs.Step.{step_of, handed}
use Rattle.rules.specs.Inputs.{book_from}
use Rattle.rules.specs.declared.Recall.TheVariants.{None, Asked}
use Rattle.rules.specs.declared.Status.{Status}
use Rattle.rules.specs.declared.Status.TheVariants.{Waiting, Refused, Expired, Returned, Settled}
use Rattle.rules.specs.declared.Cover.{Cover}
use Rattle.rules.specs.declared.Book.{Book}
use Rattle.rules.proofs.Names.{bic_a, bic_b, bic_l, tx1, tx2, tx3, tx4, tx5, tx6, tx7, tx8, iban_d}
use Rattle.audit.specs.History.{Event}
use Rattle.audit.proofs.Testing.{claim-holds}
use Rattle.audit.proofs.HistoryRows.{
  Day,
  IsRight,
  seen_on,
  book_on,
  inputs,
  WrittenHistory,
  AllFalse,
  AllTrue,
  all-false,
  all_true,
  event,
  report,
  cover,
  order,
  book_at,
  book_with,
}
use Rattle.audit.proofs.HistoryParts.{
  banks,
  to_linked,
  opening,
  ordered_more,
  settled_at,
  quiet,
  expired_at,
  at_first,
  settled_covers,
  freed_covers,
}
use Rattle.audit.proofs.Days.{busy_day}

-- the busy day from its 28th ticket on, after the second cut: the first bank has 380 held, the second an open debit of 50
abbrev pub afternoon : Day
afternoon = record {
  shows = "a busy day, from the book that its first 28 tickets left";
  start = book_from busy_day.start (inputs (take 28 busy_day.tickets));
  tickets = drop 28 busy_day.tickets;
  sums = ((0 ∷ 0 ∷ 0 ∷ 380 ∷ 0 ∷ 0 ∷ 0 ∷ 0 ∷ [])
      ∷ (0 ∷ 0 ∷ 40 ∷ 0 ∷ 0 ∷ 0 ∷ 0 ∷ 0 ∷ [])
      ∷ (0 ∷ 0 ∷ 0 ∷ 0 ∷ 0 ∷ 0 ∷ 0 ∷ 0 ∷ [])
      ∷ (0 ∷ 0 ∷ 0 ∷ 0 ∷ 0 ∷ 0 ∷ 0 ∷ 0 ∷ [])
      ∷ []);
  orders = ((400 ∷ 5 ∷ 1 ∷ 0 ∷ 2 ∷ [])
      ∷ (100 ∷ 6 ∷ 1 ∷ 0 ∷ 4 ∷ [])
      ∷ (50 ∷ 7 ∷ 0 ∷ 0 ∷ 2 ∷ [])
      ∷ (150 ∷ 8 ∷ 1 ∷ 0 ∷ 3 ∷ [])
      ∷ (60 ∷ 9 ∷ 1 ∷ 0 ∷ 4 ∷ [])
      ∷ (70 ∷ 14 ∷ 1 ∷ 0 ∷ 2 ∷ [])
      ∷ (90 ∷ 105 ∷ 1 ∷ 0 ∷ 4 ∷ 4 ∷ [])
      ∷ (5 ∷ 126 ∷ 1 ∷ 1 ∷ [])
      ∷ []);
  covers = busy_day.covers;
}

-- two banks and a linked system, with orders of every status; the first bank has 80 held
abbrev over_night : Book
over_night =
    book_at 100 (book_of
    (file_bytes (bank_opening bic_a 500 ∷ bank bic_b ∷ linked bic_l ∷ []) (direct bic_a 0 ∷ direct bic_b 1 ∷ direct bic_l 2 ∷ []) [])).roster
    (cover 500 200 80 ∷ cover 1000 60 0 ∷ cover 0 0 0 ∷ [])
    (order tx1 0 1 400 5 (Settled None 9)
    ∷ order tx2 0 1 100 6 Expired
    ∷ order tx3 0 2 50 7 Waiting
    ∷ order tx4 0 1 150 90 Waiting
    ∷ order tx5 1 0 60 91 Waiting
    ∷ order tx6 1 0 70 92 Refused
    ∷ order tx7 0 1 30 93 (Returned 95 29)
    ∷ [])

-- The linked system says yes to an order of long before; all that ended before are asked about; held is confirmed; one order is answered in
-- its last second, and one expires; one that was settled before is recalled and returned less a charge of 10; a new one has the number
-- behind them.
abbrev pub next_day : Day
next_day = record {
  shows = "a day that goes on from orders of every status";
  start = over_night;
  tickets =
      (yes_ticket 101 bic_l bic_a tx3
      ∷ inquiry_ticket 102 bic_a bic_a tx1
      ∷ inquiry_ticket 102 bic_a bic_a tx2
      ∷ inquiry_ticket 102 bic_b bic_b tx6
      ∷ inquiry_ticket 102 bic_a bic_a tx7
      ∷ confirm_ticket 103 bic_a 80
      ∷ yes_ticket 109 bic_b bic_a tx4
      ∷ tick_ticket 111
      ∷ recall_ticket 112 bic_a 1 bic_a tx1
      ∷ return_ticket 113 bic_b 390 bic_a tx1
      ∷ inquiry_ticket 114 bic_a bic_a tx1
      ∷ order_ticket 115 bic_b bic_a 10 tx8 iban_d
      ∷ []);
  sums = ((0 ∷ 0 ∷ 0 ∷ 80 ∷ 0 ∷ 200 ∷ 0 ∷ 390 ∷ [])
      ∷ (0 ∷ 0 ∷ 0 ∷ 0 ∷ 150 ∷ 0 ∷ 390 ∷ 0 ∷ [])
      ∷ (0 ∷ 0 ∷ 0 ∷ 0 ∷ 50 ∷ 0 ∷ 0 ∷ 0 ∷ [])
      ∷ []);
  orders = ((400 ∷ 5 ∷ 1 ∷ 0 ∷ 2 ∷ 2 ∷ [])
      ∷ (100 ∷ 6 ∷ 1 ∷ 0 ∷ 4 ∷ 4 ∷ [])
      ∷ (50 ∷ 7 ∷ 0 ∷ 0 ∷ 2 ∷ [])
      ∷ (150 ∷ 90 ∷ 1 ∷ 0 ∷ 2 ∷ 2 ∷ [])
      ∷ (60 ∷ 91 ∷ 1 ∷ 0 ∷ 4 ∷ 4 ∷ [])
      ∷ (70 ∷ 92 ∷ 1 ∷ 0 ∷ 3 ∷ 3 ∷ [])
      ∷ (30 ∷ 93 ∷ 1 ∷ 0 ∷ 2 ∷ [])
      ∷ (10 ∷ 115 ∷ 1 ∷ 1 ∷ [])
      ∷ []);
  covers = ((890 ∷ 0 ∷ 0 ∷ []) ∷ (810 ∷ 10 ∷ 0 ∷ []) ∷ (50 ∷ 0 ∷ 0 ∷ []) ∷ []);
}

pub afternoon-right : IsRight afternoon
unfolding is_bic is_iban is_txid reading day_file followed sender_in order_in route_in way_in any_open total tick step_of handed
afternoon-right = (refl, refl, refl, claim-holds (seen_on afternoon) (book_on afternoon) refl)

pub next_day-right : IsRight next_day
unfolding is_bic is_iban is_txid reading day_file followed sender_in order_in route_in way_in any_open total tick step_of handed
next_day-right = (refl, refl, refl, claim-holds (seen_on next_day) (book_on next_day) refl)

-- what it shows, the book to start from, the events, the covers and the orders' statuses at the end, the clauses that fail
abbrev since : String → Book → List Event → List Cover → List Status → String → WrittenHistory
since shows start events covers statuses fails =
    record { shows = shows; start = start; events = events; book = book_with start.roster covers statuses; fails = fails }

-- books to start from: an order of 400 at 5 for the second bank, with a status, or for a linked system
abbrev start_of : List ℕ → List Cover → Status → Book
start_of file covers status = book_at 5 (book_of file).roster covers (order tx1 0 1 400 5 status ∷ [])

abbrev waiting : Book
waiting = start_of banks at_first Waiting

abbrev settled : Book
settled = start_of banks settled_covers (Settled None 5)

-- no order, and 900 held, or an open debit of 70
abbrev with_held : Book
with_held = book_at 5 (book_of opening).roster (cover 100 0 900 ∷ cover 0 0 0 ∷ []) []

abbrev with_debit : Book
with_debit = book_at 5 (book_of opening).roster (record { available = 30; reserved = 0; held = 0; debit = 70 } ∷ cover 0 0 0 ∷ []) []

-- an inquiry of the first bank about the order, answered by one report to it
abbrev told_at : ℕ → ℕ → ℕ → Event
told_at time code amount = event (inquiry_ticket time bic_a bic_a tx1) 0 (report 0 code 0 amount ∷ [])

abbrev told : ℕ → ℕ → Event
told = told_at 30

abbrev pub of_starts : List WrittenHistory
of_starts =
    since "the start's cover is not there" settled [] (cover 0 0 0 ∷ cover 0 0 0 ∷ []) (Settled None 5 ∷ []) "cover"
    ∷ since "the start's held is not there" with_held [] (cover 100 0 0 ∷ cover 0 0 0 ∷ []) [] "cover"
    ∷ since "cover of the start counted twice" settled (quiet 30 ∷ []) (cover 1200 0 0 ∷ cover 800 0 0 ∷ []) (Settled None 5 ∷ []) "cover"
    ∷ since "held in the start confirmed as a debit" with_held
    (event (confirm_ticket 6 bic_a 900) 0 [] ∷ [])
    (cover 1000 0 900 ∷ cover 0 0 0 ∷ []) [] "cover"
    ∷ since "open debit in the start confirmed as a credit" with_debit
    (event (confirm_ticket 6 bic_a 30) 0 [] ∷ [])
    (cover 0 0 0 ∷ cover 0 0 0 ∷ []) [] "cover"
    ∷ since "a confirm that moves nothing" with_debit
    (event (confirm_ticket 6 bic_a 40) 0 [] ∷ [])
    (cover 30 0 0 ∷ cover 0 0 0 ∷ []) [] "cover"
    ∷ since "a waiting order of the start is not reserved" waiting [] freed_covers (Waiting ∷ []) "reserved"
    ∷ since "reserved of the start one cent off" waiting [] (cover 601 399 0 ∷ cover 0 0 0 ∷ []) (Waiting ∷ []) "reserved"
    ∷ []

abbrev pub of_orders_before : List WrittenHistory
of_orders_before =
    since "an order of the start that the book no longer holds" waiting (quiet 6 ∷ []) at_first [] "held"
    ∷ since "an order that ended before is Waiting" settled (quiet 6 ∷ []) settled_covers (Waiting ∷ []) "waiting"
    ∷ since "an order that waits in the start has ended, and nobody was told" waiting (quiet 6 ∷ []) freed_covers
    (Refused ∷ []) "reserved, waiting"
    ∷ since "a waiting order of the start doesn't expire after 20 seconds" waiting (quiet 25 ∷ []) at_first (Waiting ∷ []) "expiry"
    ∷ since "a waiting order of the start expires a second early" waiting (expired_at 24 ∷ []) freed_covers (Expired ∷ []) "expiry"
    ∷ since "a waiting order of the start for a linked system expires" (start_of to_linked at_first Waiting)
    (expired_at 4294967295 ∷ [])
    freed_covers (Expired ∷ []) "expiry"
    ∷ since "a new order's ending told with the number of one before" settled
    (event (order_ticket 6 bic_a bic_b 500 tx2 iban_d) 0 (report 1 1 1 500 ∷ [])
    ∷ event (yes_ticket 7 bic_b bic_a tx2) 0 (report 0 2 0 500 ∷ report 1 2 0 500 ∷ [])
    ∷ [])
    (cover 100 0 0 ∷ cover 900 0 0 ∷ []) (Settled None 5 ∷ Settled None 7 ∷ []) "reserved, waiting, once, alike"
    ∷ since "an ending of the number behind those of the start" settled
    (event (tick_ticket 6) 0 (report 0 3 1 400 ∷ []) ∷ [])
    settled_covers (Settled None 5 ∷ []) "known"
    ∷ []

abbrev pub of_endings_before : List WrittenHistory
of_endings_before =
    since "an order settled before is told to expire" settled (expired_at 25 ∷ []) settled_covers (Settled None 5 ∷ []) "once, alike"
    ∷ since "an order settled before settles again" settled (settled_at 6 ∷ []) (cover 200 0 0 ∷ cover 800 0 0 ∷ [])
    (Settled None 6 ∷ []) "once"
    ∷ since "an order refused before settles" (start_of banks freed_covers Refused) (settled_at 6 ∷ []) settled_covers
    (Settled None 6 ∷ []) "once, alike"
    ∷ since "an order that expired before expires again" (start_of banks freed_covers Expired) (expired_at 25 ∷ [])
    freed_covers (Expired ∷ []) "once"
    ∷ since "an order settled before, told as expired by an inquiry" settled (told 4 400 ∷ []) settled_covers (Settled None 5 ∷ []) "alike"
    ∷ since "an order refused before, told as settled by an inquiry" (start_of banks freed_covers Refused) (told 2 400 ∷ [])
    freed_covers (Refused ∷ []) "alike"
    ∷ since "an order that expired before, told as refused by an inquiry" (start_of banks freed_covers Expired) (told 3 400 ∷ [])
    freed_covers (Expired ∷ []) "alike"
    ∷ since "an order returned before, told as refused by an inquiry" (start_of banks freed_covers (Returned 5 400)) (told 3 400 ∷ [])
    freed_covers (Returned 5 400 ∷ []) "alike"
    ∷ since "a repeat with another amount than the row's" settled (told 2 401 ∷ []) settled_covers (Settled None 5 ∷ []) "alike"
    ∷ since "an order that waits in the start, ended by an inquiry alone" waiting (told_at 10 2 400 ∷ []) freed_covers
    (Settled None 10 ∷ []) "once"
    ∷ since "an order settled before, told in a refused inquiry" settled
    (event (inquiry_ticket 30 bic_b bic_a tx1) 17 (report 0 2 0 400 ∷ []) ∷ [])
    settled_covers (Settled None 5 ∷ []) "once"
    ∷ since "an order settled before, told in an inquiry about another" settled
    (ordered_more ∷ event (inquiry_ticket 8 bic_a bic_a tx2) 0 (report 0 2 0 400 ∷ []) ∷ [])
    (cover 100 500 0 ∷ cover 400 0 0 ∷ []) (Settled None 5 ∷ Waiting ∷ []) "once"
    ∷ since "an order settled before, returned and nobody told" (start_of banks settled_covers (Settled Asked 5))
    (event (return_ticket 9 bic_b 400 bic_a tx1) 0 [] ∷ [])
    (cover 600 0 0 ∷ cover 0 0 0 ∷ []) (Returned 5 400 ∷ []) "told"
    ∷ []

pub starts-false : AllFalse of_starts
unfolding is_bic day_file
starts-false = all-false of_starts refl

pub orders-before-false : AllFalse of_orders_before
unfolding is_bic day_file
orders-before-false = all-false of_orders_before refl

pub endings-before-false : AllFalse of_endings_before
unfolding is_bic day_file
endings-before-false = all-false of_endings_before refl

-- the claim holds
abbrev pub right_starts : List WrittenHistory
right_starts =
    since "nothing was seen yet" settled [] settled_covers (Settled None 5 ∷ []) ""
    ∷ since "held in the start confirmed as a credit" with_held (event (confirm_ticket 6 bic_a 900) 0 [] ∷ [])
    (cover 100 0 0 ∷ cover 0 0 0 ∷ []) [] ""
    ∷ since "open debit in the start confirmed in part" with_debit (event (confirm_ticket 6 bic_a 40) 0 [] ∷ [])
    (cover 70 0 0 ∷ cover 0 0 0 ∷ []) [] ""
    ∷ since "a waiting order of the start settles in its last second" waiting (settled_at 24 ∷ told 2 400 ∷ [])
    settled_covers (Settled None 24 ∷ []) ""
    ∷ since "a waiting order of the start expires" waiting (expired_at 25 ∷ told 4 400 ∷ []) freed_covers (Expired ∷ []) ""
    ∷ since "an order settled before is repeated, twice" settled (told 2 400 ∷ told 2 400 ∷ []) settled_covers (Settled None 5 ∷ []) ""
    ∷ since "an order refused before is repeated" (start_of banks freed_covers Refused) (told 3 400 ∷ []) freed_covers (Refused ∷ []) ""
    ∷ since "an order that expired before is repeated" (start_of banks freed_covers Expired) (told 4 400 ∷ []) freed_covers (Expired ∷ []) ""
    ∷ []

pub right-starts : AllTrue right_starts
unfolding is_bic day_file
right-starts = all_true right_starts refl
