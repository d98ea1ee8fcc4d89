-- Day files, events and covers that written histories are put together from. Participants: A is 0, B and the linked system L are 1.
-- Assumes nothing.
use mathlib.Core.List.{List, [], ◌∷◌}
use Prim.Native.Nat.{ℕ}
use Prim.Native.String.{String}
use Rattle.ticket.specs.TicketWriting.{cover_in_ticket, order_ticket, yes_ticket, no_ticket, recall_ticket, return_ticket, tick_ticket}
use Rattle.dayfile.specs.FileWriting.{file_bytes, bank, bank_opening, linked, direct}
use Rattle.rules.specs.Book.{book_of}
use Rattle.rules.specs.declared.Status.{Status}
use Rattle.rules.specs.declared.Cover.{Cover}
use Rattle.rules.proofs.Names.{bic_a, bic_b, bic_l, tx1, tx2, iban_d, two_banks}
use Rattle.audit.specs.History.{Event}
use Rattle.audit.proofs.HistoryRows.{WrittenHistory, event, report, cover, book_with}

-- two banks; a bank and a linked system; two banks of which the first wishes an opening cover of 100
abbrev pub banks : List ℕ
banks = two_banks []

abbrev pub to_linked : List ℕ
to_linked = file_bytes (bank bic_a ∷ linked bic_l ∷ []) (direct bic_l 1 ∷ []) []

abbrev pub opening : List ℕ
opening = file_bytes (bank_opening bic_a 100 ∷ bank bic_b ∷ []) (direct bic_b 1 ∷ []) []

-- what it shows, the day file, the events, the book's covers and its orders' statuses, the clauses that fail
abbrev pub row : String → List ℕ → List Event → List Cover → List Status → String → WrittenHistory
row shows file events covers statuses fails =
    let b = book_of file in
    record { shows = shows; start = b; events = events; book = book_with b.roster covers statuses; fails = fails }

-- A lodges 1000
abbrev pub lodged : Event
lodged = event (cover_in_ticket 0 bic_a 1000) 0 []

-- and at 5 orders 400 for B, or for L
abbrev pub ordered : Event
ordered = event (order_ticket 5 bic_a bic_b 400 tx1 iban_d) 0 (report 1 1 0 400 ∷ [])

abbrev pub ordered_linked : Event
ordered_linked = event (order_ticket 5 bic_a bic_l 400 tx1 iban_d) 0 (report 1 1 0 400 ∷ [])

-- and at 6 orders 500 more
abbrev pub ordered_more : Event
ordered_more = event (order_ticket 6 bic_a bic_b 500 tx2 iban_d) 0 (report 1 1 1 500 ∷ [])

-- B says yes, and both are told
abbrev pub settled_at : ℕ → Event
settled_at time = event (yes_ticket time bic_b bic_a tx1) 0 (report 0 2 0 400 ∷ report 1 2 0 400 ∷ [])

-- 02, slip 6: A's and B's orders with one TxId, B's of 300; A's is settled, and to B's A says no
abbrev pub shared_ended : List Event
shared_ended =
    lodged
    ∷ event (cover_in_ticket 1 bic_b 500) 0 []
    ∷ ordered
    ∷ event (order_ticket 6 bic_b bic_a 300 tx1 iban_d) 0 (report 0 1 1 300 ∷ [])
    ∷ settled_at 7
    ∷ event (no_ticket 8 bic_a bic_b tx1) 0 (report 1 3 1 300 ∷ [])
    ∷ []

-- the order is settled, A recalls it, and B returns 399 of its 400: told as so many
abbrev pub less_acharge : ℕ → List Event
less_acharge told =
    lodged
    ∷ ordered
    ∷ settled_at 7
    ∷ event (recall_ticket 8 bic_a 1 bic_a tx1) 0 (report 1 5 0 400 ∷ [])
    ∷ event (return_ticket 9 bic_b 399 bic_a tx1) 0 (report 0 6 0 told ∷ [])
    ∷ []

-- a tick that tells nothing, and one that lets order 0 expire
abbrev pub quiet : ℕ → Event
quiet time = event (tick_ticket time) 0 []

abbrev pub expired_at : ℕ → Event
expired_at time = event (tick_ticket time) 0 (report 0 4 0 400 ∷ report 1 4 0 400 ∷ [])

-- the covers while the first order waits, when it is settled, and when its reservation is freed
abbrev pub at_first : List Cover
at_first = cover 600 400 0 ∷ cover 0 0 0 ∷ []

abbrev pub settled_covers : List Cover
settled_covers = cover 600 0 0 ∷ cover 400 0 0 ∷ []

abbrev pub freed_covers : List Cover
freed_covers = cover 1000 0 0 ∷ cover 0 0 0 ∷ []
