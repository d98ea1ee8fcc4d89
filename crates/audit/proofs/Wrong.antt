-- More wrong histories, written down by hand: the claim is false of each. They go by the clause that they break. Where a row names one
-- clause, a claim that asks for less there would hold of it: that the book holds any number of orders, or one more; that endings carry
-- any amount, or any code; that an order ends in any number of tickets, or by a repeat alone; that it ends before it is accepted, or in
-- its own ticket.
-- Assumes nothing.
use mathlib.Core.Path.{refl}
use mathlib.Core.List.{List, [], ◌∷◌, ◌++◌}
use Rattle.codes.specs.Bic.{is_bic}
use Rattle.ticket.specs.TicketWriting.{
  cover_out_ticket,
  order_ticket,
  yes_ticket,
  inquiry_ticket,
  recall_ticket,
  return_ticket,
  cut_ticket,
  confirm_ticket,
  tick_ticket,
}
use Rattle.dayfile.specs.DayFile.{day_file}
use Rattle.rules.specs.declared.Status.TheVariants.{Waiting, Refused, Expired, Returned, Settled}
use Rattle.rules.specs.declared.Recall.TheVariants.{None}
use Rattle.rules.proofs.Names.{bic_a, bic_b, tx1, tx2, iban_d}
use Rattle.audit.proofs.HistoryRows.{WrittenHistory, AllFalse, AllTrue, all-false, all_true, event, report, cover}
use Rattle.audit.proofs.HistoryParts.{
  banks,
  to_linked,
  opening,
  row,
  lodged,
  ordered,
  ordered_linked,
  ordered_more,
  settled_at,
  shared_ended,
  less_acharge,
  quiet,
  expired_at,
  at_first,
  settled_covers,
  freed_covers,
}

abbrev pub of_cover : List WrittenHistory
of_cover =
    row "cover moved and not told" banks
    (lodged ∷ ordered ∷ event (yes_ticket 24 bic_b bic_a tx1) 0 [] ∷ [])
    settled_covers (Settled None 24 ∷ []) "told, cover, reserved, waiting"
    ∷ row "told and not moved" banks (lodged ∷ ordered ∷ settled_at 24 ∷ []) at_first (Settled None 24 ∷ []) "cover, reserved"
    ∷ row "a confirm counted as a debit after a report 11" opening
    (lodged ∷ event (cut_ticket 1) 0 (report 0 11 65535 900 ∷ []) ∷ event (confirm_ticket 2 bic_a 900) 0 [] ∷ [])
    (cover 1000 0 900 ∷ cover 0 0 0 ∷ []) [] "cover"
    ∷ row "more cover out than there is, and the difference cut off at zero" banks
    (lodged ∷ event (cover_out_ticket 1 bic_a 1001) 0 [] ∷ [])
    (cover 0 0 0 ∷ cover 0 0 0 ∷ []) [] "cover"
    ∷ row "reserved one cent off" banks (lodged ∷ ordered ∷ []) (cover 601 399 0 ∷ cover 0 0 0 ∷ []) (Waiting ∷ []) "reserved"
    -- 02, slip 2
    ∷ row "a return of 399 of 400, and the payer gets the charge too" banks (less_acharge 399)
    (cover 1000 0 0 ∷ cover 1 0 0 ∷ []) (Returned 7 399 ∷ []) "cover"
    ∷ row "a return of 399 of 400 that moves all 400" banks (less_acharge 399) freed_covers (Returned 7 399 ∷ []) "cover"
    ∷ row "a return of 399 of 400 whose charge is nobody's" banks (less_acharge 399)
    (cover 999 0 0 ∷ cover 0 0 0 ∷ []) (Returned 7 399 ∷ []) "cover"
    ∷ []

-- the reports that sums and orders go by are not there
abbrev pub of_parties : List WrittenHistory
of_parties =
    row "a return that tells nobody: the cover is gone" banks
    (lodged
    ∷ ordered
    ∷ settled_at 7
    ∷ event (recall_ticket 8 bic_a 1 bic_a tx1) 0 (report 1 5 0 400 ∷ [])
    ∷ event (return_ticket 9 bic_b 400 bic_a tx1) 0 []
    ∷ [])
    (cover 600 0 0 ∷ cover 0 0 0 ∷ []) (Returned 7 400 ∷ []) "told"
    ∷ row "a return told to one who is no participant" banks
    (lodged
    ∷ ordered
    ∷ settled_at 7
    ∷ event (recall_ticket 8 bic_a 1 bic_a tx1) 0 (report 1 5 0 400 ∷ [])
    ∷ event (return_ticket 9 bic_b 400 bic_a tx1) 0 (report 2 6 0 400 ∷ [])
    ∷ [])
    (cover 600 0 0 ∷ cover 0 0 0 ∷ []) (Returned 7 400 ∷ []) "told"
    ∷ row "an order that tells nobody, and never expires" banks
    (lodged ∷ event (order_ticket 5 bic_a bic_b 400 tx1 iban_d) 0 [] ∷ quiet 4294967295 ∷ [])
    at_first (Waiting ∷ []) "told"
    ∷ row "a yes that tells nobody and does nothing" banks
    (lodged ∷ ordered ∷ event (yes_ticket 24 bic_b bic_a tx1) 0 [] ∷ [])
    at_first (Waiting ∷ []) "told"
    ∷ []

abbrev pub of_orders : List WrittenHistory
of_orders =
    row "Waiting in the book after its ending" banks (lodged ∷ ordered ∷ settled_at 24 ∷ []) settled_covers (Waiting ∷ []) "waiting"
    ∷ row "an accepted order of which the book holds nothing" banks (lodged ∷ ordered ∷ []) at_first [] "held"
    ∷ row "an order in the book that was not accepted" banks (lodged ∷ []) freed_covers (Refused ∷ []) "held"
    ∷ []

abbrev pub of_expiries : List WrittenHistory
of_expiries =
    row "a time-out one second early" banks (lodged ∷ ordered ∷ expired_at 24 ∷ []) freed_covers (Expired ∷ []) "expiry"
    ∷ row "a time-out one second late" banks (lodged ∷ ordered ∷ quiet 25 ∷ expired_at 26 ∷ []) freed_covers (Expired ∷ []) "expiry"
    ∷ row "a time-out never" banks (lodged ∷ ordered ∷ quiet 25 ∷ quiet 4294967295 ∷ []) at_first (Waiting ∷ []) "expiry"
    ∷ row "an order for a linked system timed out long after" to_linked
    (lodged ∷ ordered_linked ∷ quiet 25 ∷ expired_at 4294967295 ∷ [])
    freed_covers (Expired ∷ []) "expiry"
    ∷ row "a time-out at a ticket refused by 6" banks
    (lodged ∷ ordered ∷ event (tick_ticket 25) 6 (report 0 4 0 400 ∷ report 1 4 0 400 ∷ []) ∷ [])
    freed_covers (Expired ∷ []) "expiry"
    ∷ row "a time-out at a ticket refused by 11" banks
    (lodged ∷ ordered ∷ event (tick_ticket 25) 11 (report 0 4 0 400 ∷ report 1 4 0 400 ∷ []) ∷ [])
    freed_covers (Expired ∷ []) "expiry"
    ∷ []

abbrev pub of_endings : List WrittenHistory
of_endings =
    row "told 'expired' before it is accepted" banks (lodged ∷ expired_at 4 ∷ ordered ∷ []) freed_covers (Expired ∷ []) "expiry, known"
    ∷ row "told 'refused' before it is accepted" banks
    (lodged ∷ event (tick_ticket 4) 0 (report 0 3 0 400 ∷ []) ∷ ordered ∷ [])
    freed_covers (Refused ∷ []) "known"
    ∷ row "an ending in the order's own ticket" banks
    (lodged ∷ event (order_ticket 5 bic_a bic_b 400 tx1 iban_d) 0 (report 1 1 0 400 ∷ report 0 3 0 400 ∷ []) ∷ [])
    freed_covers (Refused ∷ []) "known"
    ∷ row "an ending of a number that is no order's" banks
    (lodged ∷ ordered ∷ event (tick_ticket 6) 0 (report 0 2 7 400 ∷ []) ∷ [])
    at_first (Waiting ∷ []) "known"
    ∷ row "a second ending in a later ticket that is no inquiry" banks
    (lodged ∷ ordered ∷ settled_at 24 ∷ event (tick_ticket 30) 0 (report 0 2 0 400 ∷ []) ∷ [])
    settled_covers (Settled None 24 ∷ []) "once"
    ∷ row "a second ending in a refused inquiry" banks
    (lodged ∷ ordered ∷ settled_at 24 ∷ event (inquiry_ticket 30 bic_b bic_a tx1) 17 (report 0 2 0 400 ∷ []) ∷ [])
    settled_covers (Settled None 24 ∷ []) "once"
    ∷ row "an inquiry that repeats another order's ending" banks
    (lodged ∷ ordered ∷ ordered_more ∷ settled_at 7 ∷ event (inquiry_ticket 8 bic_a bic_a tx2) 0 (report 0 2 0 400 ∷ []) ∷ [])
    (cover 100 500 0 ∷ cover 400 0 0 ∷ []) (Settled None 7 ∷ Waiting ∷ []) "once"
    ∷ row "an inquiry about A's order that repeats how B's with the same TxId ended" banks
    (shared_ended ++ (event (inquiry_ticket 9 bic_a bic_a tx1) 0 (report 0 3 1 300 ∷ []) ∷ []))
    (cover 600 0 0 ∷ cover 900 0 0 ∷ []) (Settled None 7 ∷ Refused ∷ []) "once"
    ∷ row "an inquiry that tells 2 before the yes, the order waiting on" banks
    (lodged ∷ ordered ∷ event (inquiry_ticket 6 bic_a bic_a tx1) 0 (report 0 2 0 400 ∷ []) ∷ [])
    at_first (Waiting ∷ []) "reserved, waiting, once"
    ∷ row "an inquiry that tells 2 before the yes, the order ended by it" banks
    (lodged ∷ ordered ∷ event (inquiry_ticket 6 bic_a bic_a tx1) 0 (report 0 2 0 400 ∷ []) ∷ [])
    freed_covers (Settled None 6 ∷ []) "once"
    ∷ row "a settled order told 'expired' to one of the two" banks
    (lodged ∷ ordered ∷ event (yes_ticket 24 bic_b bic_a tx1) 0 (report 0 2 0 400 ∷ report 1 4 0 400 ∷ []) ∷ [])
    settled_covers (Settled None 24 ∷ []) "alike"
    ∷ row "an inquiry that repeats another code" banks
    (lodged ∷ ordered ∷ settled_at 24 ∷ event (inquiry_ticket 30 bic_a bic_a tx1) 0 (report 0 4 0 400 ∷ []) ∷ [])
    settled_covers (Settled None 24 ∷ []) "alike"
    ∷ row "an amount in report 2 that isn't the order's, and is moved" banks
    (lodged ∷ ordered ∷ event (yes_ticket 24 bic_b bic_a tx1) 0 (report 0 2 0 401 ∷ report 1 2 0 401 ∷ []) ∷ [])
    (cover 599 0 0 ∷ cover 401 0 0 ∷ []) (Settled None 24 ∷ []) "alike"
    ∷ row "an amount in report 2 that isn't the order's, and isn't moved" banks
    (lodged ∷ ordered ∷ event (yes_ticket 24 bic_b bic_a tx1) 0 (report 0 2 0 401 ∷ report 1 2 0 401 ∷ []) ∷ [])
    settled_covers (Settled None 24 ∷ []) "cover, alike"
    ∷ []

pub parties-false : AllFalse of_parties
unfolding is_bic day_file
parties-false = all-false of_parties refl

pub cover-false : AllFalse of_cover
unfolding is_bic day_file
cover-false = all-false of_cover refl

pub orders-false : AllFalse of_orders
unfolding is_bic day_file
orders-false = all-false of_orders refl

pub expiries-false : AllFalse of_expiries
unfolding is_bic day_file
expiries-false = all-false of_expiries refl

pub endings-false : AllFalse of_endings
unfolding is_bic day_file
endings-false = all-false of_endings refl

-- the claim holds of the whole, and is false of its beginning: the rows above of an inquiry that tells 2 before the yes
abbrev pub seen_earlier : List WrittenHistory
seen_earlier =
    row "an inquiry that tells 2 before the yes, when the yes has come" banks
    (lodged ∷ ordered ∷ event (inquiry_ticket 6 bic_a bic_a tx1) 0 (report 0 2 0 400 ∷ []) ∷ settled_at 24 ∷ [])
    settled_covers (Settled None 24 ∷ []) ""
    ∷ []

pub seen-earlier : AllTrue seen_earlier
unfolding is_bic day_file
seen-earlier = all_true seen_earlier refl
