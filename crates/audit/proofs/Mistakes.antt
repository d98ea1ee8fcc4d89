-- What 01's reviewer will try and what its clerk would do wrong, as histories written down by hand. The claim is false of those in
-- `reviewers` and `mistakes`; of those in `unseen` it holds, and demand 2 shuts them out. A row count is no part of an event, so that an
-- invented one is for demand 2 also.
-- Assumes nothing.
use Prim.Native.Nat.{ℕ}
use mathlib.Core.Path.{refl}
use mathlib.Core.List.{List, [], ◌∷◌}
use Rattle.codes.specs.Bic.{is_bic}
use Rattle.ticket.specs.TicketWriting.{cover_in_ticket, order_ticket, yes_ticket, no_ticket, recall_ticket, return_ticket, cut_ticket, tick_ticket}
use Rattle.dayfile.specs.DayFile.{day_file}
use Rattle.report.specs.declared.Report.{Report}
use Rattle.rules.specs.declared.Status.TheVariants.{Waiting, Refused, Expired, Returned, Settled}
use Rattle.rules.specs.declared.Recall.TheVariants.{None, Asked}
use Rattle.rules.proofs.Names.{bic_a, bic_b, tx1, tx2, iban_d}
use Rattle.audit.specs.History.{Event}
use Rattle.audit.proofs.HistoryRows.{WrittenHistory, AllFalse, AllTrue, all-false, all_true, event, report, cover}
use Rattle.audit.proofs.HistoryParts.{
  banks,
  to_linked,
  opening,
  row,
  lodged,
  ordered,
  ordered_linked,
  ordered_more,
  settled_at,
  less_acharge,
  quiet,
  expired_at,
  settled_covers,
  freed_covers,
}

-- order 1, of 100 at 863,987, and a recall of order 0 in the second in which order 1 expires, 864,000 after a settlement at 7
abbrev ordered_later : Event
ordered_later = event (order_ticket 863_987 bic_a bic_b 100 tx2 iban_d) 0 (report 1 1 1 100 ∷ [])

abbrev late_recall : ℕ → List Report → Event
late_recall refusal reports = event (recall_ticket 864_007 bic_a 1 bic_a tx1) refusal reports

-- 01 'A reviewer will try'
abbrev pub reviewers : List WrittenHistory
reviewers =
    row "2: accepts and moves no cover" banks (lodged ∷ ordered ∷ settled_at 24 ∷ []) freed_covers (Settled None 24 ∷ []) "cover"
    ∷ row "2: sends report 2 always, at a time-out too" banks
    (lodged ∷ ordered ∷ event (tick_ticket 25) 0 (report 0 2 0 400 ∷ report 1 2 0 400 ∷ []) ∷ [])
    freed_covers (Expired ∷ []) "expiry"
    ∷ row "3: expires everything at the first tick and reports later" banks
    (lodged ∷ ordered ∷ quiet 6 ∷ [])
    freed_covers (Expired ∷ []) "reserved, waiting"
    ∷ []

-- 01 'Mistakes a clerk would make'
abbrev pub mistakes : List WrittenHistory
mistakes =
    row "expiring at more than 20 seconds: a yes at 20 settles" banks
    (lodged ∷ ordered ∷ settled_at 25 ∷ [])
    settled_covers (Settled None 25 ∷ []) "expiry"
    ∷ row "adding 20 to a time near the top of 32 bits: the sum wraps, and after 15 seconds the order expires" banks
    (lodged
    ∷ event (order_ticket 4294967280 bic_a bic_b 400 tx1 iban_d) 0 (report 1 1 0 400 ∷ [])
    ∷ expired_at 4294967295
    ∷ [])
    freed_covers (Expired ∷ []) "expiry"
    ∷ row "timing out an order for a linked system" to_linked (lodged ∷ ordered_linked ∷ expired_at 25 ∷ [])
    freed_covers (Expired ∷ []) "expiry"
    ∷ row "letting a refusal 18 stop the clock: the second order's time-out at 26 is not seen" banks
    (lodged ∷ ordered ∷ ordered_more ∷ settled_at 7 ∷ event (yes_ticket 26 bic_b bic_a tx1) 18 [] ∷ [])
    (cover 100 500 0 ∷ cover 400 0 0 ∷ []) (Settled None 7 ∷ Waiting ∷ []) "expiry"
    ∷ row "moving reserved cover at a cut" opening
    (lodged ∷ ordered ∷ event (cut_ticket 6) 0 (report 0 11 65535 900 ∷ []) ∷ [])
    (cover 100 0 900 ∷ cover 0 0 0 ∷ []) (Waiting ∷ []) "reserved"
    ∷ row "freeing a returned order's reservation again" banks
    (lodged
    ∷ ordered
    ∷ ordered_more
    ∷ settled_at 7
    ∷ event (recall_ticket 8 bic_a 1 bic_a tx1) 0 (report 1 5 0 400 ∷ [])
    ∷ event (return_ticket 9 bic_b 400 bic_a tx1) 0 (report 0 6 0 400 ∷ [])
    ∷ [])
    (cover 900 100 0 ∷ cover 0 0 0 ∷ []) (Returned 7 400 ∷ Waiting ∷ []) "reserved"
    -- 02, slip 5
    ∷ row "letting a refusal 26 stop the clock: the second order's time-out in the second of the late recall is not seen" banks
    (lodged ∷ ordered ∷ settled_at 7 ∷ ordered_later ∷ late_recall 26 [] ∷ [])
    (cover 500 100 0 ∷ cover 400 0 0 ∷ []) (Settled None 7 ∷ Waiting ∷ []) "expiry"
    ∷ []

pub reviewers-false : AllFalse reviewers
unfolding is_bic day_file
reviewers-false = all-false reviewers refl

pub mistakes-false : AllFalse mistakes
unfolding is_bic day_file
mistakes-false = all-false mistakes refl

-- the claim holds: these are for demand 2
abbrev pub unseen : List WrittenHistory
unseen =
    row "1: every ticket is turned back" banks
    (event (cover_in_ticket 0 bic_a 1000) 15 [] ∷ event (tick_ticket 1) 7 [] ∷ [])
    (cover 0 0 0 ∷ cover 0 0 0 ∷ []) [] ""
    ∷ row "2: report 2 is sent for a no" banks
    (lodged ∷ ordered ∷ event (no_ticket 6 bic_b bic_a tx1) 0 (report 0 2 0 400 ∷ []) ∷ [])
    freed_covers (Refused ∷ []) ""
    ∷ row "telling the payee of its own no" banks
    (lodged ∷ ordered ∷ event (no_ticket 6 bic_b bic_a tx1) 0 (report 0 3 0 400 ∷ report 1 3 0 400 ∷ []) ∷ [])
    freed_covers (Refused ∷ []) ""
    -- 02, slip 2
    ∷ row "a return of 399 of 400 told with the order's amount" banks (less_acharge 400)
    (cover 999 0 0 ∷ cover 1 0 0 ∷ []) (Returned 7 399 ∷ []) ""
    -- 02, slip 5
    ∷ row "a recall 864,000 seconds after the settlement is accepted" banks
    (lodged ∷ ordered ∷ settled_at 7 ∷ late_recall 0 (report 1 5 0 400 ∷ []) ∷ [])
    settled_covers (Settled Asked 7 ∷ []) ""
    ∷ row "a recall refused by 26, with the reports of the order that expires beside it, marks its order all the same" banks
    (lodged ∷ ordered ∷ settled_at 7 ∷ ordered_later ∷ late_recall 26 (report 0 4 1 100 ∷ report 1 4 1 100 ∷ []) ∷ [])
    settled_covers (Settled Asked 7 ∷ Expired ∷ []) ""
    ∷ []

pub unseen-true : AllTrue unseen
unfolding is_bic day_file
unseen-true = all_true unseen refl
