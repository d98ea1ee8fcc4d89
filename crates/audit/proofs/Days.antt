-- Right days: cases D and E of 01 'At the edges' and a busy day, as the rules give them: what each sum, each order's wait and each ending
-- comes to, and that the claim holds. Assumes nothing.
use mathlib.Core.Path.{refl}
use mathlib.Core.List.{List, [], ◌∷◌}
use Prim.Native.Nat.{ℕ}
use Rattle.codes.specs.Bic.{is_bic}
use Rattle.iban.specs.Iban.{is_iban}
use Rattle.codes.specs.Txid.{is_txid}
use Rattle.ticket.specs.Kind.{kind_number}
use Rattle.ticket.specs.TicketReading.{reading}
use Rattle.ticket.specs.TicketWriting.{
  ticket_bytes,
  cover_in_ticket,
  cover_out_ticket,
  order_ticket,
  yes_ticket,
  no_ticket,
  recall_ticket,
  return_ticket,
  decline_ticket,
  inquiry_ticket,
  cut_ticket,
  confirm_ticket,
  tick_ticket,
}
use Rattle.ticket.specs.declared.kinds.Kind.TheVariants.{Tick}
use Rattle.dayfile.specs.DayFile.{day_file}
use Rattle.dayfile.specs.Route.{followed}
use Rattle.dayfile.specs.FileWriting.{file_bytes, bank, bank_opening, linked, direct, onward}
use Rattle.rules.specs.Book.{book_of}
use Rattle.rules.specs.Find.{sender_in, order_in, route_in, way_in, any_open}
use Rattle.rules.specs.Cover.{total}
use Rattle.rules.specs.Tick.{tick}
use Rattle.rules.specs.Step.{step_of, handed}
use Rattle.rules.proofs.Names.{bic_a, bic_b, bic_c, bic_d, bic_e, bic_l, bic_z, tx1, tx2, tx3, tx4, tx5, tx6, tx7, tx8, iban_d, two_banks}
use Rattle.audit.proofs.Testing.{claim-holds}
use Rattle.audit.proofs.HistoryRows.{Day, IsRight, seen_on, book_on}

abbrev pub case_d : Day
case_d = record {
  shows = "D: a yes at 24 to an order of 5";
  start = book_of (two_banks []);
  tickets =
      (cover_in_ticket 0 bic_a 1000
      ∷ order_ticket 5 bic_a bic_b 400 tx1 iban_d
      ∷ yes_ticket 24 bic_b bic_a tx1
      ∷ inquiry_ticket 30 bic_a bic_a tx1
      ∷ []);
  sums = ((1000 ∷ 0 ∷ 0 ∷ 0 ∷ 0 ∷ 400 ∷ 0 ∷ 0 ∷ []) ∷ (0 ∷ 0 ∷ 0 ∷ 0 ∷ 400 ∷ 0 ∷ 0 ∷ 0 ∷ []) ∷ []);
  orders = ((400 ∷ 5 ∷ 1 ∷ 0 ∷ 2 ∷ 2 ∷ 2 ∷ []) ∷ []);
  covers = ((600 ∷ 0 ∷ 0 ∷ []) ∷ (400 ∷ 0 ∷ 0 ∷ []) ∷ []);
}

abbrev pub case_e : Day
case_e = record {
  shows = "E: a yes at 25";
  start = book_of (two_banks []);
  tickets =
      (cover_in_ticket 0 bic_a 1000
      ∷ order_ticket 5 bic_a bic_b 400 tx1 iban_d
      ∷ yes_ticket 25 bic_b bic_a tx1
      ∷ inquiry_ticket 30 bic_a bic_a tx1
      ∷ []);
  sums = ((1000 ∷ 0 ∷ 0 ∷ 0 ∷ 0 ∷ 0 ∷ 0 ∷ 0 ∷ []) ∷ (0 ∷ 0 ∷ 0 ∷ 0 ∷ 0 ∷ 0 ∷ 0 ∷ 0 ∷ []) ∷ []);
  orders = ((400 ∷ 5 ∷ 1 ∷ 0 ∷ 4 ∷ 4 ∷ 4 ∷ []) ∷ []);
  covers = ((1000 ∷ 0 ∷ 0 ∷ []) ∷ (0 ∷ 0 ∷ 0 ∷ []) ∷ []);
}

-- 02, slip 6: two banks' orders with one TxId both end, and each inquiry repeats its own
abbrev pub shared_txid : Day
shared_txid = record {
  shows = "orders of two payers with one TxId, a yes to one and a no to the other";
  start = book_of (file_bytes (bank bic_a ∷ bank bic_b ∷ []) (direct bic_a 0 ∷ direct bic_b 1 ∷ []) []);
  tickets =
      (cover_in_ticket 0 bic_a 1000
      ∷ cover_in_ticket 1 bic_b 500
      ∷ order_ticket 5 bic_a bic_b 400 tx1 iban_d
      ∷ order_ticket 6 bic_b bic_a 300 tx1 iban_d
      ∷ yes_ticket 7 bic_b bic_a tx1
      ∷ no_ticket 8 bic_a bic_b tx1
      ∷ inquiry_ticket 9 bic_a bic_a tx1
      ∷ inquiry_ticket 10 bic_b bic_b tx1
      ∷ []);
  sums = ((1000 ∷ 0 ∷ 0 ∷ 0 ∷ 0 ∷ 400 ∷ 0 ∷ 0 ∷ []) ∷ (500 ∷ 0 ∷ 0 ∷ 0 ∷ 400 ∷ 0 ∷ 0 ∷ 0 ∷ []) ∷ []);
  orders = ((400 ∷ 5 ∷ 1 ∷ 0 ∷ 2 ∷ 2 ∷ 2 ∷ []) ∷ (300 ∷ 6 ∷ 1 ∷ 0 ∷ 3 ∷ 3 ∷ []) ∷ []);
  covers = ((600 ∷ 0 ∷ 0 ∷ []) ∷ (900 ∷ 0 ∷ 0 ∷ []) ∷ []);
}

-- two banks that wish an opening cover, one that doesn't, a linked system; two routes lead on to the second bank's
abbrev pub busy_file : List ℕ
busy_file =
    file_bytes
    (bank_opening bic_a 500 ∷ bank_opening bic_b 300 ∷ bank bic_c ∷ linked bic_l ∷ [])
    (direct bic_a 0
    ∷ direct bic_b 1
    ∷ direct bic_l 3
    ∷ onward bic_d 1
    ∷ onward bic_e 3
    ∷ [])
    []

-- a tick with a flag, at the last second of all
abbrev tick_with_flag : List ℕ
tick_with_flag =
    ticket_bytes (record { kind = kind_number Tick; flag = 1; time = 4294967295; amount = 0; sender = []; payee = []; txid = []; iban = [] })

-- All eleven kinds, and refusals 7, 11, 12, 13, 18, 19 and 21. At 26 an inquiry, at 29 a yes and at 125 a cover in of no participant come
-- in the very second of a time-out; a tick with a flag, refused by 7, is late enough for all and lets none expire.
abbrev pub busy_day : Day
busy_day = record {
  shows = "a busy day";
  start = book_of busy_file;
  tickets =
      (cover_in_ticket 0 bic_a 1000
      ∷ cover_in_ticket 1 bic_b 200
      ∷ cover_in_ticket 1 bic_z 5
      ∷ order_ticket 5 bic_a bic_b 400 tx1 iban_d
      ∷ order_ticket 5 bic_a bic_b 1 tx1 iban_d
      ∷ order_ticket 6 bic_a bic_d 100 tx2 iban_d
      ∷ order_ticket 7 bic_a bic_l 50 tx3 iban_d
      ∷ order_ticket 8 bic_b bic_a 150 tx4 iban_d
      ∷ order_ticket 9 bic_a bic_e 60 tx5 iban_d
      ∷ cut_ticket 3
      ∷ yes_ticket 10 bic_b bic_a tx1
      ∷ no_ticket 11 bic_a bic_b tx4
      ∷ recall_ticket 12 bic_a 1 bic_a tx1
      ∷ (1 ∷ 2 ∷ 3 ∷ [])
      ∷ return_ticket 13 bic_b 401 bic_a tx1
      ∷ return_ticket 14 bic_b 400 bic_a tx1
      ∷ order_ticket 14 bic_a bic_b 70 tx6 iban_d
      ∷ tick_with_flag
      ∷ inquiry_ticket 26 bic_a bic_a tx2
      ∷ inquiry_ticket 27 bic_a bic_a tx3
      ∷ yes_ticket 29 bic_b bic_a tx5
      ∷ yes_ticket 33 bic_b bic_a tx6
      ∷ recall_ticket 34 bic_a 1 bic_a tx6
      ∷ decline_ticket 35 bic_b 1 bic_a tx6
      ∷ inquiry_ticket 36 bic_a bic_a tx6
      ∷ cover_out_ticket 40 bic_b 20
      ∷ yes_ticket 100 bic_l bic_a tx3
      ∷ cut_ticket 101
      ∷ confirm_ticket 102 bic_a 379
      ∷ confirm_ticket 103 bic_a 380
      ∷ confirm_ticket 104 bic_b 40
      ∷ order_ticket 105 bic_b bic_a 90 tx7 iban_d
      ∷ tick_ticket 124
      ∷ cover_in_ticket 125 bic_z 5
      ∷ tick_ticket 125
      ∷ order_ticket 126 bic_a bic_b 5 tx8 iban_d
      ∷ []);
  sums = ((1000 ∷ 0 ∷ 0 ∷ 380 ∷ 0 ∷ 520 ∷ 0 ∷ 400 ∷ [])
      ∷ (200 ∷ 20 ∷ 40 ∷ 0 ∷ 470 ∷ 0 ∷ 400 ∷ 0 ∷ [])
      ∷ (0 ∷ 0 ∷ 0 ∷ 0 ∷ 0 ∷ 0 ∷ 0 ∷ 0 ∷ [])
      ∷ (0 ∷ 0 ∷ 0 ∷ 0 ∷ 50 ∷ 0 ∷ 0 ∷ 0 ∷ [])
      ∷ []);
  orders = ((400 ∷ 5 ∷ 1 ∷ 0 ∷ 2 ∷ 2 ∷ [])
      ∷ (100 ∷ 6 ∷ 1 ∷ 0 ∷ 4 ∷ 4 ∷ 4 ∷ [])
      ∷ (50 ∷ 7 ∷ 0 ∷ 0 ∷ 2 ∷ [])
      ∷ (150 ∷ 8 ∷ 1 ∷ 0 ∷ 3 ∷ [])
      ∷ (60 ∷ 9 ∷ 1 ∷ 0 ∷ 4 ∷ 4 ∷ [])
      ∷ (70 ∷ 14 ∷ 1 ∷ 0 ∷ 2 ∷ 2 ∷ 2 ∷ [])
      ∷ (90 ∷ 105 ∷ 1 ∷ 0 ∷ 4 ∷ 4 ∷ [])
      ∷ (5 ∷ 126 ∷ 1 ∷ 1 ∷ [])
      ∷ []);
  covers = ((495 ∷ 5 ∷ 0 ∷ [])
      ∷ (290 ∷ 0 ∷ 0 ∷ [])
      ∷ (0 ∷ 0 ∷ 0 ∷ [])
      ∷ (50 ∷ 0 ∷ 0 ∷ [])
      ∷ []);
}

pub case_d-right : IsRight case_d
unfolding is_bic is_iban is_txid reading day_file followed sender_in order_in route_in way_in any_open total tick step_of handed
case_d-right = (refl, refl, refl, claim-holds (seen_on case_d) (book_on case_d) refl)

pub case_e-right : IsRight case_e
unfolding is_bic is_iban is_txid reading day_file followed sender_in order_in route_in way_in any_open total tick step_of handed
case_e-right = (refl, refl, refl, claim-holds (seen_on case_e) (book_on case_e) refl)

pub shared_txid-right : IsRight shared_txid
unfolding is_bic is_iban is_txid reading day_file followed sender_in order_in route_in way_in any_open total tick step_of handed
shared_txid-right = (refl, refl, refl, claim-holds (seen_on shared_txid) (book_on shared_txid) refl)

pub busy_day-right : IsRight busy_day
unfolding is_bic is_iban is_txid reading day_file followed sender_in order_in route_in way_in any_open total tick step_of handed
busy_day-right = (refl, refl, refl, claim-holds (seen_on busy_day) (book_on busy_day) refl)
