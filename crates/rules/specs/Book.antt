-- The book: 01 'The book and each ticket's step', first paragraph.
--     order_of, cover_of    order number i, the cover of participant p; the zero of their type past the end
--     key_of               payer and TxId of an order
--     with_covers          a book with other covers
--     fresh_book           a book with a roster, all zero and no orders
--     book_of              the fresh book that a day file gives; the empty book of a refused one has no participants
--     is_bank              participant p is a bank, and no linked system
-- Assumes nothing.
use Rattle.std.specs.Prelude.{ℕ, Bool, List, [], get_or, replicate}
use Rattle.dayfile.specs.FileLimits.{most_participants}
use Rattle.dayfile.specs.DayFile.{day_file}
use Rattle.dayfile.specs.Roster.{participant_of, bank_kind}
use Rattle.dayfile.specs.declared.roster.Roster.{Roster}
use Rattle.rules.specs.declared.Status.TheVariants.{Waiting}
use Rattle.rules.specs.declared.Order.{Order}
use Rattle.rules.specs.declared.Cover.{Cover}
use Rattle.rules.specs.declared.Book.{Book}

-- 01: at most 256 orders (house)
abbrev pub most_orders : ℕ
most_orders = 256

abbrev pub no_order : Order
no_order = record { txid = []; payer = 0; payee = 0; amount = 0; time = 0; status = Waiting }

abbrev pub no_cover : Cover
no_cover = record { available = 0; reserved = 0; held = 0; debit = 0 }

abbrev pub order_of : List Order → ℕ → Order
order_of os i = get_or os i no_order

-- 02, slip 6: the key of an order is payer and TxId together
abbrev pub key_of : Order → ℕ × List ℕ
key_of o = (o.payer, o.txid)

abbrev pub cover_of : List Cover → ℕ → Cover
cover_of cs p = get_or cs p no_cover

abbrev pub with_covers : Book → List Cover → Book
with_covers b cs = record { clock = b.clock; covers = cs; orders = b.orders; count = b.count; roster = b.roster }

-- what an order slot holds that is not in use
abbrev pub unused_order : Order
unused_order = record { txid = replicate 35 0; payer = 0; payee = 0; amount = 0; time = 0; status = Waiting }

-- a fresh book has all zero and no orders
abbrev pub fresh_book : Roster → Book
fresh_book roster =
    record { clock = 0; covers = replicate most_participants no_cover; orders = replicate most_orders unused_order; count = 0; roster = roster }

abbrev pub book_of : List ℕ → Book
book_of file = fresh_book (day_file file).roster

abbrev pub is_bank : Roster → ℕ → Bool
is_bank r p = bank_kind (participant_of r p).kind
