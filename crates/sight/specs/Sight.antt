-- What is seen of a ticket before the clock moves: the refusal by 7 to 11, or its kind, time and amount with what its kind asks for of
-- sender, order and route. These are given by whoever searches.
--     seen_as          of a ticket that passes
--     sight_by         refused by a number, or what is seen where it is 0
--     sight_of         of any ticket
-- Assumes nothing.
use Rattle.std.specs.Prelude.{ℕ, cond, List, eqb, Option, Result, Ok, Err}
use Rattle.rules.specs.Terms.{terms_of, names_sender, opens_order}
use Rattle.course.specs.Entry.{entry_of}
use Rattle.course.specs.Seeking.{if, seeks_order}
use Rattle.course.specs.declared.Entry.{Entry}
use Rattle.sight.specs.declared.Seen.{Seen}

abbrev pub seen_as : Entry → Option ℕ → Option ℕ → Option ℕ → Seen
seen_as e sender order route =
    let subject = (terms_of e.kind).subject in
    record {
      kind = e.kind;
      time = e.time;
      amount = e.amount;
      sender = if (names_sender subject) sender;
      order = if (seeks_order subject) order;
      route = if (opens_order subject) route;
    }

abbrev pub sight_by : ℕ → Seen → Result Seen ℕ
sight_by n seen = cond (eqb n 0) (Ok seen) (Err n)

abbrev pub sight_as : Entry → Option ℕ → Option ℕ → Option ℕ → Result Seen ℕ
sight_as e sender order route = sight_by e.refusal (seen_as e sender order route)

abbrev pub sight_of : ℕ → List ℕ → Option ℕ → Option ℕ → Option ℕ → Result Seen ℕ
sight_of clock t sender order route = sight_as (entry_of clock t) sender order route
