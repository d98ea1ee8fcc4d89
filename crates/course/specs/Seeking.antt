-- What is sought in the book for a ticket: of the finding, only what its kind looks at. Participants only where a sender is named, orders
-- only for kinds 3 to 8, routes only for an order, held and open debit anywhere only for a cut. Refusals and steps are the same on it as
-- on `finding` (`sought-refuses`, `sought-decides`).
--     seeks_order    the kind looks at the order with the payer and the TxId that it names
--     seeks_open     it looks for held and open debit anywhere
--     sought        the finding; what the kind does not look at is nothing, number 0 or false
-- Assumes nothing.
use Rattle.std.specs.Prelude.{ℕ, Bool, true, false, ◌||◌, cond, List, Option, None}
use Rattle.fields.specs.Search.{number_of}
use Rattle.ticket.specs.TicketLayout.{txid_field}
use Rattle.rules.specs.Book.{order_of, cover_of, is_bank}
use Rattle.rules.specs.Cover.{total}
use Rattle.rules.specs.Find.{sender_in, order_in, route_in, way_in, any_open}
use Rattle.rules.specs.Terms.{terms_of, names_sender, opens_order, names_order}
use Rattle.rules.specs.declared.terms.Subject.{Subject}
use Rattle.rules.specs.declared.terms.Flow.{Flow}
use Rattle.rules.specs.declared.terms.Flow.TheVariants as flow
use Rattle.rules.specs.declared.finding.Finding.{Finding}
use Rattle.rules.specs.declared.Book.{Book}
use Rattle.course.specs.declared.Entry.{Entry}

abbrev pub seeks_order : Subject → Bool
seeks_order s = opens_order s || names_order s

abbrev pub seeks_open : Flow → Bool
seeks_open flow.Nothing = false
seeks_open flow.Brings = false
seeks_open flow.Draws = false
seeks_open flow.Cuts = true
seeks_open flow.Confirms = false

-- what is found, if it is sought
abbrev pub if : Bool → Option ℕ → Option ℕ
if looks found = cond looks found None

abbrev pub sought_sender : Book → Entry → List ℕ → Option ℕ
sought_sender b e t = if (names_sender (terms_of e.kind).subject) (sender_in b.roster t)

abbrev pub sought_order : Book → Entry → List ℕ → Option ℕ
sought_order b e t = if (seeks_order (terms_of e.kind).subject) (order_in b.roster b.orders b.count t)

abbrev pub sought : Book → Entry → List ℕ → Finding
sought b e t =
    let terms = terms_of e.kind in
    let sender = sought_sender b e t in
    let order = sought_order b e t in
    let about = order_of b.orders (number_of order) in
    record {
      kind = e.kind;
      amount = e.amount;
      clock = b.clock;
      txid = txid_field t;
      sender = sender;
      cover = cover_of b.covers (number_of sender);
      order = order;
      about = about;
      bank = is_bank b.roster about.payee;
      route = if (opens_order terms.subject) (route_in b.roster t);
      way = cond (opens_order terms.subject) (way_in b.roster t) None;
      count = b.count;
      unconfirmed = cond (seeks_open terms.flow) (any_open b) false;
      total = total b;
    }
