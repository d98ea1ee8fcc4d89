-- What was found for a ticket, and the facts that it is judged on.
--     sought_route    the row of a payee BIC, where the kind asks for it
--     Sought          sender, order, route row and where that leads are what is sought in a book for a ticket
--     facts_by        the facts of a ticket and a book, from what was found
-- Assumes nothing.
use Rattle.std.specs.Prelude.{◌≡◌, ℕ, List, cond, false, Option, None}
use Rattle.fields.specs.Search.{number_of}
use Rattle.dayfile.specs.Route.{followed_from}
use Rattle.dayfile.specs.declared.route.Way.{Way}
use Rattle.rules.specs.Book.{order_of, cover_of, is_bank}
use Rattle.rules.specs.Cover.{total}
use Rattle.rules.specs.Find.{route_in, any_open}
use Rattle.rules.specs.Terms.{terms_of, opens_order}
use Rattle.rules.specs.declared.verdict.Facts.{Facts}
use Rattle.rules.specs.declared.Book.{Book}
use Rattle.course.specs.Seeking.{seeks_open, sought_sender, sought_order}
use Rattle.course.specs.declared.Entry.{Entry}
use Rattle.verdict.specs.Meaning.{about_of}

abbrev pub sought_route : Book → Entry → List ℕ → Option ℕ
sought_route b e t = cond (opens_order (terms_of e.kind).subject) (route_in b.roster t) None

pub record Sought (b : Book) (t : List ℕ) (e : Entry) (sender order route : Option ℕ) (way : Option Way) : Type 0 where
  pub sends : sender ≡ sought_sender b e t
  pub names : order ≡ sought_order b e t
  pub leads : route ≡ sought_route b e t
  pub follows : way ≡ followed_from b.roster route

abbrev pub facts_by : Book → Entry → Option ℕ → Option ℕ → Option ℕ → Option Way → Facts
facts_by b e sender order route way =
    let about = order_of b.orders (number_of order) in
    record {
      kind = e.kind;
      amount = e.amount;
      clock = b.clock;
      sender = sender;
      cover = cover_of b.covers (number_of sender);
      order = order;
      about = about_of about;
      bank = is_bank b.roster about.payee;
      route = route;
      way = way;
      count = b.count;
      unconfirmed = cond (seeks_open (terms_of e.kind).flow) (any_open b) false;
      total = total b;
    }
