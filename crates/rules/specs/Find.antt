-- What a book finds in a ticket. This is the one file of the rules that looks at a ticket's bytes. Refusals and steps are functions of
-- `finding` alone, so what names an order can change without them.
--     sender_in    the participant whose BIC the ticket's sender is
--     has_key      an order has a payer's BIC and a TxId
--     order_in     the order with the payer and the TxId that the ticket names
--     is_open      a cover has held or open debit
--     finding     all that refusals from 12 on and the ticket's own step look at; finding_of, with the order that was found
-- Assumes nothing.
use Rattle.std.specs.Prelude.{ℕ, Bool, ◌&&◌, ◌||◌, not, List, eqb, Option}
use Rattle.fields.specs.Text.{same}
use Rattle.fields.specs.UpTo.{any_to}
use Rattle.fields.specs.Search.{first_to, number_of}
use Rattle.ticket.specs.TicketLayout.{sender_of, payee_of, payer_of, txid_field}
use Rattle.ticket.specs.declared.Fields.{Fields}
use Rattle.dayfile.specs.Roster.{participant_of}
use Rattle.dayfile.specs.Route.{row_with, followed_bic}
use Rattle.dayfile.specs.declared.roster.Roster.{Roster}
use Rattle.rules.specs.Book.{order_of, cover_of, is_bank}
use Rattle.rules.specs.Cover.{total}
use Rattle.rules.specs.declared.finding.Finding.{Finding}
use Rattle.rules.specs.declared.Order.{Order}
use Rattle.rules.specs.declared.Cover.{Cover}
use Rattle.rules.specs.declared.Book.{Book}
use Rattle.dayfile.specs.declared.route.Way.{Way}

unfoldable pub sender_in : Roster → List ℕ → Option ℕ
sender_in r t = first_to (λ p. same (participant_of r p).bic (sender_of t)) r.size

-- 02, slip 6: the key of an order is payer and TxId together. Two well-formed TxIds are the same exactly where their padded bytes are
abbrev pub has_key : Roster → List ℕ → List ℕ → Order → Bool
has_key r payer txid o = same (participant_of r o.payer).bic payer && same o.txid txid

unfoldable pub order_in : Roster → List Order → ℕ → List ℕ → Option ℕ
order_in r os count t = first_to (λ i. has_key r (payer_of t) (txid_field t) (order_of os i)) count

-- the route row with the ticket's payee BIC, and where it leads
unfoldable pub route_in : Roster → List ℕ → Option ℕ
route_in r t = row_with r (payee_of t)

unfoldable pub way_in : Roster → List ℕ → Option Way
way_in r t = followed_bic r (payee_of t)

abbrev pub is_open : Cover → Bool
is_open c = not (eqb c.held 0) || not (eqb c.debit 0)

unfoldable pub any_open : Book → Bool
any_open b = any_to (λ p. is_open (cover_of b.covers p)) b.roster.size

-- where no participant or order is found, its cover or order is that of number 0, which nothing looks at then
abbrev pub finding_of : Option ℕ → Book → Fields → List ℕ → Finding
finding_of order b f t =
    let sender = sender_in b.roster t in
    let about = order_of b.orders (number_of order) in
    record {
      kind = f.kind;
      amount = f.amount;
      clock = b.clock;
      txid = txid_field t;
      sender = sender;
      cover = cover_of b.covers (number_of sender);
      order = order;
      about = about;
      bank = is_bank b.roster about.payee;
      route = route_in b.roster t;
      way = way_in b.roster t;
      count = b.count;
      unconfirmed = any_open b;
      total = total b;
    }

abbrev pub finding : Book → Fields → List ℕ → Finding
finding b f t = finding_of (order_in b.roster b.orders b.count t) b f t
