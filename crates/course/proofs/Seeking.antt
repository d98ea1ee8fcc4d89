-- What the code finds is what is sought, field by field; expiries leave every order's key. Assumes nothing.
use Rattle.std.specs.Prelude.{Option, None}
use mathlib.Core.Path.{◌≡◌, refl, ◌∙◌, ap}
use mathlib.Core.Bool.{Bool, true, false, cond}
use mathlib.Core.List.{List}
use mathlib.Core.Logic.{⊎_elim}
use Prim.Native.Nat.{ℕ, zero, suc, ◌≤◌, ◌<◌}
use native.Mathlib.Omega.{arith}
use lib.ListN.{length}
use lib.Seq.{get_or-set_same, get_or-set_other}
use Rattle.fields.specs.Search.{number_of}
use Rattle.fields.specs.UpTo.{any_to}
use Rattle.ticket.specs.TicketLayout.{txid_field}
use Rattle.dayfile.specs.Route.{followed_from}
use Rattle.dayfile.specs.declared.roster.Roster.{Roster}
use Rattle.rules.specs.Book.{no_order, order_of, key_of, cover_of, is_bank}
use Rattle.rules.specs.Cover.{total_of, total}
use Rattle.rules.specs.Find.{route_in, way_in, is_open, any_open}
use Rattle.rules.specs.Tick.{due, sweep_to}
use Rattle.rules.specs.Sound.{Sound}
use Rattle.rules.specs.declared.finding.Finding.{Finding}
use Rattle.rules.specs.declared.Order.{Order}
use Rattle.rules.specs.declared.Book.{Book}
use Rattle.fields.proofs.Compared.{same_or_not}
use Rattle.rules.proofs.SweepSound.{swept}
use Rattle.course.specs.Expiry.{expires, stays, expiry_in}
use Rattle.course.specs.Seeking.{sought_sender, sought_order, sought}
use Rattle.course.specs.declared.Entry.{Entry}
use Rattle.course.proofs.Sweeping.{sweep-book}
use Rattle.dayfile.specs.declared.route.Way.{Way}

-- where the row leads, if it is sought
pub way-if : (r : Roster) (z : Bool) (t : List ℕ)
    → followed_from r (cond z (route_in r t) None) ≡ cond z (way_in r t) None
unfolding route_in way_in
way-if r true t = refl
way-if r false t = refl

pub open-sum : (b : Book) → any_to (λ p. is_open (cover_of b.covers p)) b.roster.size ≡ any_open b
unfolding any_open
open-sum b = refl

pub total-sum : (b : Book) → total_of b.roster.size b.covers ≡ total b
unfolding total
total-sum b = refl

-- an expiry leaves the order's key
expired-key : (b : Book) (i : ℕ) → key_of (expiry_in b i).order ≡ key_of (order_of b.orders i)
expired-key b i = go (due b.clock o (is_bank b.roster o.payee))
  where
    o : Order
    o = order_of b.orders i

    go : (d : Bool) → key_of (cond d (expires i o) (stays o)).order ≡ key_of o
    go true = refl
    go false = refl

-- and so do all
pub swept-key : (b : Book) → Sound b → (m : ℕ) → m ≤ b.count → (i : ℕ)
    → key_of (order_of (sweep_to b m).book.orders i) ≡ key_of (order_of b.orders i)
swept-key b s zero h i = refl
swept-key b s (suc m) h i =
    ap (λ (w : Book). key_of (order_of w.orders i)) (sweep-book (sweep_to b m) m)
    ∙ ⊎_elim
    (λ (e : i ≡ m). rw e (ap key_of (get_or-set_same c.orders m (expiry_in c m).order no_order long) ∙ expired-key c m))
    (λ (k : i ≡ m → ⊥). ap key_of (get_or-set_other c.orders m i (expiry_in c m).order no_order k))
    (same_or_not i m)
    ∙ swept-key b s m (omega arith) i
  where
    c : Book
    c = (sweep_to b m).book

    long : m < length c.orders
    long = let w = swept b s m (omega arith) in rw w.sound.orders.long (let l = s.orders.count in omega arith)

module _ (c : Book) (e : Entry) (t : List ℕ) where
  -- the finding, field by field
  pub made : (txid : List ℕ) (sender order : Option ℕ) (p i : ℕ) (bank : Bool) (route : Option ℕ) (way : Option Way)
      (unconfirmed : Bool) (total : ℕ)
      → txid ≡ txid_field t → sender ≡ sought_sender c e t → order ≡ sought_order c e t → p ≡ number_of sender → i ≡ number_of order
      → bank ≡ is_bank c.roster (order_of c.orders i).payee → route ≡ (sought c e t).route → way ≡ (sought c e t).way
      → unconfirmed ≡ (sought c e t).unconfirmed → total ≡ (sought c e t).total
      → ◌≡◌ {A = Finding}
      (record {
        kind = e.kind;
        amount = e.amount;
        clock = c.clock;
        txid = txid;
        sender = sender;
        cover = cover_of c.covers p;
        order = order;
        about = order_of c.orders i;
        bank = bank;
        route = route;
        way = way;
        count = c.count;
        unconfirmed = unconfirmed;
        total = total;
      }) (sought c e t)
  made txid sender order p i bank route way unconfirmed total is-txid is-sender is-order is-p is-i is-bank is-route
      is-way open-is is-total =
      λ j. record {
        kind = e.kind;
        amount = e.amount;
        clock = c.clock;
        txid = is-txid j;
        sender = is-sender j;
        cover = (ap (cover_of c.covers) (is-p ∙ ap number_of is-sender)) j;
        order = is-order j;
        about = (ap (order_of c.orders) (is-i ∙ ap number_of is-order)) j;
        bank = (is-bank ∙ ap (λ (k : ℕ). is_bank c.roster (order_of c.orders k).payee) (is-i ∙ ap number_of is-order)) j;
        route = is-route j;
        way = is-way j;
        count = c.count;
        unconfirmed = open-is j;
        total = is-total j;
      }
