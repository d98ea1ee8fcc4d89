-- The facts that a ticket is judged on: sender, order and route row are found before the expiries, all else in the book after them. They
-- are those of what is sought in the book after them. Assumes nothing.
--     sought-after                    what is sought before the expiries is what is sought after them
--     sender-in, order-in             the numbers of sender and order are in range
--     facts-are                       the facts; way-is, number_is: the way and the order's number
--     new-order                       the order that a ticket opens
--     payer-long                      who opens it has a BIC of 11 characters
use Rattle.std.specs.Prelude.{Option, None}
use mathlib.Core.Path.{◌≡◌, refl, sym, ◌∙◌, ap, ap₂}
use mathlib.Core.Logic.{⊎_elim}
use mathlib.Core.Bool.{Bool, false, ◌&&◌, cond}
use mathlib.Core.List.{List}
use Prim.Native.Nat.{ℕ, ◌≤◌, ◌<◌}
use native.Mathlib.Omega.{arith}
use lib.ListN.{length}
use Rattle.fields.specs.Search.{number_of, first_to}
use Rattle.fields.specs.Text.{same}
use Rattle.fields.proofs.Compared.{below_or_not}
use Rattle.fields.proofs.Finding.{first-same}
use Rattle.codes.proofs.WholeCodes.{bic-length}
use Rattle.ticket.specs.TicketLayout.{payer_of, txid_field}
use Rattle.dayfile.specs.FileLimits.{most_participants}
use Rattle.dayfile.specs.Guarantee.{Guaranteed}
use Rattle.dayfile.specs.Roster.{participant_of}
use Rattle.dayfile.specs.Route.{reached, followed_from}
use Rattle.dayfile.specs.declared.roster.Roster.{Roster}
use Rattle.dayfile.specs.declared.route.Way.{Way}
use Rattle.rules.specs.Book.{most_orders, order_of, key_of, is_bank}
use Rattle.rules.specs.Cover.{total}
use Rattle.rules.specs.Find.{sender_in, order_in, route_in, any_open}
use Rattle.rules.specs.Terms.{terms_of, names_sender, opens_order}
use Rattle.rules.specs.Decision.{new_order}
use Rattle.rules.specs.Sound.{Sound}
use Rattle.rules.specs.declared.Status.TheVariants.{Waiting}
use Rattle.rules.specs.declared.Order.{Order}
use Rattle.rules.specs.declared.Book.{Book}
use Rattle.course.specs.Seeking.{seeks_order, seeks_open, sought_sender, sought_order, sought}
use Rattle.course.specs.declared.Entry.{Entry}
use Rattle.course.proofs.Seeking.{way-if, made}
use Rattle.course.proofs.SoughtFitting.{sought-sender-below, sought-order-below}
use Rattle.verdict.specs.Meaning.{facts_of}
use Rattle.turns.specs.Facts.{sought_route, Sought, facts_by}
use Rattle.turns.specs.Turn.{Expired}
use Rattle.turns.proofs.Turn.{after-count, after-roster, after-key}

module _ {b : Book} {t : List ℕ} {e : Entry} {c : Book} (w : Expired b t e c) where
  sender-same : sought_sender b e t ≡ sought_sender c e t
  sender-same = ap (λ (r : Roster). cond (names_sender (terms_of e.kind).subject) (sender_in r t) None) (sym (after-roster w))

  route-same : sought_route b e t ≡ sought_route c e t
  route-same = ap (λ (r : Roster). cond (opens_order (terms_of e.kind).subject) (route_in r t) None) (sym (after-roster w))

  found-same : order_in b.roster b.orders b.count t ≡ order_in c.roster c.orders c.count t
  unfolding order_in
  found-same =
      first-same (λ i. named b.roster (key_of (order_of b.orders i))) (λ i. named b.roster (key_of (order_of c.orders i)))
      b.count (λ i l. ap (named b.roster) (sym (after-key w i)))
      ∙ ap₂ (λ (r : Roster). first_to (λ i. named r (key_of (order_of c.orders i)))) (sym (after-roster w)) (sym (after-count w))
    where
      -- whether the ticket names an order with this key
      named : Roster → ℕ × List ℕ → Bool
      named r key = same (participant_of r key.0).bic (payer_of t) && same key.1 (txid_field t)

  order_same : sought_order b e t ≡ sought_order c e t
  order_same = ap (λ (x : Option ℕ). cond (seeks_order (terms_of e.kind).subject) x None) found-same

  pub sought-after : {sender order route : Option ℕ} {way : Option Way} → Sought b t e sender order route way
      → Sought c t e sender order route way
  sought-after {route = route} f =
      record {
        sends = f.sends ∙ sender-same;
        names = f.names ∙ order_same;
        leads = f.leads ∙ route-same;
        follows = f.follows ∙ ap (λ (r : Roster). followed_from r route) (sym (after-roster w));
      }

-- any participant, in use or not, has a BIC of 11 characters
pub payer-long : (r : Roster) → Guaranteed r → (p : ℕ) → p < most_participants → length (participant_of r p).bic ≡ 11
payer-long r g p l =
    ⊎_elim
    (λ (h : p < r.size). bic-length _ (g.bic p h))
    (λ (h : r.size ≤ p). rw (g.unused p h l) refl)
    (below_or_not p r.size)

module _ {c : Book} (s : Sound c) {t : List ℕ} {e : Entry} {sender order route : Option ℕ} {way : Option Way}
    (f : Sought c t e sender order route way) where
  -- which order the ticket is about
  pub number_is : number_of order ≡ number_of (sought_order c e t)
  number_is = ap number_of f.names

  pub sender-in : number_of sender < most_participants
  sender-in = let q = ap number_of f.sends in let h = sought-sender-below c s e t in omega arith

  pub order-in : number_of order < most_orders
  order-in = let q = number_is in let h = sought-order-below c s e t in omega arith

  pub way-is : way ≡ (sought c e t).way
  way-is = f.follows ∙ ap (followed_from c.roster) f.leads ∙ way-if c.roster (opens_order (terms_of e.kind).subject) t

  pub facts-are : facts_by c e sender order route way ≡ facts_of (sought c e t)
  facts-are =
      ap facts_of
      (made c e t (txid_field t) sender order (number_of sender) (number_of order)
      (is_bank c.roster (order_of c.orders (number_of order)).payee) route way
      (cond (seeks_open (terms_of e.kind).flow) (any_open c) false) (total c) refl f.sends f.names refl refl refl f.leads way-is refl refl)

  -- the order that a ticket opens
  pub new-order : {txid : List ℕ} → txid ≡ txid_field t
      → ◌≡◌ {A = Order}
      (record {
        txid = txid;
        payer = number_of sender;
        payee = reached way;
        amount = e.amount;
        time = c.clock;
        status = Waiting;
      })
      (new_order (sought c e t))
  new-order is-txid =
      λ j. record {
        txid = is-txid j;
        payer = number_of (f.sends j);
        payee = ap reached way-is j;
        amount = e.amount;
        time = c.clock;
        status = Waiting;
      }
