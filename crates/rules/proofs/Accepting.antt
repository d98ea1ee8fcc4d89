-- What an accepted ticket has: its sender, the order that it is about, its party, status, amount, cover. Assumes nothing.
use Rattle.std.specs.Prelude.{is_some}
use mathlib.Core.Path.{◌≡◌}
use mathlib.Core.Bool.{Bool, true, false, ◌&&◌, not}
use mathlib.Core.List.{List}
use Prim.Native.Nat.{ℕ, ◌+◌, ◌≤◌, ◌<◌}
use borrow.Author.Tests.{ltb-false, leb-false, eqb-true, not-false}
use lib.Dec.{leb, ltb, eqb}
use Rattle.fields.specs.Text.{same}
use Rattle.fields.specs.Search.{number_of}
use Rattle.fields.proofs.Finding.{FoundAt, found_at, not_found}
use Rattle.ticket.specs.TicketLayout.{sender_of, payee_of, payer_of, txid_field}
use Rattle.ticket.specs.declared.Fields.{Fields}
use Rattle.ticket.specs.declared.kinds.Kind.{Kind}
use Rattle.dayfile.specs.Roster.{participant_of}
use Rattle.dayfile.specs.Route.{reached}
use Rattle.dayfile.specs.Guarantee.{Guaranteed}
use Rattle.dayfile.proofs.Arriving.{bic-arrives}
use Rattle.rules.specs.Book.{most_orders, order_of, cover_of}
use Rattle.rules.specs.Cover.{total, most_total}
use Rattle.rules.specs.Find.{sender_in, has_key, order_in, route_in, way_in, finding}
use Rattle.rules.specs.Terms.{terms_of, names_sender, opens_order, names_order, party_of, meets, draws}
use Rattle.rules.specs.Refusal.{
  brings_cover,
  refusal12,
  refusal13,
  refusal14,
  refusal15,
  refusal16,
  refusal17,
  refusal18,
  refusal19,
  refusal20,
  refusal22,
}
use Rattle.rules.specs.declared.terms.Terms.{Terms}
use Rattle.rules.specs.declared.Order.{Order}
use Rattle.rules.specs.declared.Book.{Book}

-- the second of two tests failed, the first having passed
second : (a c : Bool) → (a && c) ≡ false → a ≡ true → c ≡ false
second true c e a = e
second false c e a = cc

-- the fields of a ticket of a kind
abbrev pub fields_of : Kind → ℕ → ℕ → Fields
fields_of k time n = record { kind = k; time = time; amount = n }

module _ (b : Book) (f : Fields) (t : List ℕ) where
  abbrev terms : Terms
  terms = terms_of f.kind

  -- the participant that sends it, and the order with the payer and the TxId that it names
  abbrev pub sender_number : ℕ
  sender_number = number_of (sender_in b.roster t)

  abbrev pub order_number : ℕ
  order_number = number_of (order_in b.roster b.orders b.count t)

  abbrev pub is_named : ℕ → Bool
  is_named i = has_key b.roster (payer_of t) (txid_field t) (order_of b.orders i)

  abbrev pub the_order : Order
  the_order = order_of b.orders order_number

  -- 12 passed
  pub sender-found : refusal12 (finding b f t) ≡ false → names_sender terms.subject ≡ true
      → FoundAt (λ p. same (participant_of b.roster p).bic (sender_of t)) b.roster.size sender_number
  unfolding sender_in
  sender-found e named =
      found_at (λ p. same (participant_of b.roster p).bic (sender_of t)) b.roster.size
      (not-false _ (second (names_sender terms.subject) (not (is_some (sender_in b.roster t))) e named))

  -- 13 passed
  pub key-free : refusal13 (finding b f t) ≡ false → opens_order terms.subject ≡ true → (i : ℕ) → i < b.count → is_named i ≡ false
  unfolding order_in
  key-free e opens =
      not_found is_named b.count
      (second (opens_order terms.subject) (is_some (order_in b.roster b.orders b.count t)) e opens)

  -- 14 passed
  pub payee-known : Guaranteed b.roster → refusal14 (finding b f t) ≡ false → opens_order terms.subject ≡ true
      → reached (way_in b.roster t) < b.roster.size
  unfolding route_in way_in
  payee-known g e opens =
      let a = bic-arrives b.roster g (payee_of t)
      (not-false _ (second (opens_order terms.subject) (not (is_some (route_in b.roster t))) e opens)) in
      rw a.is a.known

  -- 15 passed
  pub order-room : refusal15 (finding b f t) ≡ false → opens_order terms.subject ≡ true → b.count < most_orders
  order-room e opens = leb-false most_orders b.count (second (opens_order terms.subject) (leb most_orders b.count) e opens)

  -- 16 passed
  pub order-found : refusal16 (finding b f t) ≡ false → names_order terms.subject ≡ true
      → FoundAt is_named b.count order_number
  unfolding order_in
  order-found e named =
      found_at is_named b.count
      (not-false _ (second (names_order terms.subject) (not (is_some (order_in b.roster b.orders b.count t))) e named))

  -- 17 passed
  pub right-party : refusal17 (finding b f t) ≡ false → names_order terms.subject ≡ true → sender_number ≡ party_of terms.party the_order
  right-party e named =
      eqb-true _ _ (not-false _ (second (names_order terms.subject) (not (eqb sender_number (party_of terms.party the_order))) e named))

  -- 18 passed
  pub status-meets : refusal18 (finding b f t) ≡ false → meets terms.needs the_order.status ≡ true
  status-meets e = not-false _ e

  -- 19 passed
  pub order-covers : refusal19 (finding b f t) ≡ false → terms.within ≡ true → f.amount ≤ the_order.amount
  order-covers e is = ltb-false _ _ (second terms.within (ltb the_order.amount f.amount) e is)

  -- 20 passed
  pub cover-there : refusal20 (finding b f t) ≡ false → draws terms.flow ≡ true → f.amount ≤ (cover_of b.covers sender_number).available
  cover-there e is = ltb-false _ _ (second (draws terms.flow) (ltb (cover_of b.covers sender_number).available f.amount) e is)

  -- 22 passed
  pub limit-kept : refusal22 (finding b f t) ≡ false → brings_cover terms.flow (cover_of b.covers sender_number) ≡ true
      → total b + f.amount ≤ most_total
  limit-kept e is =
      ltb-false _ _ (second (brings_cover terms.flow (cover_of b.covers sender_number)) (ltb most_total (total b + f.amount)) e is)
