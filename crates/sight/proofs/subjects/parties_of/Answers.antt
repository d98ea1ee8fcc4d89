-- `sight::subjects::parties_of` meets its contract: each class finds what the ticket shows, and what was found is well formed.
-- Assumes nothing.
use Rattle.std.specs.Prelude.{Option, Some, Result}
use mathlib.Core.Path.{◌≡◌, refl, sym, ◌∙◌, ap}
use mathlib.Core.List.{List}
use Prim.Native.Nat.{ℕ}
use native.Mathlib.Omega.{arith}
use lib.Dec.{lit≤}
use lib.ListN.{length}
use Rattle.ticket.specs.TicketLayout.{ticket_length, sender_of, payee_of, payer_of, txid_field}
use Rattle.ticket.specs.declared.kinds.Kind.{Kind}
use Rattle.ticket.specs.declared.kinds.Kind.TheVariants.{Order}
use Rattle.rules.specs.declared.terms.Subject.{Subject}
use Rattle.rules.specs.declared.terms.Subject.TheVariants.{Sender, NewOrder, HeldOrder}
use Rattle.shapes.specs.Subject.{TicketNaming}
use Rattle.shapes.proofs.Forms.{only-order}
use Rattle.index.specs.RowChains.{first_with}
use Rattle.index.specs.Words.{Bytes, bic_words, key_words}
use Rattle.sight.specs.Sight.{sight_of}
use Rattle.sight.specs.Value.{formed_sight}
use Rattle.sight.specs.declared.Seen.{Seen}
use Rattle.sight.proofs.Knowing.{known-sender, known-payee, known-key, order-payer, about-payer}
use Rattle.sight.proofs.subjects.parties_of.Given.{Over}
use Rattle.sight.proofs.subjects.parties_of.Goals.{After-subject_of}
use Rattle.sight.proofs.subjects.parties_of.Goals as goal

module _ (g : Over) (c : After-subject_of g) where
  -- what was handed in, and what is found for it
  abbrev t : List ℕ
  t = c.args.t.now

  abbrev kind : Kind
  kind = c.args.kind

  abbrev sender : Option ℕ
  sender = first_with (bic_words (sender_of t)) c.args.bics.now

  abbrev order : Option ℕ
  order = first_with (key_words (payer_of t) (txid_field t)) c.args.keys.now

  abbrev route : Option ℕ
  route = first_with (bic_words (payee_of t)) c.args.routes.now

  whole : length t ≡ ticket_length
  whole = c.requires.0

  bytes : Bytes t
  bytes = record { below = λ i. let byte = c.type_inv.t i in omega arith }

  -- what its kind names
  naming : (s : Subject) → c.subject_of.result ≡ s → TicketNaming s kind t
  naming s e = record { whole = whole; kinds = c.requires.1; names = sym c.subject_of.ensures ∙ e }

  -- a new order's is that of an order
  is-order : c.subject_of.result ≡ NewOrder → kind ≡ Order
  is-order e = only-order kind (naming NewOrder e).names

  naming-order : c.subject_of.result ≡ NewOrder → TicketNaming NewOrder Order t
  naming-order e = record { whole = whole; kinds = (naming NewOrder e).kinds ∙ ap Some (is-order e); names = refl }

  -- the order, by the payer that the kind names
  by-payer : {payer : List ℕ} {f : Option ℕ} → payer_of t ≡ payer
      → f ≡ first_with (key_words payer (txid_field t)) c.args.keys.now → f ≡ order
  by-payer is e =
      e
      ∙ ap (λ (payer : List ℕ). first_with (key_words payer (txid_field t)) c.args.keys.now)
      (sym is)

  -- what a class sees by what was found
  sees : (clock : ℕ) {s o r : Option ℕ} {x : Result Seen ℕ} → x ≡ sight_of clock t s o r → s ≡ sender → o ≡ order → r ≡ route
      → x ≡ sight_of clock t sender order route
  sees clock {s} {o} {r} e e₁ e₂ e₃ =
      e
      ∙ ap (λ (f : Option ℕ). sight_of clock t f o r) e₁
      ∙ ap (λ (f : Option ℕ). sight_of clock t sender f r) e₂
      ∙ ap (λ (f : Option ℕ). sight_of clock t sender order f) e₃

-- a search for words is one for what they are the words of
searched : {f : Option ℕ} {ws words : List ℕ} (rows : List (List ℕ)) → f ≡ first_with ws rows → ws ≡ words → f ≡ first_with words rows
searched rows e is = e ∙ ap (λ (ws : List ℕ). first_with ws rows) is

pub cover-requires : goal.cover-requires
cover-requires g c =
    let s = (goal.at.cover-requires g c).After-subject_of in (
      naming g s Sender c.in-Sender.is,
      known-sender (t g s) (whole g s) (bytes g s) c.requires.2 _ (searched c.args.bics.now c.find-sender.ensures c.bic_words.ensures),
    )

pub order-requires : goal.order-requires
order-requires g c =
    let s = (goal.at.order-requires g c).After-subject_of in (
      naming-order g s c.in-NewOrder.is,
      known-sender (t g s) (whole g s) (bytes g s) c.requires.2 _ (searched c.args.bics.now c.find-sender-in-NewOrder.ensures c.bic_words-in-NewOrder.ensures),
      known-key (t g s) (whole g s) (bytes g s) c.requires.3 16 (lit≤ tt) _ (searched c.args.keys.now c.find-found.ensures c.key_words.ensures),
      known-payee (t g s) (whole g s) (bytes g s) c.requires.4 _ (searched c.args.routes.now c.find-route.ensures c.bic_words-in-NewOrder-2.ensures),
    )

pub about-requires : goal.about-requires
about-requires g c =
    let s = (goal.at.about-requires g c).After-subject_of in (
      naming g s HeldOrder c.in-HeldOrder.is,
      known-sender (t g s) (whole g s) (bytes g s) c.requires.2 _ (searched c.args.bics.now c.find-sender-in-HeldOrder.ensures c.bic_words-in-HeldOrder.ensures),
      known-key (t g s) (whole g s) (bytes g s) c.requires.3 27 (lit≤ tt) _ (searched c.args.keys.now c.find-found-in-HeldOrder.ensures c.key_words-in-HeldOrder.ensures),
    )

-- what each class sees
pub returns-in-Nothing : goal.returns-in-Nothing
returns-in-Nothing g c clock =
    let s = (goal.at.returns-in-Nothing g c).After-subject_of in
    c.nothing.ensures clock (sender g s) (order g s) (route g s)

pub returns-in-Sender : goal.returns-in-Sender
returns-in-Sender g c clock =
    let s = (goal.at.returns-in-Sender g c).After-subject_of in
    sees g s clock (c.cover.ensures clock (order g s) (route g s)) (searched c.args.bics.now c.find-sender.ensures c.bic_words.ensures) refl refl

pub returns-in-NewOrder : goal.returns-in-NewOrder
returns-in-NewOrder g c clock =
    let s = (goal.at.returns-in-NewOrder g c).After-subject_of in
    ap (λ (k : Kind). formed_sight clock (t g s) k c.order.result) (is-order g s c.in-NewOrder.is)
    ∙ sees g s clock (c.order.ensures clock) (searched c.args.bics.now c.find-sender-in-NewOrder.ensures c.bic_words-in-NewOrder.ensures)
    (by-payer g s (order-payer (t g s) (naming-order g s c.in-NewOrder.is)) (searched c.args.keys.now c.find-found.ensures c.key_words.ensures))
    (searched c.args.routes.now c.find-route.ensures c.bic_words-in-NewOrder-2.ensures)

pub returns-in-HeldOrder : goal.returns-in-HeldOrder
returns-in-HeldOrder g c clock =
    let s = (goal.at.returns-in-HeldOrder g c).After-subject_of in
    sees g s clock (c.about.ensures clock (route g s)) (searched c.args.bics.now c.find-sender-in-HeldOrder.ensures c.bic_words-in-HeldOrder.ensures)
    (by-payer g s (about-payer (kind g s) (t g s) (naming g s HeldOrder c.in-HeldOrder.is))
    (searched c.args.keys.now c.find-found-in-HeldOrder.ensures c.key_words-in-HeldOrder.ensures))
    refl
