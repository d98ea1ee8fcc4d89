-- What is searched: the index of keys may be lent to a search, and what is found among rows of words is what is found in the book.
-- Assumes nothing.
use Rattle.std.specs.Prelude.{◌≡◌, ℕ, ◌<◌, Bool, true, false, cond, ◌&&◌, eqb, List, length}
use mathlib.Core.Path.{sym, ◌∙◌, ap, subst}
use native.Mathlib.Nat.{lt_trans}
use native.Mathlib.Omega.{arith}
use Rattle.fields.specs.Text.{same}
use Rattle.fields.specs.Search.{first_to}
use Rattle.index.specs.RowChains.{first_with}
use Rattle.fields.proofs.Stores.{length_part}
use Rattle.fields.proofs.Same.{same_refl}
use Rattle.codes.specs.Bic.{is_bic}
use Rattle.ticket.specs.TicketLayout.{kind_byte, sender_of, payee_of, payer_of, txid_field}
use Rattle.dayfile.specs.Roster.{participant_in, participant_of, row_of}
use Rattle.dayfile.specs.Route.{has_bic}
use Rattle.dayfile.specs.Guarantee.{Guaranteed}
use Rattle.dayfile.specs.declared.roster.Roster.{Roster}
use Rattle.dayfile.proofs.Arriving.{rows_in_lem}
use Rattle.rules.specs.Book.{order_of}
use Rattle.rules.specs.Find.{sender_in, order_in, route_in}
use Rattle.rules.specs.Sound.{Sound}
use Rattle.rules.specs.declared.Book.{Book}
use Rattle.rules.proofs.Senders.{swapped, who-sends}
use Rattle.index.specs.Words.{Bytes, bic_words, key_words}
use Rattle.index.specs.LentRows.{KeyRows}
use Rattle.index.proofs.Comparing.{part_bytes}
use Rattle.index.proofs.LentRows.{bic-found, key-found, key-rows}
use Rattle.sight.specs.Sight.{sight_of}
use Rattle.turns.specs.Index.{KeyIndex}
use Rattle.engine.specs.Directory.{Directs}
use Rattle.engine.specs.Turns.{words_in}
use Rattle.engine.specs.declared.directory.Directory.{Directory}

-- two participants have one BIC exactly where they are one
one-bic : (r : Roster) → Guaranteed r → (p q : ℕ) → p < r.size → q < r.size
    → same (participant_of r p).bic (participant_of r q).bic ≡ eqb p q
one-bic r g p q l m =
    who-sends r g (participant_of r q).bic q (record { below = m; passes = same_refl (participant_of r q).bic }) p l ∙ swapped q p

-- the index may be lent
module _ {b : Book} {keys : List (List ℕ)} (s : Sound b) (f : KeyIndex (words_in b.roster) b keys) where
  abbrev bic : ℕ → List ℕ
  bic i = (participant_of b.roster (order_of b.orders i).payer).bic

  abbrev txid : ℕ → List ℕ
  txid i = (order_of b.orders i).txid

  payers-bic : (i : ℕ) → i < b.count → is_bic (bic i) ≡ true
  payers-bic i l = s.roster.bic (order_of b.orders i).payer (s.orders.payer i l)

  differ : (i j : ℕ) → i < j → j < b.count → (same (bic i) (bic j) && same (txid i) (txid j)) ≡ false
  differ i j l k =
      ap (λ (x : Bool). x && same (txid i) (txid j))
      (one-bic b.roster s.roster (order_of b.orders i).payer (order_of b.orders j).payer (s.orders.payer i (lt_trans l k))
      (s.orders.payer j k))
      ∙ s.orders.distinct i j l k

  pub keys-lent : KeyRows keys
  keys-lent =
      subst KeyRows (sym f.keys) (key-rows bic txid b.count payers-bic s.orders.padded s.orders.txid differ)

  -- what is found among the keys is what is found in the book
  order-found : (t : List ℕ) → length t ≡ 108 → Bytes t
      → first_with (key_words (payer_of t) (txid_field t)) keys ≡ order_in b.roster b.orders b.count t
  unfolding order_in
  order-found t whole bytes =
      ap (first_with (key_words (payer_of t) (txid_field t))) f.keys
      ∙ key-found bic txid b.count payers-bic s.orders.padded s.orders.txid (payer_of t) (txid_field t)
      (payer-long (eqb (kind_byte t) 3)) (length_part 35 38 t (rw whole (omega arith))) (payer-bytes (eqb (kind_byte t) 3))
      (part_bytes bytes 35 38)
    where
      payer-long : (z : Bool) → length (cond z (sender_of t) (payee_of t)) ≡ 11
      payer-long true = length_part 11 16 t (rw whole (omega arith))
      payer-long false = length_part 11 27 t (rw whole (omega arith))

      payer-bytes : (z : Bool) → Bytes (cond z (sender_of t) (payee_of t))
      payer-bytes true = part_bytes bytes 11 16
      payer-bytes false = part_bytes bytes 11 27

module _ {r : Roster} {y : Directory} (g : Guaranteed r) (d : Directs r y) (t : List ℕ)
    (whole : length t ≡ 108) (bytes : Bytes t) where
  sender-found : first_with (bic_words (sender_of t)) y.bics ≡ sender_in r t
  unfolding sender_in
  sender-found =
      ap (first_with (bic_words (sender_of t))) d.sender
      ∙ bic-found (λ p. (participant_in r.participants p).bic) r.size g.bic (sender_of t)
      (length_part 11 16 t (rw whole (omega arith)))
      (part_bytes bytes 11 16)

  route-found : first_with (bic_words (payee_of t)) y.routes ≡ route_in r t
  unfolding route_in
  route-found =
      ap (first_with (bic_words (payee_of t))) d.payee
      ∙ bic-found (λ i. (row_of r.routes i).bic) r.rows g.route_bic (payee_of t) (length_part 11 27 t (rw whole (omega arith)))
      (part_bytes bytes 11 27)
      ∙ ap (first_to (has_bic r.routes (payee_of t))) (sym (rows_in_lem r g.rows))

  pub all_found : {b : Book} {keys : List (List ℕ)} → Sound b → KeyIndex (words_in b.roster) b keys
      → b.roster ≡ r
      → sight_of b.clock t (first_with (bic_words (sender_of t)) y.bics)
      (first_with (key_words (payer_of t) (txid_field t)) keys) (first_with (bic_words (payee_of t)) y.routes)
      ≡ sight_of b.clock t (sender_in b.roster t) (order_in b.roster b.orders b.count t) (route_in b.roster t)
  all_found {b} s f ours =
      λ i. sight_of b.clock t ((sender-found ∙ ap (λ (x : Roster). sender_in x t) (sym ours)) i) (order-found s f t whole bytes i)
      ((route-found ∙ ap (λ (x : Roster). route_in x t) (sym ours)) i)
