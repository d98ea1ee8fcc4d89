-- Where a history starts from the fresh book of a day file, the claim says what `ClaimOfEvents` says of the events alone.
--     on_fresh         events, newest first, since the fresh book
--     to-events       the claim of events follows from the claim
--     from-events     and the other way round
--     events-demand3  so demand 3 is of events alone
-- Assumes nothing.
use mathlib.Core.Path.{◌≡◌, refl, sym, subst, ◌∙◌, ap, ap₂}
use mathlib.Core.Bool.{Bool, true, false, ◌&&◌, cond}
use mathlib.Core.List.{List, [], ◌∷◌, ◌++◌}
use Prim.Native.Nat.{ℕ, ◌+◌, ◌-◌, ◌≤◌, ◌<◌}
use native.Mathlib.Omega.{arith}
use borrow.Author.Tests.{le-ltb}
use lib.Dec.{leb, ltb, eqb}
use lib.ListN.{length, get_or-replicate}
use Rattle.fields.specs.Text.{unpadded, same}
use Rattle.fields.specs.UpTo.{sum_to}
use Rattle.fields.proofs.UpTo.{sum_same}
use Rattle.ticket.specs.TicketLayout.{amount_of, time_of, sender_of, payer_of, txid_of}
use Rattle.report.specs.Ending.{endings_in}
use Rattle.report.specs.declared.Report.{Report}
use Rattle.dayfile.specs.FileLimits.{most_participants}
use Rattle.dayfile.specs.Roster.{participant_of}
use Rattle.dayfile.specs.declared.roster.Roster.{Roster}
use Rattle.rules.specs.Book.{no_cover, cover_of, book_of}
use Rattle.rules.specs.Cover.{whole}
use Rattle.rules.specs.Inputs.{Input, Seen, seen_from, book_from}
use Rattle.rules.specs.declared.Order.{Order}
use Rattle.rules.specs.declared.Book.{Book}
use Rattle.rules.proofs.StepSound.{file-sound}
use Rattle.audit.specs.History.{Event, History, from, ◌▹◌, participants, Each, sum_over, is_kind, is_sent_by, is_bank_of}
use Rattle.audit.specs.Sums.{
  first_with,
  amount_if,
  cover_in,
  cover_out,
  cut_before,
  last_cut_in,
  last_cut,
  settled_to,
  settled_from,
  return_by,
  return_to,
  goes_out,
  comes_in,
  outgoing,
  incoming,
}
use Rattle.audit.specs.Orders.{is_order, order_count, of_order, order_amount, order_time, to_bank, start_endings, all_endings, is_none, waits, waiting_part, waiting_total, is_first4, lets_expire, sets_clock, must_expire, order_txid, asks_about, own_endings, ending_tickets, tells_parties}
use Rattle.audit.specs.Claim.{AllCarry, code_of, ClaimOf, Claim}
use Rattle.audit.specs.Run.{event_of, events_on}
use Rattle.audit.proofs.Nothing as alone
use Rattle.audit.proofs.Nothing.{roster_in, ClaimOfEvents}
use Rattle.audit.proofs.Theorem.{demand3}

module _ (file : List ℕ) where
  abbrev pub on_fresh : List Event → History
  on_fresh [] = from (book_of file)
  on_fresh (e ∷ es) = e ▹ on_fresh es

  abbrev ps : Roster
  ps = roster_in file

  same-participants : (es : List Event) → participants (on_fresh es) ≡ ps
  same-participants [] = refl
  same-participants (e ∷ es) = same-participants es

  -- the definitions that go by the events one by one
  same_count : (es : List Event) → order_count (on_fresh es) ≡ alone.order_count es
  same_count [] = refl
  same_count (e ∷ es) = ap (λ (n : ℕ). cond (is_order e) (n + 1) n) (same_count es)

  same_of : {A : Type 0} (none : A) (row : Order → A) (f : Event → A) (i : ℕ) (es : List Event)
      → of_order none row f i (on_fresh es) ≡ alone.of_order none f i es
  same_of none row f i [] = rw (le-ltb i 0 (omega arith))
  same_of {A} none row f i (e ∷ es) =
      ap₂ (λ (n : ℕ) (rest : A). cond (is_order e && eqb n i) (f e) rest) (same_count es) (same_of none row f i es)

  no-start-endings : (i : ℕ) → start_endings i (book_of file) ≡ []
  no-start-endings i = rw (le-ltb i 0 (omega arith))

  same-endings : (i : ℕ) (es : List Event) → all_endings i (on_fresh es) ≡ alone.all_endings i es
  same-endings i [] = no-start-endings i
  same-endings i (e ∷ es) = ap (λ (rs : List Report). endings_in i e.reports ++ rs) (same-endings i es)

  same_sum : (first : Book → ℕ) → first (book_of file) ≡ 0 → (f : Event → History → ℕ) (g : Event → List Event → ℕ)
      → ((e : Event) (es : List Event) → f e (on_fresh es) ≡ g e es) → (es : List Event) → sum_over first f (on_fresh es) ≡ alone.sum_over g es
  same_sum first zeros f g each [] = zeros
  same_sum first zeros f g each (e ∷ es) = ap₂ ◌+◌ (each e es) (same_sum first zeros f g each es)

  each-alone : (P : Event → History → Type 0) (Q : Event → List Event → Type 0)
      → ((e : Event) (es : List Event) → P e (on_fresh es) → Q e es)
      → (es : List Event) → Each P (on_fresh es) → alone.Each Q es
  each-alone P Q so [] c = tt
  each-alone P Q so (e ∷ es) c = (so e es c.0, each-alone P Q so es c.1)

  alone-each : (P : Event → History → Type 0) (Q : Event → List Event → Type 0)
      → ((e : Event) (es : List Event) → Q e es → P e (on_fresh es))
      → (es : List Event) → alone.Each Q es → Each P (on_fresh es)
  alone-each P Q so [] c = tt
  alone-each P Q so (e ∷ es) c = (so e es c.0, alone-each P Q so es c.1)

  -- no cover at the start
  module _ (p : ℕ) (l : p < ps.size) where
    no_cover_lem : cover_of (book_of file).covers p ≡ no_cover
    no_cover_lem = get_or-replicate most_participants p no_cover no_cover (let few = (file-sound file).roster.size in omega arith)

    same-cut : (es : List Event) → last_cut p (on_fresh es) ≡ alone.last_cut p es
    same-cut [] = ap cut_before no_cover_lem
    same-cut (e ∷ es) = ap (λ (n : ℕ). last_cut_in p n e.reports) (same-cut es)

    same_out : (es : List Event) → outgoing ps p (on_fresh es) ≡ alone.outgoing ps p es
    same_out =
        same_sum (λ b. 0) refl (goes_out ps p) (alone.goes_out ps p)
        (λ e es.
        ap (λ (n : ℕ). cover_out ps p e + amount_if (is_kind 10 e && is_sent_by ps p e && eqb n 11) e + settled_from p e + return_by ps p e)
        (same-cut es))

    same_in : (es : List Event) → incoming ps p (on_fresh es) ≡ alone.incoming ps p es
    same_in =
        same_sum (λ b. whole (cover_of b.covers p)) (ap whole no_cover_lem) (comes_in ps p) (alone.comes_in ps p)
        (λ e es.
        ap (λ (n : ℕ). cover_in ps p e + amount_if (is_kind 10 e && is_sent_by ps p e && eqb n 10) e + settled_to ps p e + return_to p e)
        (same-cut es))

  -- what is put together from them
  same-waits : (i : ℕ) (es : List Event) → waits i (on_fresh es) ≡ alone.waits i es
  same-waits i es = ap₂ (λ (n : ℕ) (rs : List Report). ltb i n && is_none rs) (same_count es) (same-endings i es)

  same-part : (p : ℕ) (es : List Event) (i : ℕ) → waiting_part ps p (on_fresh es) i ≡ alone.waiting_part ps p es i
  same-part p es i =
      ap₂ (λ (x : Bool) (n : ℕ). cond x n 0) (ap₂ ◌&&◌ (same-waits i es) (same_of false (λ o. eqb o.payer p) (is_sent_by ps p) i es)) (same_of 0 (λ o. o.amount) (λ e. amount_of e.ticket) i es)

  same_total : (p : ℕ) (es : List Event) → waiting_total ps p (on_fresh es) ≡ alone.waiting_total ps p es
  same_total p es =
      sum_same (waiting_part ps p (on_fresh es)) (alone.waiting_part ps p es) (order_count (on_fresh es)) (λ i l. same-part p es i)
      ∙ ap (λ (n : ℕ). sum_to (alone.waiting_part ps p es) n) (same_count es)

  same-lets : (i : ℕ) (e : Event) (es : List Event) → lets_expire i e (on_fresh es) ≡ alone.lets_expire i e es
  same-lets i e es = ap (λ (rs : List Report). is_none rs && is_first4 (endings_in i e.reports)) (same-endings i es)

  same-must : (i : ℕ) (e : Event) (es : List Event) → must_expire ps i e (on_fresh es) ≡ alone.must_expire ps i e es
  same-must i e es =
      ap₂ (λ (x y : Bool). sets_clock e && (x && y && leb 20 (time_of e.ticket - order_time i (on_fresh es))))
      (same-waits i es) (same_of false (λ o. is_bank_of ps o.payee) (λ e. to_bank ps (first_with 1 e.reports)) i es)
      ∙ ap (λ (n : ℕ). sets_clock e && (alone.waits i es && alone.is_for_bank ps i es && leb 20 (time_of e.ticket - n))) (same_of 0 (λ o. o.time) (λ e. time_of e.ticket) i es)

  same-asks : (i : ℕ) (e : Event) (es : List Event) → asks_about i e (on_fresh es) ≡ alone.asks_about i e es
  same-asks i e es =
      ap₂
      (λ (n : ℕ) (p : List ℕ).
      is_kind 8 e && ltb i n && same p (payer_of e.ticket) && same (order_txid i (on_fresh es)) (txid_of e.ticket))
      (same_count es) (same_of [] (λ o. (participant_of (participants (on_fresh es)) o.payer).bic) (λ e. sender_of e.ticket) i es)
      ∙ ap
      (λ (s : List ℕ).
      is_kind 8 e && ltb i (alone.order_count es) && same (alone.order_payer i es) (payer_of e.ticket) && same s (txid_of e.ticket))
      (same_of [] (λ o. unpadded o.txid) (λ e. txid_of e.ticket) i es)

  same-tickets : (i : ℕ) (es : List Event) → ending_tickets i (on_fresh es) ≡ alone.ending_tickets i es
  same-tickets i =
      same_sum (λ b. cond (is_none (start_endings i b)) 0 1) (ap (λ (rs : List Report). cond {A = ℕ} (is_none rs) 0 1) (no-start-endings i))
      (λ e before. cond (eqb (own_endings i e before) 0) 0 1) (λ e before. cond (eqb (alone.own_endings i e before) 0) 0 1)
      (λ e es. ap (λ (x : Bool). cond {A = ℕ} (eqb (length (endings_in i e.reports) - cond x 1 0) 0) 0 1) (same-asks i e es))

  same_alike : (i : ℕ) (es : List Event)
      → AllCarry (code_of (all_endings i (on_fresh es))) (order_amount i (on_fresh es)) (all_endings i (on_fresh es))
      ≡ AllCarry (code_of (alone.all_endings i es)) (alone.order_amount i es) (alone.all_endings i es)
  same_alike i es = ap₂ (λ (rs : List Report) (n : ℕ). AllCarry (code_of rs) n rs) (same-endings i es) (same_of 0 (λ o. o.amount) (λ e. amount_of e.ticket) i es)

  module _ (es : List Event) (b : Book) where
    below : (i : ℕ) → i < alone.order_count es → i < order_count (on_fresh es)
    below i = subst (λ (n : ℕ). i < n) (sym (same_count es))

    below-alone : (i : ℕ) → i < order_count (on_fresh es) → i < alone.order_count es
    below-alone i = subst (λ (n : ℕ). i < n) (same_count es)

    pub to-events : Claim (on_fresh es) b → ClaimOfEvents file es b
    to-events claim =
        let c : ClaimOf ps (on_fresh es) b = subst (λ (r : Roster). ClaimOf r (on_fresh es) b) (same-participants es) claim in
        record {
          told = each-alone (λ e before. tells_parties ps e ≡ true) (λ e before. tells_parties ps e ≡ true) (λ e before q. q) es c.told;
          cover = λ p l. ap (λ (n : ℕ). whole (cover_of b.covers p) + n) (sym (same_out p l es)) ∙ c.cover p l ∙ same_in p l es;
          reserved = λ p l. c.reserved p l ∙ same_total p es;
          held = c.held ∙ same_count es;
          waiting = λ i l. c.waiting i (below i l) ∙ same-waits i es;
          expiry =
              each-alone (λ e before. (i : ℕ) → lets_expire i e before ≡ must_expire ps i e before)
              (λ e before. (i : ℕ) → alone.lets_expire i e before ≡ alone.must_expire ps i e before)
              (λ e before q i. sym (same-lets i e before) ∙ q i ∙ same-must i e before) es c.expiry;
          known =
              each-alone (λ e before. (i : ℕ) → order_count before ≤ i → endings_in i e.reports ≡ [])
              (λ e before. (i : ℕ) → alone.order_count before ≤ i → endings_in i e.reports ≡ [])
              (λ e before q i l. q i (subst (λ (n : ℕ). n ≤ i) (sym (same_count before)) l)) es c.known;
          once = λ i l. sym (same-tickets i es) ∙ c.once i (below i l) ∙ ap (λ (x : Bool). cond {A = ℕ} x 0 1) (same-waits i es);
          alike = λ i l. subst (λ (T : Type 0). T) (same_alike i es) (c.alike i (below i l));
        }

    pub from-events : ClaimOfEvents file es b → Claim (on_fresh es) b
    from-events c =
        subst (λ (r : Roster). ClaimOf r (on_fresh es) b) (sym (same-participants es)) (record {
          told = alone-each (λ e before. tells_parties ps e ≡ true) (λ e before. tells_parties ps e ≡ true) (λ e before q. q) es c.told;
          cover = λ p l. ap (λ (n : ℕ). whole (cover_of b.covers p) + n) (same_out p l es) ∙ c.cover p l ∙ sym (same_in p l es);
          reserved = λ p l. c.reserved p l ∙ sym (same_total p es);
          held = c.held ∙ sym (same_count es);
          waiting = λ i l. c.waiting i (below-alone i l) ∙ sym (same-waits i es);
          expiry =
              alone-each (λ e before. (i : ℕ) → lets_expire i e before ≡ must_expire ps i e before)
              (λ e before. (i : ℕ) → alone.lets_expire i e before ≡ alone.must_expire ps i e before)
              (λ e before q i. same-lets i e before ∙ q i ∙ sym (same-must i e before)) es c.expiry;
          known =
              alone-each (λ e before. (i : ℕ) → order_count before ≤ i → endings_in i e.reports ≡ [])
              (λ e before. (i : ℕ) → alone.order_count before ≤ i → endings_in i e.reports ≡ [])
              (λ e before q i l. q i (subst (λ (n : ℕ). n ≤ i) (same_count before) l)) es c.known;
          once = λ i l. same-tickets i es ∙ c.once i (below-alone i l) ∙ ap (λ (x : Bool). cond {A = ℕ} x 0 1) (sym (same-waits i es));
          alike = λ i l. subst (λ (T : Type 0). T) (sym (same_alike i es)) (c.alike i (below-alone i l));
        })

-- the events of what was seen, oldest first, in front of those before
abbrev pub seen_newest_first : List Seen → List Event → List Event
seen_newest_first [] es = es
seen_newest_first (s ∷ later) es = seen_newest_first later (event_of s ∷ es)

on-fresh : (file : List ℕ) (ss : List Seen) (es : List Event) → events_on (on_fresh file es) ss ≡ on_fresh file (seen_newest_first ss es)
on-fresh file [] es = refl
on-fresh file (s ∷ later) es = on-fresh file later (event_of s ∷ es)

pub events-demand3 : (file : List ℕ) (inputs : List Input)
    → ClaimOfEvents file (seen_newest_first (seen_from (book_of file) inputs) []) (book_from (book_of file) inputs)
events-demand3 file inputs =
    to-events file (seen_newest_first (seen_from (book_of file) inputs) []) (book_from (book_of file) inputs)
    (subst (λ (h : History). Claim h (book_from (book_of file) inputs))
    (on-fresh file (seen_from (book_of file) inputs) []) (demand3 file inputs))
