-- One event: first the expiries, then the ticket's own step. Where history and book agreed before, they agree after. Assumes nothing.
use mathlib.Core.Path.{◌≡◌, refl, sym, ◌∙◌, ap, ap₂}
use mathlib.Core.Bool.{Bool, true, false, ◌&&◌, cond, and-false}
use mathlib.Core.List.{List, [], ◌++◌}
use mathlib.Core.Logic.{◌⊎◌, ⊎_elim}
use Prim.Native.Nat.{ℕ, ◌+◌, ◌≤◌, ◌<◌}
use native.Mathlib.Omega.{arith}
use borrow.Author.Tests.{eq-eqb, ne_eqb, le-ltb}
use lib.Dec.{eqb}
use Rattle.fields.specs.Text.{unpadded}
use Rattle.ticket.specs.TicketLayout.{time_of, amount_of, sender_of, txid_of}
use Rattle.report.specs.Ending.{endings_in}
use Rattle.report.specs.declared.Report.{Report}
use Rattle.report.proofs.Ending.{endings-append}
use Rattle.dayfile.specs.Roster.{participant_of}
use Rattle.dayfile.specs.declared.roster.Roster.{Roster}
use Rattle.rules.specs.Book.{order_of, cover_of, is_bank}
use Rattle.rules.specs.Status.{is_waiting}
use Rattle.rules.specs.Cover.{whole}
use Rattle.rules.specs.Sound.{Sound}
use Rattle.rules.specs.declared.Order.{Order}
use Rattle.rules.specs.declared.Cover.{Cover}
use Rattle.rules.specs.declared.Book.{Book}
use Rattle.fields.proofs.Compared.{same_or_not, below_or_not}
use Rattle.rules.proofs.Expiring.{expired_if, fours, Expires}
use Rattle.audit.specs.History.{Event, History, ◌▹◌, is_sent_by}
use Rattle.audit.specs.Sums.{first_with, last_cut, goes_out, comes_in}
use Rattle.audit.specs.Orders.{is_order, order_count, opens, to_bank, is_none, is_first4, lets_expire, must_expire, asks_about, all_endings}
use Rattle.audit.proofs.Agreeing.{OrderAgrees, CoverAgrees, Agrees}
use Rattle.audit.proofs.Fates.{Fate, SameOrder, no-tickets, order-goes}

-- order i, before and after the ticket's own step
pub record OwnOrder (asks : Bool) (i : ℕ) (o o' : Order) (rs : List Report) : Type 0 where
  pub fate : Fate asks i o o' rs
  pub same : SameOrder o o'
  -- an order that waits is not let expire
  pub quiet : (is_waiting o.status && is_first4 (endings_in i rs)) ≡ false

-- participant p's cover, before and after
pub record OwnCover (ps : Roster) (h : History) (e : Event) (p : ℕ) (c c' : Cover) : Type 0 where
  pub adds : whole c' + goes_out ps p e h ≡ whole c + comes_in ps p e h
  pub held : (c.held ≡ 0) ⊎ (last_cut p h ≡ 11) → (c'.held ≡ 0) ⊎ (last_cut p (e ▹ h) ≡ 11)
  pub debit : (c.debit ≡ 0) ⊎ (last_cut p h ≡ 10) → (c'.debit ≡ 0) ⊎ (last_cut p (e ▹ h) ≡ 10)

-- an order that the ticket opens
pub record Opened (ps : Roster) (e : Event) (o : Order) : Type 0 where
  pub amount : amount_of e.ticket ≡ o.amount
  pub time : time_of e.ticket ≡ o.time
  pub bic : sender_of e.ticket ≡ (participant_of ps o.payer).bic
  pub txid : txid_of e.ticket ≡ unpadded o.txid
  pub bank : to_bank ps (first_with 1 e.reports) ≡ is_bank ps o.payee
  pub payer : (p : ℕ) → p < ps.size → is_sent_by ps p e ≡ eqb o.payer p
  pub waiting : is_waiting o.status ≡ true

pub data Growth (ps : Roster) (e : Event) (w b' : Book) : Type 0 where
  keeps : is_order e ≡ false → b'.count ≡ w.count → Growth ps e w b'
  gains : is_order e ≡ true → b'.count ≡ w.count + 1 → Opened ps e (order_of b'.orders w.count) → Growth ps e w b'

-- the ticket's own step, from book w to book b' with reports rs
pub record OwnStep (ps : Roster) (h : History) (e : Event) (w b' : Book) (rs : List Report) : Type 0 where
  pub roster : b'.roster ≡ w.roster
  pub growth : Growth ps e w b'
  pub order : (i : ℕ) → i < w.count → OwnOrder (asks_about i e h) i (order_of w.orders i) (order_of b'.orders i) rs
  pub none : (i : ℕ) → w.count ≤ i → endings_in i rs ≡ []
  pub cover : (p : ℕ) → p < ps.size → OwnCover ps h e p (cover_of w.covers p) (cover_of b'.covers p)

-- an order's endings: those of the expiries, and those of the ticket's own step
module _ (i : ℕ) (o : Order) (rs₀ rs : List Report) where
  both-parts : (first : List Report) → endings_in i rs₀ ≡ first → endings_in i (rs₀ ++ rs) ≡ first ++ endings_in i rs
  both-parts first e = endings-append i rs₀ rs ∙ ap (λ (l : List Report). l ++ endings_in i rs) e

  at_most_one : (asks : Bool) → cond asks 1 0 ≤ 1
  at_most_one true = omega arith
  at_most_one false = omega arith

  fate-after : (asks d : Bool) (o' : Order) → (d ≡ true → is_waiting o.status ≡ true) → endings_in i rs₀ ≡ cond d (fours i o) []
      → Fate asks i (expired_if d o) o' rs → Fate asks i o o' (rs₀ ++ rs)
  fate-after asks false o' waited e (Fate.kept nil w c) = Fate.kept (both-parts [] e ∙ nil) w c
  fate-after asks false o' waited e (Fate.repeated a w w' c r is carries) = Fate.repeated a w w' c r (both-parts [] e ∙ is) carries
  fate-after asks false o' waited e (Fate.ended w w' r more is carries l) = Fate.ended w w' r more (both-parts [] e ∙ is) carries l
  fate-after asks true o' waited e (Fate.kept nil w c) =
      Fate.ended (waited refl) w _ _ (both-parts (fours i o) e ∙ ap (λ (l : List Report). fours i o ++ l) nil)
      (sym c, refl, (sym c, refl, tt)) (at_most_one asks)
  fate-after asks true o' waited e (Fate.repeated a w w' c r is carries) =
      Fate.ended (waited refl) w' _ _ (both-parts (fours i o) e ∙ ap (λ (l : List Report). fours i o ++ l) is)
      (sym c, refl, (sym c, refl, (carries.0 ∙ sym c, carries.1, tt)))
      (let l = at_most_one asks in omega arith)
  fate-after asks true o' waited e (Fate.ended w w' r more is carries l) = let z : ◌≡◌ {A = ℕ} 0 1 = cc in absurd (omega arith)

  -- the first is a 4, and the order waited, exactly if it expired
  first-four : (d : Bool) → (d ≡ true → is_waiting o.status ≡ true) → endings_in i rs₀ ≡ cond d (fours i o) []
      → (is_waiting (expired_if d o).status && is_first4 (endings_in i rs)) ≡ false
      → (is_waiting o.status && is_first4 (endings_in i (rs₀ ++ rs))) ≡ d
  first-four true waited e q = rw (both-parts (fours i o) e, waited refl)
  first-four false waited e q = rw (both-parts [] e) q

same_after : (d : Bool) (o o' : Order) → SameOrder (expired_if d o) o' → SameOrder o o'
same_after true o o' s = record { amount = s.amount; time = s.time; txid = s.txid; payer = s.payer; payee = s.payee }
same_after false o o' s = s

module _ (ps : Roster) (h : History) (b w b' : Book) (t : List ℕ) (n : ℕ) (rs₀ rs : List Report) (expires : ℕ → Bool)
    (a : Agrees ps h b) (x : Expires expires b w rs₀) (sound : Sound b')
    (own : OwnStep ps h (record { ticket = t; refusal = n; reports = rs₀ ++ rs }) w b' rs)
    (must : (i : ℕ) → i < b.count → must_expire ps i (record { ticket = t; refusal = n; reports = rs₀ ++ rs }) h ≡ expires i) where
  abbrev e : Event
  e = record { ticket = t; refusal = n; reports = rs₀ ++ rs }

  -- a ticket opens no order that there was
  not_opened : (i : ℕ) → i < b.count → opens i e h ≡ false
  not_opened i l =
      let differs : order_count h ≡ i → ⊥ = λ q. let c = a.count in omega arith in
      ap (λ (y : Bool). is_order e && y) (ne_eqb (order_count h) i differs) ∙ and-false (is_order e)

  in-w : (i : ℕ) → i < b.count → i < w.count
  in-w i l = rw x.count l

  own-after : (i : ℕ) → i < b.count
      → OwnOrder (asks_about i e h) i (expired_if (expires i) (order_of b.orders i)) (order_of b'.orders i) rs
  own-after i l = rw (x.order i l) at (own.order i (in-w i l))

  order-after : (i : ℕ) → i < b.count → OrderAgrees ps (e ▹ h) i (order_of b'.orders i)
  order-after i l =
      let o = own-after i l in
      order-goes ps h i (order_of b.orders i) (order_of b'.orders i) e (a.order i l) (not_opened i l)
      (same_after (expires i) (order_of b.orders i) (order_of b'.orders i) o.same)
      (fate-after i (order_of b.orders i) rs₀ rs (asks_about i e h) (expires i) (order_of b'.orders i)
      (x.waited i) (x.ends i l) o.fate)

  -- no endings of a number that no order has
  no-endings : (i : ℕ) → b.count ≤ i → endings_in i (rs₀ ++ rs) ≡ []
  no-endings i l = both-parts i (order_of b.orders i) rs₀ rs [] (x.none i l) ∙ own.none i (rw x.count l)

  none_after : (i : ℕ) → b.count ≤ i → all_endings i (e ▹ h) ≡ []
  none_after i l = ap₂ ◌++◌ (no-endings i l) (a.none i l)

  expiry-after : (i : ℕ) → lets_expire i e h ≡ must_expire ps i e h
  expiry-after i =
      ⊎_elim
      (λ (l : i < b.count).
      ap (λ (y : Bool). y && is_first4 (endings_in i (rs₀ ++ rs))) (a.order i l).waiting
      ∙ first-four i (order_of b.orders i) rs₀ rs (expires i) (x.waited i) (x.ends i l) (own-after i l).quiet
      ∙ sym (must i l))
      (λ (l : b.count ≤ i).
      let unseen : order_count h ≤ i = rw (← a.count) l in
      simp (no-endings i l, and-false, le-ltb i (order_count h) unseen))
      (below_or_not i b.count)

  known-after : (i : ℕ) → order_count h ≤ i → endings_in i e.reports ≡ []
  known-after i l = no-endings i (rw a.count l)

  cover-after : (p : ℕ) → p < ps.size → CoverAgrees ps (e ▹ h) p (cover_of b'.covers p)
  cover-after p l =
      let before = a.cover p l in
      let apart = x.cover p (rw a.roster l) in
      let o = own.cover p l in
      record {
        adds = let k = before.adds in let m = apart.whole in let q = o.adds in omega arith;
        held = o.held (rw apart.held before.held);
        debit = o.debit (rw apart.debit before.debit);
      }

  -- an order that the ticket opens
  new-order : is_order e ≡ true → (o : Order) → Opened ps e o → OrderAgrees ps (e ▹ h) b.count o
  new-order is o opened =
      let this : opens b.count e h ≡ true = rw (is, eq-eqb (order_count h) b.count (sym a.count)) in
      let nothing = none_after b.count (omega arith) in
      record {
        amount = rw this opened.amount;
        time = rw this opened.time;
        bic = rw this opened.bic;
        txid = rw this opened.txid;
        bank = rw this opened.bank;
        payer = λ p l. rw this (opened.payer p l);
        waiting = ap is_none nothing ∙ sym opened.waiting;
        once = no-tickets b.count (e ▹ h) nothing ∙ ap (λ (y : Bool). cond {A = ℕ} y 0 1) (sym opened.waiting);
        alike = rw nothing tt;
      }

  pub agrees_after : Agrees ps (e ▹ h) b'
  agrees_after = go own.growth
    where
      rest : b'.count ≡ order_count (e ▹ h) → ((i : ℕ) → i < b'.count → OrderAgrees ps (e ▹ h) i (order_of b'.orders i))
          → b.count ≤ b'.count → Agrees ps (e ▹ h) b'
      rest count order grows =
          record {
            sound = sound;
            roster = own.roster ∙ x.roster ∙ a.roster;
            count = count;
            order = order;
            none = λ i l. none_after i (omega arith);
            cover = cover-after;
            expiry = (expiry-after, a.expiry);
            known = (known-after, a.known);
          }

      go : Growth ps e w b' → Agrees ps (e ▹ h) b'
      go (Growth.keeps isnt count) =
          let c = x.count in
          rest (count ∙ c ∙ a.count ∙ rw isnt) (λ i l. order-after i (omega arith)) (omega arith)
      go (Growth.gains is count opened) =
          let c = x.count in
          rest (count ∙ ap (λ (m : ℕ). m + 1) (c ∙ a.count) ∙ rw is)
          (λ i l.
          ⊎_elim
          (λ (q : i ≡ b.count). rw q (new-order is (order_of b'.orders b.count) (rw c at opened)))
          (λ (k : i ≡ b.count → ⊥). order-after i (omega arith))
          (same_or_not i b.count))
          (omega arith)
