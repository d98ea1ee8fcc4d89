-- What an event does to one order: nothing, a repeat of how it ended, or its end; and that an order that agreed before agrees after.
-- Assumes nothing.
use mathlib.Core.Path.{◌≡◌, refl, sym, subst, ◌∙◌, ap}
use mathlib.Core.Bool.{Bool, true, false, cond}
use mathlib.Core.List.{List, [], ◌∷◌, ◌++◌}
use Prim.Native.Nat.{ℕ, suc, ◌+◌, ◌-◌, ◌≤◌}
use native.Mathlib.Omega.{arith}
use borrow.Author.Tests.{ne_eqb}
use lib.Dec.{eqb}
use lib.ListN.{length}
use Rattle.report.specs.Ending.{endings_in}
use Rattle.report.specs.declared.Report.{Report}
use Rattle.fields.specs.Text.{unpadded}
use Rattle.dayfile.specs.Roster.{participant_of}
use Rattle.dayfile.specs.declared.roster.Roster.{Roster}
use Rattle.rules.specs.Book.{is_bank}
use Rattle.rules.specs.Status.{is_waiting}
use Rattle.rules.specs.declared.Order.{Order}
use Rattle.ticket.specs.TicketLayout.{amount_of, time_of, sender_of, txid_of}
use Rattle.audit.specs.History.{Event, History, from, ◌▹◌, participants, is_sent_by, is_bank_of}
use Rattle.audit.specs.Sums.{first_with}
use Rattle.audit.specs.Orders.{opens, of_order, to_bank, start_endings, is_none, asks_about, own_endings, ending_tickets, all_endings, end_code}
use Rattle.audit.specs.Claim.{AllCarry}
use Rattle.audit.proofs.Agreeing.{OrderAgrees}

-- order i was o and is o' after reports rs; asks: the ticket is an inquiry about it
pub data Fate (asks : Bool) (i : ℕ) (o o' : Order) (rs : List Report) : Type 0 where
  kept : endings_in i rs ≡ [] → is_waiting o'.status ≡ is_waiting o.status
      → end_code o'.status ≡ end_code o.status → Fate asks i o o' rs
  repeated : asks ≡ true → is_waiting o.status ≡ false → is_waiting o'.status ≡ false → end_code o'.status ≡ end_code o.status
      → (r : Report) → endings_in i rs ≡ r ∷ [] → AllCarry (end_code o.status) o.amount (r ∷ []) → Fate asks i o o' rs
  ended : is_waiting o.status ≡ true → is_waiting o'.status ≡ false
      → (r : Report) (more : List Report) → endings_in i rs ≡ r ∷ more → AllCarry (end_code o'.status) o.amount (r ∷ more)
      → cond asks 1 0 ≤ length more → Fate asks i o o' rs

-- all but its status is as it was
pub record SameOrder (o o' : Order) : Type 0 where
  pub amount : o'.amount ≡ o.amount
  pub time : o'.time ≡ o.time
  pub txid : o'.txid ≡ o.txid
  pub payer : o'.payer ≡ o.payer
  pub payee : o'.payee ≡ o.payee

-- an order that a ticket doesn't open is read off what was before
of-before : {A : Type 0} (none : A) (row : Order → A) (f : Event → A) (i : ℕ) (e : Event) (h : History) → opens i e h ≡ false
    → of_order none row f i (e ▹ h) ≡ of_order none row f i h
of-before none row f i e h other = ap (λ (x : Bool). cond x (f e) (of_order none row f i h)) other

carry-append : (code amount : ℕ) (rs ts : List Report) → AllCarry code amount rs → AllCarry code amount ts → AllCarry code amount (rs ++ ts)
carry-append code amount [] ts a b = b
carry-append code amount (r ∷ rs) ts a b = (a.0, a.1, carry-append code amount rs ts a.2 b)

-- a list of which nothing is there is empty
none-there : (rs : List Report) → is_none rs ≡ true → rs ≡ []
none-there [] e = refl
none-there (r ∷ rs) e = let z : ◌≡◌ {A = ℕ} 0 1 = cc in absurd (omega arith)

-- no endings are no ending ticket
no-endings-count : (asks : Bool) → ◌≡◌ {A = ℕ} (cond (eqb (0 - cond asks 1 0) 0) 0 1) 0
no-endings-count true = refl
no-endings-count false = refl

append-none : (rs ts : List Report) → rs ++ ts ≡ [] → (rs ≡ []) × (ts ≡ [])
append-none [] ts q = (refl, q)
append-none (r ∷ rs) ts q = let z : ◌≡◌ {A = ℕ} 0 1 = cc in absurd (omega arith)

pub no-tickets : (i : ℕ) (h : History) → all_endings i h ≡ [] → ending_tickets i h ≡ 0
no-tickets i (from b) q = let none : cond {A = ℕ} (is_none (start_endings i b)) 0 1 ≡ 0 = rw q in omega arith
no-tickets i (e ▹ h) q =
    let both = append-none (endings_in i e.reports) (all_endings i h) q in
    let none : length (endings_in i e.reports) ≡ 0 = ap (λ (l : List Report). length l) both.0 in
    let this : own_endings i e h ≡ 0 = omega arith in
    let before = no-tickets i h both.1 in
    rw (this, before)

module _ (ps : Roster) (h : History) (i : ℕ) (o o' : Order) (e : Event) (a : OrderAgrees ps h i o) (other : opens i e h ≡ false)
    (s : SameOrder o o') where
  -- how the endings of this event count
  counts : ℕ → ℕ
  counts n = cond (eqb (n - cond (asks_about i e h) 1 0) 0) 0 1

  tickets : (rs : List Report) → endings_in i e.reports ≡ rs → ending_tickets i (e ▹ h) ≡ counts (length rs) + ending_tickets i h
  unfolding counts
  tickets rs q = ap (λ (l : List Report). counts (length l) + ending_tickets i h) q

  none-counts : counts 0 ≡ 0
  unfolding counts
  none-counts = no-endings-count (asks_about i e h)

  repeat-counts : asks_about i e h ≡ true → counts 1 ≡ 0
  unfolding counts
  repeat-counts q = ap (λ (x : Bool). cond (eqb (1 - cond x 1 0) 0) 0 1) q

  end-counts : (n : ℕ) → cond (asks_about i e h) 1 0 ≤ n → counts (suc n) ≡ 1
  unfolding counts
  end-counts n l = go (asks_about i e h) l
    where
      go : (x : Bool) → cond x 1 0 ≤ n → ◌≡◌ {A = ℕ} (cond (eqb (suc n - cond x 1 0) 0) 0 1) 1
      go true l = simp (ne_eqb (suc n - 1) 0 (λ q. omega arith))
      go false l = simp (ne_eqb (suc n - 0) 0 (λ q. omega arith))

  -- the endings so far, with those of this event
  so_far : (rs : List Report) → endings_in i e.reports ≡ rs → all_endings i (e ▹ h) ≡ rs ++ all_endings i h
  so_far rs q = ap (λ (l : List Report). l ++ all_endings i h) q

  -- what is read off its ticket, and how it ended
  together : is_none (all_endings i (e ▹ h)) ≡ is_waiting o'.status → ending_tickets i (e ▹ h) ≡ cond (is_waiting o'.status) 0 1
      → AllCarry (end_code o'.status) o.amount (all_endings i (e ▹ h)) → OrderAgrees ps (e ▹ h) i o'
  together waiting once alike =
      record {
        amount = of-before 0 (λ x. x.amount) (λ x. amount_of x.ticket) i e h other ∙ a.amount ∙ sym s.amount;
        time = of-before 0 (λ x. x.time) (λ x. time_of x.ticket) i e h other ∙ a.time ∙ sym s.time;
        bic = of-before [] (λ x. (participant_of (participants h) x.payer).bic) (λ x. sender_of x.ticket) i e h other ∙ a.bic ∙ ap (λ (p : ℕ). (participant_of ps p).bic) (sym s.payer);
        txid = of-before [] (λ x. unpadded x.txid) (λ x. txid_of x.ticket) i e h other ∙ a.txid ∙ ap unpadded (sym s.txid);
        bank = of-before false (λ x. is_bank_of ps x.payee) (λ x. to_bank ps (first_with 1 x.reports)) i e h other ∙ a.bank ∙ ap (is_bank ps) (sym s.payee);
        payer = λ p l. of-before false (λ x. eqb x.payer p) (is_sent_by ps p) i e h other ∙ a.payer p l ∙ ap (λ (q : ℕ). eqb q p) (sym s.payer);
        waiting = waiting;
        once = once;
        alike = subst (λ (n : ℕ). AllCarry (end_code o'.status) n (all_endings i (e ▹ h))) (sym s.amount) alike;
      }

  -- none while it waits, one after
  abbrev ends : Bool → ℕ
  ends x = cond x 0 1

  pub order-goes : Fate (asks_about i e h) i o o' e.reports → OrderAgrees ps (e ▹ h) i o'
  order-goes (kept none w c) =
      together
      (ap is_none (so_far [] none) ∙ a.waiting ∙ sym w)
      (let t = tickets [] none in let n = none-counts in let b = a.once in let q = ap ends w in omega arith)
      (rw (so_far [] none, c) a.alike)
  order-goes (repeated asks w w' c r is carries) =
      together
      (ap is_none (so_far (r ∷ []) is) ∙ sym w')
      (let t = tickets (r ∷ []) is in
      let n = repeat-counts asks in
      let b = a.once in let q = ap ends w in
      let q' = ap ends w' in omega arith)
      (subst (λ (n : ℕ). AllCarry n o.amount (all_endings i (e ▹ h))) (sym c)
      (rw (so_far (r ∷ []) is) (carry-append (end_code o.status) o.amount (r ∷ []) (all_endings i h) carries a.alike)))
  order-goes (ended w w' r more is carries l) =
      let before : all_endings i h ≡ [] = none-there (all_endings i h) (a.waiting ∙ w) in
      together
      (ap is_none (so_far (r ∷ more) is) ∙ sym w')
      (let t = tickets (r ∷ more) is in
      let n = end-counts (length more) l in
      let b = a.once in let q = ap ends w in
      let q' = ap ends w' in omega arith)
      (rw (so_far (r ∷ more) is, before) (carry-append (end_code o'.status) o.amount (r ∷ more) [] carries tt))
