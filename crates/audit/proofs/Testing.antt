-- The claim as a test that the checker computes, clause by clause: it passes exactly where the claim holds. Assumes nothing.
use mathlib.Core.Path.{◌≡◌, refl, sym}
use mathlib.Core.Bool.{Bool, true, false, ◌&&◌, ◌||◌, not, cond, and-false}
use mathlib.Core.List.{List, [], ◌∷◌}
use mathlib.Core.Logic.{⊎_elim}
use Prim.Native.Nat.{ℕ, ◌+◌, ◌≤◌, ◌<◌}
use native.Mathlib.Omega.{arith}
use borrow.Author.Tests.{eqb-true, eq-eqb, ltb-true, ltb-false, le-ltb}
use lib.Dec.{ltb, eqb}
use Rattle.fields.specs.UpTo.{all_to}
use Rattle.fields.proofs.Tests.{and_left, and_right}
use Rattle.fields.proofs.UpTo.{all-at, all-to}
use Rattle.report.specs.Ending.{is_ending, endings_in}
use Rattle.report.specs.declared.Report.{Report}
use Rattle.dayfile.specs.declared.roster.Roster.{Roster}
use Rattle.rules.specs.Book.{order_of, cover_of}
use Rattle.rules.specs.Status.{is_waiting}
use Rattle.rules.specs.Cover.{whole}
use Rattle.rules.specs.declared.Book.{Book}
use Rattle.fields.proofs.Compared.{below_or_not}
use Rattle.audit.specs.History.{Event, History, from, ◌▹◌, participants, Each}
use Rattle.audit.specs.Sums.{outgoing, incoming}
use Rattle.audit.specs.Orders.{
  order_count,
  order_amount,
  waits,
  waiting_total,
  lets_expire,
  must_expire,
  ending_tickets,
  all_endings,
  tells_parties,
}
use Rattle.audit.specs.Claim.{AllCarry, code_of, Claim}

-- two truth values are the same
abbrev agree : Bool → Bool → Bool
agree true b = b
agree false b = not b

agree-true : (a b : Bool) → agree a b ≡ true → a ≡ b
agree-true true b e = sym e
agree-true false true e = e
agree-true false false e = refl

true-agree : (a b : Bool) → a ≡ b → agree a b ≡ true
true-agree true b e = sym e
true-agree false b e = rw (← e)

and_both : (a b : Bool) → a ≡ true → b ≡ true → (a && b) ≡ true
and_both a b e f = rw (e, f)

module _ (ps : Roster) (h : History) (b : Book) where
  abbrev cover_at : ℕ → Bool
  cover_at p = eqb (whole (cover_of b.covers p) + outgoing ps p h) (incoming ps p h)

  abbrev reserved_at : ℕ → Bool
  reserved_at p = eqb (cover_of b.covers p).reserved (waiting_total ps p h)

  abbrev waiting_at : ℕ → Bool
  waiting_at i = agree (is_waiting (order_of b.orders i).status) (waits i h)

abbrev once_at : History → ℕ → Bool
once_at h i = eqb (ending_tickets i h) (cond (waits i h) 0 1)

-- a test of each event and what was before it
abbrev each_of : (Event → History → Bool) → History → Bool
each_of test (from b) = true
each_of test (e ▹ before) = test e before && each_of test before

each-true : (test : Event → History → Bool) (P : Event → History → Type 0)
    → ((e : Event) (before : History) → test e before ≡ true → P e before)
    → (h : History) → each_of test h ≡ true → Each P h
each-true test P tells (from b) t = tt
each-true test P tells (e ▹ before) t = (
  tells e before (and_left (test e before) (each_of test before) t),
  each-true test P tells before (and_right (test e before) (each_of test before) t),
)

true-each : (test : Event → History → Bool) (P : Event → History → Type 0)
    → ((e : Event) (before : History) → P e before → test e before ≡ true)
    → (h : History) → Each P h → each_of test h ≡ true
true-each test P tells (from b) c = refl
true-each test P tells (e ▹ before) c =
    and_both (test e before) (each_of test before) (tells e before c.0) (true-each test P tells before c.1)

-- two facts of each event
both-each : (P Q : Event → History → Type 0) (h : History) → Each P h → Each Q h → Each (λ e before. P e before × Q e before) h
both-each P Q (from start) a b = tt
both-each P Q (e ▹ before) a b = ((a.0, b.0), both-each P Q before a.1 b.1)

each-so : (P Q : Event → History → Type 0) → ((e : Event) (before : History) → P e before → Q e before)
    → (h : History) → Each P h → Each Q h
each-so P Q so (from b) a = tt
each-so P Q so (e ▹ before) a = (so e before a.0, each-so P Q so before a.1)

-- each ending has a number below n
abbrev is_ending_code : Report → Bool
is_ending_code r = is_ending r.order r

abbrev endings_below : ℕ → List Report → Bool
endings_below n [] = true
endings_below n (r ∷ rs) = (not (is_ending_code r) || ltb r.order n) && endings_below n rs

Known : ℕ → List Report → Type 0
Known n rs = (i : ℕ) → n ≤ i → endings_in i rs ≡ []

below-known : (n : ℕ) (rs : List Report) → endings_below n rs ≡ true → Known n rs
unfolding Known
below-known n [] t i l = refl
below-known n (r ∷ rs) t i l =
    go (is_ending i r) refl (below-known n rs (and_right (not (is_ending_code r) || ltb r.order n) (endings_below n rs) t) i l)
  where
    go : (b : Bool) → is_ending i r ≡ b → endings_in i rs ≡ [] → cond b (r ∷ endings_in i rs) (endings_in i rs) ≡ []
    go true e on =
        let same : r.order ≡ i = eqb-true r.order i (and_left (eqb r.order i) _ e) in
        let is : is_ending_code r ≡ true = rw (← same) at e in
        let here = and_left (not (is_ending_code r) || ltb r.order n) (endings_below n rs) t in
        let below = ltb-true r.order n (rw is at here) in
        absurd (omega arith)
    go false e on = on

known-below : (n : ℕ) (rs : List Report) → Known n rs → endings_below n rs ≡ true
unfolding Known
known-below n [] k = refl
known-below n (r ∷ rs) k =
    and_both (not (is_ending_code r) || ltb r.order n) (endings_below n rs)
    (here (is_ending_code r) refl (ltb r.order n) refl)
    (known-below n rs (λ i l. later i (is_ending i r) (k i l)))
  where
    later : (i : ℕ) (b : Bool) → cond b (r ∷ endings_in i rs) (endings_in i rs) ≡ [] → endings_in i rs ≡ []
    later i true e = let z : ◌≡◌ {A = ℕ} 0 1 = cc in absurd (omega arith)
    later i false e = e

    here : (x : Bool) → is_ending_code r ≡ x → (y : Bool) → ltb r.order n ≡ y → (not x || y) ≡ true
    here false e y f = refl
    here true e true f = refl
    here true e false f =
        let none : endings_in r.order (r ∷ rs) ≡ [] = k r.order (ltb-false r.order n f) in
        let is : ◌≡◌ {A = List Report} (r ∷ endings_in r.order rs) [] = rw e at none in
        let z : ◌≡◌ {A = ℕ} 0 1 = cc in
        absurd (omega arith)

-- at an event, the orders before it and n more
abbrev expiry_at : Roster → Event → History → ℕ → Bool
expiry_at ps e before i = agree (lets_expire i e before) (must_expire ps i e before)

abbrev expiry_test : Roster → ℕ → Event → History → Bool
expiry_test ps n e before = all_to (expiry_at ps e before) (order_count before + n)

abbrev known_in : Event → History → Bool
known_in e before = endings_below (order_count before) e.reports

-- no other order is let expire, and none must
no_other : (ps : Roster) (e : Event) (before : History) (i : ℕ) → order_count before ≤ i → endings_in i e.reports ≡ []
    → lets_expire i e before ≡ must_expire ps i e before
no_other ps e before i l none = simp (none, and-false, le-ltb i (order_count before) l)

expiry-tells : (ps : Roster) (n : ℕ) (e : Event) (before : History)
    → (expiry_test ps n e before ≡ true) × Known (order_count before) e.reports
    → (i : ℕ) → lets_expire i e before ≡ must_expire ps i e before
unfolding Known
expiry-tells ps n e before (t, k) i =
    ⊎_elim
    (λ (l : i < order_count before + n). agree-true (lets_expire i e before) (must_expire ps i e before)
    (all-at (expiry_at ps e before) (order_count before + n) i t l))
    (λ (l : order_count before + n ≤ i). no_other ps e before i (omega arith) (k i (omega arith)))
    (below_or_not i (order_count before + n))

abbrev carry : ℕ → ℕ → List Report → Bool
carry code amount [] = true
carry code amount (r ∷ rs) = eqb r.code code && eqb r.amount amount && carry code amount rs

abbrev alike_at : History → ℕ → Bool
alike_at h i = carry (code_of (all_endings i h)) (order_amount i h) (all_endings i h)

carry-true : (code amount : ℕ) (rs : List Report) → carry code amount rs ≡ true → AllCarry code amount rs
carry-true code amount [] e = tt
carry-true code amount (r ∷ rs) e =
    let both = and_left (eqb r.code code && eqb r.amount amount) (carry code amount rs) e in (
      eqb-true _ _ (and_left (eqb r.code code) (eqb r.amount amount) both),
      eqb-true _ _ (and_right (eqb r.code code) (eqb r.amount amount) both),
      carry-true code amount rs (and_right (eqb r.code code && eqb r.amount amount) (carry code amount rs) e),
    )

true-carry : (code amount : ℕ) (rs : List Report) → AllCarry code amount rs → carry code amount rs ≡ true
true-carry code amount [] c = refl
true-carry code amount (r ∷ rs) c =
    and_both (eqb r.code code && eqb r.amount amount) (carry code amount rs)
    (and_both (eqb r.code code) (eqb r.amount amount) (eq-eqb r.code code c.0) (eq-eqb r.amount amount c.1))
    (true-carry code amount rs c.2)

-- the clauses in the claim's order
abbrev pub clauses : History → Book → List Bool
clauses h b =
    let ps = participants h in
    each_of (λ e before. tells_parties ps e) h
    ∷ all_to (cover_at ps h b) ps.size
    ∷ all_to (reserved_at ps h b) ps.size
    ∷ eqb b.count (order_count h)
    ∷ all_to (waiting_at ps h b) (order_count h)
    ∷ each_of (expiry_test ps (order_count h)) h
    ∷ each_of known_in h
    ∷ all_to (once_at h) (order_count h)
    ∷ all_to (alike_at h) (order_count h)
    ∷ []

-- every clause passes
abbrev pub all_pass : List Bool → Bool
all_pass [] = true
all_pass (c ∷ cs) = c && all_pass cs

-- each of them does
abbrev Passing : List Bool → Type 0
Passing [] = Unit {0}
Passing (c ∷ cs) = (c ≡ true) × Passing cs

passing : (cs : List Bool) → all_pass cs ≡ true → Passing cs
passing [] e = tt
passing (c ∷ cs) e = (and_left c (all_pass cs) e, passing cs (and_right c (all_pass cs) e))

all-passing : (cs : List Bool) → Passing cs → all_pass cs ≡ true
all-passing [] p = refl
all-passing (c ∷ cs) p = and_both c (all_pass cs) p.0 (all-passing cs p.1)

module _ (h : History) (b : Book) where
  abbrev ps : Roster
  ps = participants h

  -- every clause passes: the claim holds
  pub claim-holds : all_pass (clauses h b) ≡ true → Claim h b
  unfolding Known
  claim-holds t =
      let all = passing (clauses h b) t in
      let c = all.1 in
      let expiry = c.1.1.1.1.0 in
      let known = each-true known_in (λ e before. Known (order_count before) e.reports)
      (λ e before. below-known (order_count before) e.reports) h c.1.1.1.1.1.0 in
      record {
        told = each-true (λ e before. tells_parties ps e) (λ e before. tells_parties ps e ≡ true) (λ e before q. q) h all.0;
        cover = λ p l. eqb-true _ _ (all-at (cover_at ps h b) ps.size p c.0 l);
        reserved = λ p l. eqb-true _ _ (all-at (reserved_at ps h b) ps.size p c.1.0 l);
        held = eqb-true _ _ c.1.1.0;
        waiting = λ i l. agree-true _ _ (all-at (waiting_at ps h b) (order_count h) i c.1.1.1.0 l);
        expiry =
            each-so (λ e before. (expiry_test ps (order_count h) e before ≡ true) × Known (order_count before) e.reports)
            (λ e before. (i : ℕ) → lets_expire i e before ≡ must_expire ps i e before) (expiry-tells ps (order_count h)) h
            (both-each (λ e before. expiry_test ps (order_count h) e before ≡ true) (λ e before. Known (order_count before) e.reports) h
            (each-true (expiry_test ps (order_count h)) (λ e before. expiry_test ps (order_count h) e before ≡ true) (λ e before q. q) h expiry)
            known);
        known = known;
        once = λ i l. eqb-true _ _ (all-at (once_at h) (order_count h) i c.1.1.1.1.1.1.0 l);
        alike = λ i l. carry-true (code_of (all_endings i h)) (order_amount i h) (all_endings i h)
            (all-at (alike_at h) (order_count h) i c.1.1.1.1.1.1.1.0 l);
      }

  -- the claim holds: every clause passes
  clauses-pass : Claim h b → all_pass (clauses h b) ≡ true
  unfolding Known
  clauses-pass c =
      all-passing (clauses h b) (
        true-each (λ e before. tells_parties ps e) (λ e before. tells_parties ps e ≡ true) (λ e before q. q) h c.told,
        (
          all-to (cover_at ps h b) ps.size (λ p l. eq-eqb _ _ (c.cover p l)),
          (
            all-to (reserved_at ps h b) ps.size (λ p l. eq-eqb _ _ (c.reserved p l)),
            (
              eq-eqb _ _ c.held,
              (
                all-to (waiting_at ps h b) (order_count h) (λ i l. true-agree _ _ (c.waiting i l)),
                (
                  true-each (expiry_test ps (order_count h)) (λ e before. (i : ℕ) → lets_expire i e before ≡ must_expire ps i e before)
                      (λ e before t. all-to (expiry_at ps e before) (order_count before + order_count h) (λ i l. true-agree _ _ (t i))) h
                      c.expiry,
                  (
                    true-each known_in (λ e before. Known (order_count before) e.reports)
                        (λ e before. known-below (order_count before) e.reports) h c.known,
                    (
                      all-to (once_at h) (order_count h) (λ i l. eq-eqb _ _ (c.once i l)),
                      (
                        all-to (alike_at h) (order_count h)
                            (λ i l. true-carry (code_of (all_endings i h)) (order_amount i h) (all_endings i h) (c.alike i l)),
                        tt,
                      ),
                    ),
                  ),
                ),
              ),
            ),
          ),
        ),
      )

  -- a clause fails: the claim is false
  pub claim-fails : all_pass (clauses h b) ≡ false → Claim h b → ⊥
  claim-fails e c = let t = clauses-pass c in let z : ◌≡◌ {A = ℕ} 0 1 = cc in omega arith
