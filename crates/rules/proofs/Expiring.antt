-- What the expiries do to each order, to each cover and to the reports. Assumes nothing.
use mathlib.Core.Path.{◌≡◌, refl, sym, ◌∙◌, ap₂}
use mathlib.Core.Bool.{Bool, true, false, cond}
use mathlib.Core.List.{List, [], ◌∷◌, ◌++◌, append-nil}
use mathlib.Core.Logic.{⊎_elim}
use Prim.Native.Nat.{ℕ, zero, suc, ◌≤◌, ◌<◌}
use native.Mathlib.Nat.{not-suc-le-zero}
use native.Mathlib.Omega.{arith}
use borrow.Author.Tests.{eq-eqb, ne_eqb}
use lib.ListN.{set}
use lib.Seq.{get_or-set_same, get_or-set_other}
use Rattle.report.specs.Ending.{endings_in}
use Rattle.report.specs.declared.Report.{Report}
use Rattle.report.proofs.Ending.{endings-append}
use Rattle.rules.specs.Book.{no_order, order_of, cover_of, is_bank}
use Rattle.rules.specs.Status.{is_waiting, with_status}
use Rattle.rules.specs.Cover.{transferred, whole}
use Rattle.rules.specs.Tell.{tell_order}
use Rattle.rules.specs.Tick.{Step, due, freed, expire_told, sweep_to, at_time, tick}
use Rattle.rules.specs.Sound.{Sound}
use Rattle.rules.specs.declared.Status.TheVariants.{Expired}
use Rattle.rules.specs.declared.Order.{Order}
use Rattle.rules.specs.declared.Cover.{Cover}
use Rattle.rules.specs.declared.Book.{Book}
use Rattle.fields.proofs.Compared.{same_or_not, below_or_not}
use Rattle.rules.proofs.CoverMoving.{for-none, fitted, transfer-whole, transfer-leaves}
use Rattle.rules.proofs.SoundLimits.{waiting-reserved}
use Rattle.rules.proofs.SoundKeeping.{later-sound}
use Rattle.rules.proofs.SweepSound.{Swept, swept, due-waits, tick-swept}

-- order i is due in the book
abbrev pub due_in : Book → ℕ → Bool
due_in b i = let o = order_of b.orders i in due b.clock o (is_bank b.roster o.payee)

abbrev pub expired_if : Bool → Order → Order
expired_if d o = cond d (with_status o Expired) o

-- report 4 to payer, then payee
abbrev pub fours : ℕ → Order → List Report
fours i o = tell_order o.payer 4 i o ∷ tell_order o.payee 4 i o ∷ []

-- each report has the code
abbrev pub AllCode : ℕ → List Report → Type 0
AllCode code [] = Unit {0}
AllCode code (r ∷ rs) = (r.code ≡ code) × AllCode code rs

code-append : (code : ℕ) (rs ts : List Report) → AllCode code rs → AllCode code ts → AllCode code (rs ++ ts)
code-append code [] ts a b = b
code-append code (r ∷ rs) ts a b = (a.0, code-append code rs ts a.1 b)

-- a participant's cover but for what is available and reserved
pub record Apart (c d : Cover) : Type 0 where
  pub whole : whole d ≡ whole c
  pub held : d.held ≡ c.held
  pub debit : d.debit ≡ c.debit

-- from book b to book w, with reports: each order that is due has expired
pub record Expires (expires : ℕ → Bool) (b w : Book) (rs : List Report) : Type 0 where
  pub count : w.count ≡ b.count
  pub roster : w.roster ≡ b.roster
  pub waited : (i : ℕ) → expires i ≡ true → is_waiting (order_of b.orders i).status ≡ true
  pub order : (i : ℕ) → i < b.count → order_of w.orders i ≡ expired_if (expires i) (order_of b.orders i)
  pub ends : (i : ℕ) → i < b.count → endings_in i rs ≡ cond (expires i) (fours i (order_of b.orders i)) []
  pub none : (i : ℕ) → b.count ≤ i → endings_in i rs ≡ []
  pub cover : (p : ℕ) → p < b.roster.size → Apart (cover_of b.covers p) (cover_of w.covers p)
  pub code : AllCode 4 rs

-- where the first n orders were looked at
record SweptTo (b : Book) (n : ℕ) (w : Step) : Type 0 where
  order : (i : ℕ) → i < n → order_of w.book.orders i ≡ expired_if (due_in b i) (order_of b.orders i)
  later : (i : ℕ) → n ≤ i → order_of w.book.orders i ≡ order_of b.orders i
  ends : (i : ℕ) → i < n → endings_in i w.reports ≡ cond (due_in b i) (fours i (order_of b.orders i)) []
  none : (i : ℕ) → n ≤ i → endings_in i w.reports ≡ []
  cover : (p : ℕ) → p < b.roster.size → Apart (cover_of b.covers p) (cover_of w.book.covers p)
  code : AllCode 4 w.reports

-- a fact of each number below n, and of n
up_to : (P : ℕ → Type 0) (n : ℕ) → ((i : ℕ) → i < n → P i) → P n → (i : ℕ) → i < suc n → P i
up_to P n before this i l =
    ⊎_elim (λ (e : i ≡ n). rw e this) (λ (k : i ≡ n → ⊥).
    before i (let m = below_or_not i n in ⊎_elim (λ (h : i < n). h) (λ (h : n ≤ i). absurd (k (omega arith))) m)) (same_or_not i n)

-- the endings among an order's two reports
own-fours : (i : ℕ) (o : Order) → endings_in i (fours i o) ≡ fours i o
own-fours i o = simp (eq-eqb i i refl)

other-fours : (i j : ℕ) (o : Order) → (j ≡ i → ⊥) → endings_in i (fours j o) ≡ []
other-fours i j o k = simp (ne_eqb j i k)

-- order n expires
module _ (b : Book) (n : ℕ) (w : Step) (h : n < w.book.count) (s : Sound w.book) (t : SweptTo b n w)
    (waits : is_waiting (order_of w.book.orders n).status ≡ true) (is-due : due_in b n ≡ true) where
  abbrev o : Order
  o = order_of w.book.orders n

  is : o ≡ order_of b.orders n
  is = t.later n (omega arith)

  here : order_of (set w.book.orders n (with_status o Expired)) n ≡ with_status o Expired
  here = get_or-set_same w.book.orders n (with_status o Expired) no_order (rw s.orders.long (let c = s.orders.count in omega arith))

  there : (i : ℕ) → (i ≡ n → ⊥) → order_of (set w.book.orders n (with_status o Expired)) i ≡ order_of w.book.orders i
  there i k = get_or-set_other w.book.orders n i (with_status o Expired) no_order k

  apart : (p : ℕ) → p < b.roster.size → Apart (cover_of b.covers p) (cover_of (transferred (freed o) w.book.covers) p)
  apart p l =
      let v = w.book in
      let enough = waiting-reserved v s n h waits in
      let payer = s.orders.payer n h in
      let e = transfer-whole (fitted s.roster.size s.covers) (freed o) payer enough p in
      let z = for-none o.payer p in
      let before = t.cover p l in
      record {
        whole = let a = before.whole in omega arith;
        held = transfer-leaves (fitted s.roster.size s.covers) (freed o) payer (λ (c : Cover). c.held) refl p ∙ before.held;
        debit = transfer-leaves (fitted s.roster.size s.covers) (freed o) payer (λ (c : Cover). c.debit) refl p ∙ before.debit;
      }

  expire-one : SweptTo b (suc n) (expire_told w n o)
  expire-one =
      record {
        order =
            up_to (λ i. order_of (set w.book.orders n (with_status o Expired)) i ≡ expired_if (due_in b i) (order_of b.orders i)) n
            (λ i l. there i (λ e. omega arith) ∙ t.order i l)
            (here ∙ rw (is-due, is));
        later = λ i l. there i (λ e. omega arith) ∙ t.later i (omega arith);
        ends =
            up_to (λ i. endings_in i (w.reports ++ fours n o) ≡ cond (due_in b i) (fours i (order_of b.orders i)) []) n
            (λ i l. endings-append i w.reports (fours n o)
            ∙ ap₂ ◌++◌ (t.ends i l) (other-fours i n o (λ e. omega arith)) ∙ append-nil _)
            (endings-append n w.reports (fours n o) ∙ ap₂ ◌++◌ (t.none n (omega arith)) (own-fours n o) ∙ rw (is-due, is));
        none = λ i l. endings-append i w.reports (fours n o) ∙ ap₂ ◌++◌ (t.none i (omega arith)) (other-fours i n o (λ e. omega arith));
        cover = apart;
        code = code-append 4 w.reports (fours n o) t.code (refl, (refl, tt));
      }

-- order n does not
keep_one : (b : Book) (n : ℕ) (w : Step) → SweptTo b n w → due_in b n ≡ false → SweptTo b (suc n) w
keep_one b n w t not-due =
    record {
      order = up_to (λ i. order_of w.book.orders i ≡ expired_if (due_in b i) (order_of b.orders i)) n t.order
          (t.later n (omega arith) ∙ rw not-due);
      later = λ i l. t.later i (omega arith);
      ends = up_to (λ i. endings_in i w.reports ≡ cond (due_in b i) (fours i (order_of b.orders i)) []) n t.ends
          (t.none n (omega arith) ∙ rw not-due);
      none = λ i l. t.none i (omega arith);
      cover = t.cover;
      code = t.code;
    }

swept-to : (b : Book) → Sound b → (n : ℕ) → n ≤ b.count → SweptTo b n (sweep_to b n)
swept-to b s zero h =
    record {
      order = λ i l. absurd (not-suc-le-zero l);
      later = λ i l. refl;
      ends = λ i l. absurd (not-suc-le-zero l);
      none = λ i l. refl;
      cover = λ p l. record { whole = refl; held = refl; debit = refl };
      code = tt;
    }
swept-to b s (suc n) h =
    go (swept b s n (omega arith)) (swept-to b s n (omega arith)) (due w.book.clock o (is_bank w.book.roster o.payee)) refl
  where
    w : Step
    w = sweep_to b n

    o : Order
    o = order_of w.book.orders n

    go : Swept b w → SweptTo b n w → (d : Bool) → due w.book.clock o (is_bank w.book.roster o.payee) ≡ d
        → SweptTo b (suc n) (cond d (expire_told w n o) w)
    go r t true e =
        expire-one b n w (let c = r.count in omega arith) r.sound t
        (due-waits w.book.clock o (is_bank w.book.roster o.payee) e)
        (sym (same-due r t) ∙ e)
      where
        same-due : Swept b w → SweptTo b n w → due w.book.clock o (is_bank w.book.roster o.payee) ≡ due_in b n
        same-due r t = rw (r.clock, r.roster, t.later n (omega arith))
    go r t false e = keep_one b n w t (sym (rw (r.clock, r.roster, t.later n (omega arith))) ∙ e)

-- a tick of a time that is not before the clock
pub tick-expires : (b : Book) → Sound b → (time : ℕ) → b.clock ≤ time
    → Expires (due_in (at_time b time)) b (tick b time).book (tick b time).reports
unfolding tick
tick-expires b s time l =
    let t = swept-to (at_time b time) (later-sound b s time l) b.count (omega arith) in
    let w = tick-swept b s time l in
    record {
      count = w.count;
      roster = w.roster;
      waited = λ i e. due-waits time (order_of b.orders i) (is_bank b.roster (order_of b.orders i).payee) e;
      order = t.order;
      ends = t.ends;
      none = t.none;
      cover = t.cover;
      code = t.code;
    }

-- a ticket that is turned back by 6 to 11 lets nothing expire
pub nothing-expires : (b : Book) → Expires (λ i. false) b b []
nothing-expires b =
    record {
      count = refl;
      roster = refl;
      waited = λ i e. let z : ◌≡◌ {A = ℕ} 0 1 = cc in absurd (omega arith);
      order = λ i l. refl;
      ends = λ i l. refl;
      none = λ i l. refl;
      cover = λ p l. record { whole = refl; held = refl; debit = refl };
      code = tt;
    }
