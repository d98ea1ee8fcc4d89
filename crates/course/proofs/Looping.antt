-- The loop over orders: what holds where the orders below one were looked at, one order more, and the end. Assumes nothing.
use mathlib.Core.Path.{◌≡◌, sym, ◌∙◌, ap, ap₂, subst}
use mathlib.Core.Bool.{Bool, true, false, cond}
use mathlib.Core.List.{List, ◌++◌}
use mathlib.Core.Logic.{◌⊎◌, inl, inr}
use Prim.Native.Nat.{ℕ, suc, ◌+◌, ◌-◌, ◌*◌, ◌≤◌, ◌<◌}
use native.Mathlib.Nat.{add-zero, add_assoc}
use native.Mathlib.Numerals.{add-one}
use native.Mathlib.Omega.{arith}
use lib.Dec.{eqb}
use lib.ListN.{length, length-append}
use lib.Seq.{sets}
use Rattle.report.specs.ReportLayout.{reports_bytes}
use Rattle.report.specs.declared.Report.{Report}
use Rattle.report.proofs.ReportLaws.{put-further}
use Rattle.rules.specs.Book.{order_of}
use Rattle.rules.specs.Tell.{listed}
use Rattle.rules.specs.Tick.{Step, sweep_to}
use Rattle.rules.specs.Sound.{Sound}
use Rattle.rules.specs.declared.Order.{Order}
use Rattle.rules.specs.declared.Book.{Book}
use Rattle.rules.proofs.SweepSound.{swept}
use Rattle.rules.proofs.Reporting.{swept-few}
use Rattle.course.specs.Expiry.{expiry_in, lapsed, Passed}
use Rattle.course.specs.Taking.{unswept, swept_for}
use Rattle.course.proofs.Sweeping.{sweep-book, sweep-reports, passed_none, later-kept, rest-young, one-passed}

-- of book b, n₀ reports standing in the buffer text₀ before it, with the orders below m looked at
pub record Sweeping (b : Book) (n₀ : ℕ) (text₀ : List ℕ) (c : Book) (m n : ℕ) (text : List ℕ) : Type 0 where
  pub book : c ≡ (sweep_to b m).book
  pub told : n ≡ n₀ + length (sweep_to b m).reports
  pub reports : text ≡ sets text₀ (12 * n₀) (reports_bytes (sweep_to b m).reports)
  pub passed : Passed m c

module _ (b : Book) (s : Sound b) (n₀ : ℕ) (text₀ : List ℕ) where
  pub sweep-begun : (m : ℕ) → Passed m b → Sweeping b n₀ text₀ b m n₀ text₀
  sweep-begun m p =
      let none = passed_none m b p m (omega arith) in
      record {
        book = ap (λ (w : Step). w.book) (sym none);
        told = sym (ap (λ (w : Step). n₀ + length w.reports) none ∙ add-zero n₀);
        reports = ap (λ (w : Step). sets text₀ (12 * n₀) (reports_bytes w.reports)) (sym none);
        passed = p;
      }

  module _ {c : Book} {m n : ℕ} {text : List ℕ} (w : Sweeping b n₀ text₀ c m n text) (h : m < b.count) where
    -- the book is sound then, and its order m is the one of b
    pub at-sound : Sound c
    at-sound = subst Sound (sym w.book) (swept b s m (omega arith)).sound

    at_count : c.count ≡ b.count
    at_count = ap (λ (d : Book). d.count) w.book ∙ (swept b s m (omega arith)).count

    pub at-roster : c.roster ≡ b.roster
    at-roster = ap (λ (d : Book). d.roster) w.book ∙ (swept b s m (omega arith)).roster

    -- two reports more have room
    pub at-few : n + 2 ≤ n₀ + 512
    at-few = let f = (swept-few b s m (omega arith)).few in let t = w.told in let l = s.orders.count in omega arith

    pub one_more : 20 ≤ c.clock - (order_of c.orders m).time → (c' : Book) (n' : ℕ) (text' : List ℕ)
        → c' ≡ lapsed c m (expiry_in c m) → n' ≡ n + length (listed (expiry_in c m).told)
        → text' ≡ sets text (12 * n) (reports_bytes (listed (expiry_in c m).told))
        → Sweeping b n₀ text₀ c' (m + 1) n' text'
    one_more old c' n' text' is_c is-n is-text =
        record {
          book = is_c ∙ ap (λ (d : Book). lapsed d m (expiry_in d m)) w.book ∙ sym (sweep-book v m) ∙ ap (λ (w' : Step). w'.book) next;
          told =
              is-n
              ∙ ap (λ (k : ℕ). k + length more) w.told
              ∙ add_assoc n₀ (length v.reports) (length more)
              ∙ ap (λ (k : ℕ). n₀ + k) (sym (length-append v.reports more) ∙ ap length reports-next);
          reports =
              is-text
              ∙ ap₂ (λ (l : List ℕ) (k : ℕ). sets l (12 * k) (reports_bytes more)) w.reports w.told
              ∙ put-further text₀ n₀ v.reports more
              ∙ ap (λ (all : List Report). sets text₀ (12 * n₀) (reports_bytes all)) reports-next;
          passed =
              subst (λ (d : Book). Passed (m + 1) d) (sym is_c)
              (subst (λ (k : ℕ). Passed k (lapsed c m (expiry_in c m))) (sym (add-one m))
              (one-passed m c (rw at-sound.orders.long (let k = at-sound.orders.count in let e = at_count in omega arith)) old
              w.passed));
        }
      where
        v : Step
        v = sweep_to b m

        more : List Report
        more = listed (expiry_in c m).told

        next : sweep_to b (suc m) ≡ sweep_to b (m + 1)
        next = ap (sweep_to b) (sym (add-one m))

        reports-next : v.reports ++ more ≡ (sweep_to b (m + 1)).reports
        reports-next =
            ap (λ (d : Book). v.reports ++ listed (expiry_in d m).told) w.book
            ∙ sym (sweep-reports v m)
            ∙ ap (λ (w' : Step). w'.reports) next

  -- where no order is left to be looked at, or the next one is young
  module _ (refusal : ℕ) {c : Book} {m₀ m n : ℕ} {text : List ℕ} (w : Sweeping b n₀ text₀ c m n text) (first : Passed m₀ b) (low : m₀ ≤ m)
      (high : m ≤ cond (eqb refusal 0) b.count m₀)
      (stops : (cond (eqb refusal 0) b.count m₀ ≤ m) ⊎ (c.clock - (order_of c.orders m).time < 20)) where
    -- refused: none was looked at; else all were, or the rest is young
    pub all-swept : m₀ ≤ b.count → sweep_to b m ≡ swept_for refusal b
    all-swept few = go (eqb refusal 0) high stops
      where
        go : (z : Bool) → m ≤ cond z b.count m₀ → (cond z b.count m₀ ≤ m) ⊎ (c.clock - (order_of c.orders m).time < 20)
            → sweep_to b m ≡ cond z (sweep_to b b.count) (unswept b)
        go false h q = passed_none m₀ b first m h
        go true h (inl q) = let e : m ≡ b.count = omega arith in ap (sweep_to b) e
        go true h (inr q) =
            let r = swept b s m h in
            let clock : c.clock ≡ b.clock = ap (λ (d : Book). d.clock) w.book ∙ r.clock in
            let order : order_of c.orders m ≡ order_of b.orders m = ap (λ (d : Book). order_of d.orders m) w.book
            ∙ later-kept b m m (omega arith) in
            let same : c.clock - (order_of c.orders m).time ≡ b.clock - (order_of b.orders m).time =
            ap₂ (λ (k : ℕ) (o : Order). k - o.time) clock order in
            sym (rest-young b s m (omega arith) b.count h (omega arith))
