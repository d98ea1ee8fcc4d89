-- The loop over the orders that may expire. Assumes nothing.
--     count-is, roster-is    it changes neither
--     kept-there             what is kept beside the book is kept
--     below ..               an order is looked at, one in use
--     freeable, told-fits    there is room for what it frees and tells
--     one-expired            one order more
use Rattle.std.specs.Prelude.{◌≡◌, ℕ, ◌+◌, ◌-◌, ◌*◌, ◌<◌, ◌≤◌, List, length}
use mathlib.Core.Path.{sym, ◌∙◌, ap, subst}
use native.Mathlib.Omega.{arith}
use lib.Seq.{sets, length-sets}
use Rattle.dayfile.specs.declared.roster.Roster.{Roster}
use Rattle.report.specs.ReportLayout.{reports_bytes}
use Rattle.rules.specs.Book.{order_of, key_of}
use Rattle.rules.specs.Tick.{at_time, sweep_to}
use Rattle.rules.specs.Tell.{listed}
use Rattle.rules.specs.Sound.{Sound}
use Rattle.rules.specs.declared.Book.{Book}
use Rattle.rules.proofs.SweepSound.{Swept, swept}
use Rattle.course.specs.Expiry.{expiry_in, lapsed}
use Rattle.course.specs.declared.Expiry.{Expiry}
use Rattle.course.proofs.Looping.{Sweeping, at-sound, at-few, one_more}
use Rattle.course.proofs.Seeking.{swept-key}
use Rattle.course.proofs.SoughtFitting.{Freeable, expiry-fits}
use Rattle.course.proofs.Applying.{listed-few}
use Rattle.course.proofs.Summing.{all_of, swept_all}
use Rattle.turns.specs.Index.{KeyIndex}
use Rattle.turns.specs.Kept.{Kept}
use Rattle.turns.proofs.Index.{same_index}
use Rattle.turns.proofs.CarryingOut.{all-is}

-- c is the book at order m of the expiries
module _ (b : Book) (time : ℕ) (s : Sound (at_time b time)) {n₀ : ℕ} {text₀ : List ℕ} {c : Book} {m n : ℕ} {text : List ℕ}
    (w : Sweeping (at_time b time) n₀ text₀ c m n text) (few : m ≤ b.count) where
  sweeps : Swept (at_time b time) (sweep_to (at_time b time) m)
  sweeps = swept (at_time b time) s m few

  pub count-is : c.count ≡ b.count
  count-is = ap (λ (d : Book). d.count) w.book ∙ sweeps.count

  roster-is : c.roster ≡ b.roster
  roster-is = ap (λ (d : Book). d.roster) w.book ∙ sweeps.roster

  pub kept-there : {words_of : Roster → ℕ × List ℕ → List ℕ} {keys : List (List ℕ)} {all m₀ : ℕ}
      → Kept words_of b keys all m₀ → Kept words_of c keys all m
  kept-there {words_of} {keys} k =
      record {
        index =
            subst (λ (r : Roster). KeyIndex (words_of r) c keys) (sym roster-is)
            (same_index k.index count-is
            (λ i. ap (λ (d : Book). key_of (order_of d.orders i)) w.book ∙ swept-key (at_time b time) s m few i));
        sum =
            k.sum
            ∙ sym (all-is b.covers)
            ∙ sym (swept_all (at_time b time) s m few)
            ∙ ap (λ (d : Book). all_of d.covers) (sym w.book)
            ∙ all-is c.covers;
        passed = w.passed;
        few = let q = count-is in omega arith;
      }

  module _ (l : m < c.count) where
    pub below : m < b.count
    below = let q = count-is in omega arith

    now-sound : Sound c
    now-sound = at-sound (at_time b time) s n₀ text₀ w below

    pub number-below : m < 256
    number-below = let q = now-sound.orders.count in omega arith

    -- the order's parties are participants
    pub payer-below : (order_of c.orders m).payer < 32
    payer-below = let p = now-sound.orders.payer m l in let z = now-sound.roster.size in omega arith

    pub payee-below : (order_of c.orders m).payee < 32
    payee-below = let p = now-sound.orders.payee m l in let z = now-sound.roster.size in omega arith

    pub early : (order_of c.orders m).time ≤ c.clock
    early = now-sound.orders.early m l

    -- one that is old enough
    module _ {x : Expiry} (is : x ≡ expiry_in c m) where
      pub freeable : Freeable c x
      freeable = subst (Freeable c) (sym is) (expiry-fits c now-sound m l)

      pub told-fits : 12 * n₀ + 6144 ≤ length text₀ → 12 * n + 12 * length (listed x.told) ≤ length text
      told-fits has =
          let many = at-few (at_time b time) s n₀ text₀ w below in
          let two = listed-few x.told in
          let long = simp length-sets at (ap length w.reports) in
          omega arith

      pub one-expired : 20 ≤ c.clock - (order_of c.orders m).time → (c' : Book) (n' : ℕ) (text' : List ℕ) → c' ≡ lapsed c m x
          → n' ≡ n + length (listed x.told) → text' ≡ sets text (12 * n) (reports_bytes (listed x.told))
          → Sweeping (at_time b time) n₀ text₀ c' (m + 1) n' text'
      one-expired old c' n' text' book told text-is =
          one_more (at_time b time) s n₀ text₀ w below old c' n' text' (book ∙ ap (lapsed c m) is)
          (told ∙ ap (λ (y : Expiry). n + length (listed y.told)) is)
          (text-is ∙ ap (λ (y : Expiry). sets text (12 * n) (reports_bytes (listed y.told))) is)
