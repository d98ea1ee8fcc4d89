-- The three courses that a step can take: turned back by 6 to 11, refused by 12 or more, or accepted. What holds of each holds of every
-- step; and a step's refusal fits its byte in an answer. What 26 leaves is what 18 leaves. Assumes nothing.
use Rattle.std.specs.Prelude.{Err, Ok, Result, ℕ}
use mathlib.Core.Path.{◌≡◌, refl, ◌∙◌}
use mathlib.Core.Bool.{Bool, true, false, cond}
use mathlib.Core.List.{List}
use mathlib.Core.Logic.{⊎_elim}
use Prim.Native.Nat.{ℕ, ◌≤◌, ◌<◌}
use native.Mathlib.Omega.{arith}
use borrow.Author.Tests.{ltb-false, eqb-true, eqb-false}
use lib.Dec.{ltb, eqb}
use Rattle.ticket.specs.TicketReading.{reading}
use Rattle.ticket.specs.declared.Fields.{Fields}
use Rattle.ticket.proofs.TicketTelling.{Tells, read-tells}
use Rattle.ticket.proofs.Refusals.{refused-number}
use Rattle.rules.specs.Tick.{Step, tick}
use Rattle.rules.specs.Find.{finding}
use Rattle.rules.specs.Refusal.{timing_of, buffer_of, first_refusal}
use Rattle.rules.specs.Decision.{decision_of}
use Rattle.rules.specs.Step.{untouched, ticked, accepted, refused_or, step_timed, step_read, step_of, step_lent, handed}
use Rattle.rules.specs.declared.refusal.Buffer.{Buffer}
use Rattle.rules.specs.declared.refusal.Buffer.TheVariants.{Enough, Short}
use Rattle.rules.specs.declared.finding.Finding.{Finding}
use Rattle.rules.specs.declared.refusal.Timing.TheVariants.{InTime, Early}
use Rattle.rules.specs.declared.Book.{Book}
use Rattle.rules.proofs.Refusing.{NoRefusal, none-applies, Late, refusal-late, refusal-small}

module _ (b : Book) (t : List ℕ) (P : Step → Type 0)
    (turned : (n : ℕ) → 6 ≤ n → n ≤ 11 → P (untouched b n))
    (refused : (f : Fields) → Tells t f → b.clock ≤ f.time → (n : ℕ) → 12 ≤ n → P (ticked (tick b f.time) n))
    (taken : (f : Fields) → Tells t f → b.clock ≤ f.time → NoRefusal (finding (tick b f.time).book f t)
    → P (accepted (tick b f.time) (decision_of (finding (tick b f.time).book f t)))) where
  -- after the expiries
  decided-goes : (f : Fields) → Tells t f → b.clock ≤ f.time → (n : ℕ) → first_refusal (finding (tick b f.time).book f t) ≡ n → Late n
      → P (refused_or n (tick b f.time) (finding (tick b f.time).book f t))
  decided-goes f tells l n e late = go (eqb n 0) refl
    where
      go : (z : Bool) → eqb n 0 ≡ z
          → P (cond z (accepted (tick b f.time) (decision_of (finding (tick b f.time).book f t))) (ticked (tick b f.time) n))
      go true q = taken f tells l (none-applies (finding (tick b f.time).book f t) (e ∙ eqb-true n 0 q))
      go false q =
          ⊎_elim
          (λ (none : n ≡ 0). absurd (eqb-false n 0 q none))
          (λ (low : 12 ≤ n). refused f tells l n low)
          late

  timed-goes : (f : Fields) → Tells t f → P (step_timed b t f (timing_of b.clock f.time))
  timed-goes f tells = go (ltb f.time b.clock) refl
    where
      go : (x : Bool) → ltb f.time b.clock ≡ x → P (step_timed b t f (cond x Early InTime))
      go true q = turned 11 (omega arith) (omega arith)
      go false q =
          let x = finding (tick b f.time).book f t in
          decided-goes f tells (ltb-false f.time b.clock q) (first_refusal x) refl (refusal-late x)

  read_goes : (r : Result Fields ℕ) → reading t ≡ r → P (step_read b t r)
  read_goes (Err n) e = let l = refused-number t n e in turned n (let x = l.0 in omega arith) (let x = l.1 in omega arith)
  read_goes (Ok f) e = timed-goes f (read-tells t f e)

  pub step-goes : P (step_of b t)
  unfolding step_of
  step-goes = read_goes (reading t) refl

  lent_goes : (x : Buffer) → P (step_lent b t x)
  lent_goes Enough = step-goes
  lent_goes Short = turned 6 (omega arith) (omega arith)

  pub handed-goes : (buffer : List ℕ) → P (handed b t buffer)
  unfolding handed
  handed-goes buffer = lent_goes (buffer_of buffer)

module _ (b : Book) (t : List ℕ) where
  decided-small : (w : Step) (x : Finding) → (refused_or (first_refusal x) w x).refusal < 256
  decided-small w x = go (eqb (first_refusal x) 0)
    where
      go : (z : Bool) → (cond z (accepted w (decision_of x)) (ticked w (first_refusal x))).refusal < 256
      go true = omega arith
      go false = refusal-small x

  read_small : (r : Result Fields ℕ) → reading t ≡ r → (step_read b t r).refusal < 256
  read_small (Err n) e = let l = (refused-number t n e).1 in omega arith
  read_small (Ok f) e = go (ltb f.time b.clock)
    where
      go : (x : Bool) → (step_timed b t f (cond x Early InTime)).refusal < 256
      go true = omega arith
      go false = let w = tick b f.time in decided-small w (finding w.book f t)

  pub step-refusal-small : (step_of b t).refusal < 256
  unfolding step_of
  step-refusal-small = read_small (reading t) refl

-- 02, slip 5: 26 leaves what 18 leaves
pub late-leaves : (w : Step) (x : Finding)
    → refused_or 26 w x
    ≡ record { refusal = 26; reports = (refused_or 18 w x).reports; rows = (refused_or 18 w x).rows; book = (refused_or 18 w x).book }
late-leaves w x = refl
