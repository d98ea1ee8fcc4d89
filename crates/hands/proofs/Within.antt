-- The reports that an answer counts lie within the buffer that was lent for the ticket.
-- Assumes nothing.
use mathlib.Core.Path.{◌≡◌, refl, ap}
use mathlib.Core.Bool.{Bool, true, false, cond}
use mathlib.Core.List.{List}
use Prim.Native.Nat.{ℕ, ◌*◌, ◌≤◌}
use native.Mathlib.Omega.{arith}
use lib.Dec.{ltb}
use lib.ListN.{length}
use borrow.Author.Tests.{ltb-false}
use Rattle.rules.specs.Refusal.{least_buffer}
use Rattle.rules.specs.Step.{Outcome, step_lent, handed}
use Rattle.rules.specs.Sound.{Sound}
use Rattle.rules.specs.declared.Book.{Book}
use Rattle.rules.specs.declared.refusal.Buffer.TheVariants.{Enough, Short}
use Rattle.rules.proofs.Reporting.{step-few}
use Rattle.book.specs.Handing.{Hands}
use Rattle.book.specs.declared.handing.Handed.{Handed}

module _ (b : Book) (s : Sound b) (t buffer : List ℕ) where
  lent-within : (short : Bool) → ltb (length buffer) least_buffer ≡ short
      → 12 * length (step_lent b t (cond short Short Enough)).reports ≤ length buffer
  lent-within true e = omega arith
  lent-within false e = let few = (step-few b s t).few in omega (arith, ltb-false (length buffer) least_buffer e)

  handed-within : 12 * length (handed b t buffer).reports ≤ length buffer
  unfolding handed
  handed-within = lent-within (ltb (length buffer) least_buffer) refl

pub reports-within : {b : Book} {t buffer after : List ℕ} {r : Handed} → Sound b → Hands b t buffer r after → length after ≡ length buffer
    → 12 * r.reports ≤ length after
reports-within {b} {t} {buffer} s h kept =
    let count = ap (λ (o : Outcome). o.reports) h.outcome in
    omega (arith, handed-within b s t buffer)
