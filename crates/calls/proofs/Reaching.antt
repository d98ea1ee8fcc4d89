-- What is carried along a list of inputs, by one promised outcome more, and by one step more. Assumes nothing.
use mathlib.Core.Path.{◌≡◌, sym, subst}
use mathlib.Core.List.{List}
use Prim.Native.Nat.{ℕ, ◌≤◌}
use native.Mathlib.Omega.{arith}
use borrow.Author.Tests.{le-ltb}
use lib.ListN.{length, replicate, length-replicate}
use Rattle.rules.specs.Tick.{Step}
use Rattle.rules.specs.Refusal.{least_buffer}
use Rattle.rules.specs.Step.{step_of, handed, Outcome}
use Rattle.rules.specs.Inputs.{Input, seen, outcome_of}
use Rattle.rules.specs.declared.Book.{Book}
use Rattle.audit.specs.History.{History, ◌▹◌}
use Rattle.audit.specs.Run.{event_of}
use Rattle.audit.proofs.AlongInputs.{Carried, carried_step, carried-outcome}
use Rattle.calls.specs.Steps.{step_event}

-- with a buffer that is long enough for all its reports a ticket's outcome is its step
lent-handed : (b : Book) (t buffer : List ℕ) → least_buffer ≤ length buffer → handed b t buffer ≡ step_of b t
unfolding handed
lent-handed b t buffer enough = rw (le-ltb (length buffer) least_buffer enough)

module _ {h : History} {b : Book} (c : Carried h b) where
  pub carried-promised : (x : Input) (o : Outcome) → o ≡ outcome_of b x → Carried (event_of (seen x o) ▹ h) o.book
  carried-promised x o e = subst (λ (z : Outcome). Carried (event_of (seen x z) ▹ h) z.book) (sym e) (carried-outcome c x)

  pub carried-one : (t : List ℕ) → Carried (step_event t (step_of b t) ▹ h) (step_of b t).book
  carried-one t =
      let buffer : List ℕ = replicate least_buffer 0 in
      subst (λ (s : Step). Carried (step_event t s ▹ h) s.book)
      (lent-handed b t buffer (let l = length-replicate {A = ℕ} least_buffer 0 in omega arith)) (carried_step c t buffer)
