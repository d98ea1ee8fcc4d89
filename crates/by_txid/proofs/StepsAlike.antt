-- Two steps are the same where the readings are, and what is done after the expiries. Assumes nothing.
use Rattle.std.specs.Prelude.{Option, Err, Ok, Result, ℕ}
use mathlib.Core.Path.{◌≡◌, refl, ◌∙◌, ap}
use mathlib.Core.Bool.{Bool, true, false, cond}
use mathlib.Core.List.{List}
use Prim.Native.Nat.{ℕ, ◌≤◌}
use borrow.Author.Tests.{ltb-false}
use lib.Dec.{ltb}
use Rattle.ticket.specs.Form.{form_of}
use Rattle.ticket.specs.TicketReading.{reading}
use Rattle.ticket.specs.declared.Fields.{Fields}
use Rattle.ticket.specs.declared.forms.Form.{Form}
use Rattle.ticket.specs.declared.kinds.Kind.{Kind}
use Rattle.ticket.proofs.TicketTelling.{Tells, read-tells}
use Rattle.dayfile.specs.declared.roster.Roster.{Roster}
use Rattle.rules.specs.Tick.{tick}
use Rattle.rules.specs.Find.{order_in}
use Rattle.rules.specs.Refusal.{buffer_of, timing_of}
use Rattle.rules.specs.Step.{after_tick, step_timed, step_read, step_of, step_lent, handed}
use Rattle.rules.specs.declared.refusal.Buffer.{Buffer}
use Rattle.rules.specs.declared.refusal.Buffer.TheVariants.{Enough, Short}
use Rattle.rules.specs.declared.refusal.Timing.TheVariants.{InTime, Early}
use Rattle.rules.specs.declared.Order.{Order}
use Rattle.rules.specs.declared.Book.{Book}
use Rattle.by_txid.specs.ReadingBy.{reading_by}
use Rattle.by_txid.specs.StepBy.{after_tick_by, step_timed_by, step_read_by, step_lent_by, handed_by}
use Rattle.by_txid.proofs.ReadingAlike.{reading-present}

module _ (form : Kind → Form) (search : Roster → List Order → ℕ → List ℕ → Option ℕ) (b : Book) (t u : List ℕ)
    (alike : reading_by form t ≡ reading u)
    (after : (f : Fields) → Tells u f → b.clock ≤ f.time
    → after_tick_by form search (tick b f.time) f t ≡ after_tick (tick b f.time) f u) where
  timed-alike : (f : Fields) → Tells u f
      → step_timed_by form search b t f (timing_of b.clock f.time) ≡ step_timed b u f (timing_of b.clock f.time)
  timed-alike f tells = go (ltb f.time b.clock) refl
    where
      go : (x : Bool) → ltb f.time b.clock ≡ x
          → step_timed_by form search b t f (cond x Early InTime) ≡ step_timed b u f (cond x Early InTime)
      go true e = refl
      go false e = after f tells (ltb-false f.time b.clock e)

  read_alike : (r : Result Fields ℕ) → reading u ≡ r → step_read_by form search b t r ≡ step_read b u r
  read_alike (Ok f) e = timed-alike f (read-tells u f e)
  read_alike (Err n) e = refl

  lent_alike : (x : Buffer) → step_lent_by form search b t x ≡ step_lent b u x
  unfolding step_of
  lent_alike Enough = ap (step_read_by form search b t) alike ∙ read_alike (reading u) refl
  lent_alike Short = refl

  pub handed-alike : (buffer : List ℕ) → handed_by form search b t buffer ≡ handed b u buffer
  unfolding handed
  handed-alike buffer = lent_alike (buffer_of buffer)

-- by the present forms and search it is the step of `rules`
pub handed-present : (b : Book) (t buffer : List ℕ) → handed_by form_of order_in b t buffer ≡ handed b t buffer
handed-present b t buffer = handed-alike form_of order_in b t t (reading-present t) (λ f tells l. refl) buffer
