-- The step, by any table of forms and any search for the order that a ticket names. All else is of `ticket` and `rules`. By `form_of` and
-- `order_in` it is `handed` (`handed-present`).
--     order_by_txid    the search by TxId alone
--     handed_by       the step of a ticket with its buffer
--     handed_by_txid   the step by TxId alone: it differs from the present one in `form_by_txid` and `order_by_txid`
--     steps_with      the steps of inputs, one after the other, by a step of each
-- Assumes nothing.
use Rattle.std.specs.Prelude.{ℕ, List, [], ◌∷◌, Option, Err, Ok, Result}
use Rattle.fields.specs.Text.{same}
use Rattle.fields.specs.Search.{first_to}
use Rattle.ticket.specs.TicketLayout.{txid_field}
use Rattle.ticket.specs.declared.Fields.{Fields}
use Rattle.ticket.specs.declared.forms.Form.{Form}
use Rattle.ticket.specs.declared.kinds.Kind.{Kind}
use Rattle.dayfile.specs.declared.roster.Roster.{Roster}
use Rattle.rules.specs.Book.{order_of}
use Rattle.rules.specs.Tick.{Step, tick}
use Rattle.rules.specs.Find.{finding_of}
use Rattle.rules.specs.Refusal.{buffer_of, buffer_refusal, timing_of, timing_refusal}
use Rattle.rules.specs.Step.{untouched, decided}
use Rattle.rules.specs.Inputs.{Input}
use Rattle.rules.specs.declared.refusal.Buffer.{Buffer}
use Rattle.rules.specs.declared.refusal.Buffer.TheVariants.{Enough, Short}
use Rattle.rules.specs.declared.refusal.Timing.{Timing}
use Rattle.rules.specs.declared.refusal.Timing.TheVariants.{InTime, Early}
use Rattle.rules.specs.declared.Order.{Order}
use Rattle.rules.specs.declared.Book.{Book}
use Rattle.by_txid.specs.FormByTxid.{form_by_txid}
use Rattle.by_txid.specs.ReadingBy.{reading_by}

-- the roster is what the search by payer and TxId looks at besides
unfoldable pub order_by_txid : Roster → List Order → ℕ → List ℕ → Option ℕ
order_by_txid r os count t = first_to (λ i. same (order_of os i).txid (txid_field t)) count

module _ (form : Kind → Form) (search : Roster → List Order → ℕ → List ℕ → Option ℕ) where
  abbrev pub after_tick_by : Step → Fields → List ℕ → Step
  after_tick_by w f t =
      decided w (finding_of (search w.book.roster w.book.orders w.book.count t) w.book f t)

  abbrev pub step_timed_by : Book → List ℕ → Fields → Timing → Step
  step_timed_by b t f InTime = after_tick_by (tick b f.time) f t
  step_timed_by b t f Early = untouched b (timing_refusal Early)

  abbrev pub step_read_by : Book → List ℕ → Result Fields ℕ → Step
  step_read_by b t (Ok f) = step_timed_by b t f (timing_of b.clock f.time)
  step_read_by b t (Err n) = untouched b n

  abbrev pub step_lent_by : Book → List ℕ → Buffer → Step
  step_lent_by b t Enough = step_read_by b t (reading_by form t)
  step_lent_by b t Short = untouched b (buffer_refusal Short)

  abbrev pub handed_by : Book → List ℕ → List ℕ → Step
  handed_by b t buffer = step_lent_by b t (buffer_of buffer)

abbrev pub handed_by_txid : Book → List ℕ → List ℕ → Step
handed_by_txid = handed_by form_by_txid order_by_txid

abbrev pub steps_with : (Book → List ℕ → List ℕ → Step) → Book → List Input → List Step
steps_with step b [] = []
steps_with step b (x ∷ xs) = let s = step b x.ticket x.buffer in s ∷ steps_with step s.book xs
