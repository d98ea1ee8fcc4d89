-- What a ticket reads as, by any table of forms: `reading` of `ticket` with the table as a parameter. By `form_of` it is `reading`
-- (`reading-present`).
--     shape_by      refusal 7
--     reading_by    refusal 7, 8, 9 or 10, the first that applies, or the fields
-- Assumes nothing.
use Rattle.std.specs.Prelude.{ℕ, cond, List, eqb, length, Err, None, Option, Result, Some}
use Rattle.ticket.specs.TicketLayout.{ticket_length, kind_byte, flag_byte}
use Rattle.ticket.specs.Kind.{kinded}
use Rattle.ticket.specs.Shape.{well_formed, account_of}
use Rattle.ticket.specs.Amount.{stated_in, limit_of}
use Rattle.ticket.specs.TicketReading.{read_limit}
use Rattle.ticket.specs.TicketRefusal.{shape_refusal, account_refusal, stated_refusal}
use Rattle.ticket.specs.declared.forms.Form.{Form}
use Rattle.ticket.specs.declared.kinds.Kind.{Kind}
use Rattle.ticket.specs.declared.shapes.Account.{Account}
use Rattle.ticket.specs.declared.shapes.Account.TheVariants.{Named, Wrong}
use Rattle.ticket.specs.declared.Fields.{Fields}

module _ (form : Kind → Form) where
  abbrev pub shape_as_by : Option Kind → List ℕ → Option Kind
  shape_as_by (Some kind) t = cond (well_formed (form kind) t) (Some kind) None
  shape_as_by None t = None

  abbrev pub shape_by : List ℕ → Option Kind
  shape_by t = cond (eqb (length t) ticket_length) (shape_as_by (kinded (kind_byte t) (flag_byte t)) t) None

  abbrev pub read_stated_by : Kind → List ℕ → Option ℕ → Result Fields ℕ
  read_stated_by kind t (Some n) = read_limit kind t n (limit_of (form kind) n)
  read_stated_by kind t None = Err (stated_refusal None)

  abbrev pub read_account_by : Kind → List ℕ → Account → Result Fields ℕ
  read_account_by kind t Named = read_stated_by kind t (stated_in (form kind) t)
  read_account_by kind t Wrong = Err (account_refusal Wrong)

  abbrev pub read_shape_by : List ℕ → Option Kind → Result Fields ℕ
  read_shape_by t (Some kind) = read_account_by kind t (account_of (form kind) t)
  read_shape_by t None = Err (shape_refusal None)

  unfoldable pub reading_by : List ℕ → Result Fields ℕ
  reading_by t = read_shape_by t (shape_by t)
