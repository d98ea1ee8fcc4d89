-- What a ticket of any bytes and length reads as: refusal 7, 8, 9 or 10, the first that applies, or its fields.
--     reading    the refusal, or the fields
--     txid_part   the TxId without its padding; empty where it is malformed or the ticket isn't 108 bytes
-- Assumes nothing.
use Rattle.std.specs.Prelude.{ℕ, cond, List, [], eqb, length, Err, None, Ok, Option, Result, Some}
use Rattle.codes.specs.Txid.{is_txid}
use Rattle.ticket.specs.TicketLayout.{ticket_length, time_of, txid_of}
use Rattle.ticket.specs.Form.{form_of}
use Rattle.ticket.specs.Shape.{shape_of, account_of}
use Rattle.ticket.specs.Amount.{stated_in, limit_of}
use Rattle.ticket.specs.TicketRefusal.{shape_refusal, account_refusal, stated_refusal, amount_limit_refusal}
use Rattle.ticket.specs.declared.kinds.Kind.{Kind}
use Rattle.ticket.specs.declared.shapes.Account.{Account}
use Rattle.ticket.specs.declared.shapes.Account.TheVariants.{Named, Wrong}
use Rattle.ticket.specs.declared.amounts.Limit.{Limit}
use Rattle.ticket.specs.declared.amounts.Limit.TheVariants.{Within, Above}
use Rattle.ticket.specs.declared.Fields.{Fields}

abbrev pub read_limit : Kind → List ℕ → ℕ → Limit → Result Fields ℕ
read_limit kind t n Within = Ok (record { kind = kind; time = time_of t; amount = n })
read_limit kind t n Above = Err (amount_limit_refusal Above)

abbrev pub read_stated : Kind → List ℕ → Option ℕ → Result Fields ℕ
read_stated kind t (Some n) = read_limit kind t n (limit_of (form_of kind) n)
read_stated kind t None = Err (stated_refusal None)

abbrev pub read_account : Kind → List ℕ → Account → Result Fields ℕ
read_account kind t Named = read_stated kind t (stated_in (form_of kind) t)
read_account kind t Wrong = Err (account_refusal Wrong)

abbrev pub read_shape : List ℕ → Option Kind → Result Fields ℕ
read_shape t (Some kind) = read_account kind t (account_of (form_of kind) t)
read_shape t None = Err (shape_refusal None)

unfoldable pub reading : List ℕ → Result Fields ℕ
reading t = read_shape t (shape_of t)

unfoldable pub txid_part : List ℕ → List ℕ
txid_part t = cond (eqb (length t) ticket_length) (cond (is_txid (txid_of t)) (txid_of t) []) []
