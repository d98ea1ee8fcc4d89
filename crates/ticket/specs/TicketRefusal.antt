-- The paper's number for each answer of each check: 0 where the ticket passes. The number and the flags of each kind are in
-- `Kind.antt`. Assumes nothing.
use Rattle.std.specs.Prelude.{ℕ, None, Option, Some}
use Rattle.ticket.specs.declared.shapes.Account.{Account}
use Rattle.ticket.specs.declared.shapes.Account.TheVariants.{Named, Wrong}
use Rattle.ticket.specs.declared.amounts.Limit.{Limit}
use Rattle.ticket.specs.declared.amounts.Limit.TheVariants.{Within, Above}
use Rattle.ticket.specs.declared.kinds.Kind.{Kind}

abbrev pub kinded_refusal : Option Kind → ℕ
kinded_refusal (Some kind) = 0
kinded_refusal None = 7

-- an unknown kind or flag is one of the ways to be malformed, and the number of all of them
abbrev pub shape_refusal : Option Kind → ℕ
shape_refusal (Some kind) = 0
shape_refusal None = kinded_refusal None

abbrev pub account_refusal : Account → ℕ
account_refusal Named = 0
account_refusal Wrong = 8

abbrev pub stated_refusal : Option ℕ → ℕ
stated_refusal (Some n) = 0
stated_refusal None = 9

abbrev pub amount_limit_refusal : Limit → ℕ
amount_limit_refusal Within = 0
amount_limit_refusal Above = 10
