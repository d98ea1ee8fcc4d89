-- The numbers that a reading refuses by. Assumes nothing.
use Rattle.std.specs.Prelude.{Err, None, Ok, Option, Result, Some, ℕ}
use mathlib.Core.Path.{◌≡◌, refl, ap}
use mathlib.Core.Bool.{Bool, true, false, cond}
use mathlib.Core.List.{List}
use Prim.Native.Nat.{ℕ, ◌≤◌}
use native.Mathlib.Omega.{arith}
use lib.Dec.{eqb}
use lib.ListN.{length}
use Rattle.ticket.specs.TicketLayout.{ticket_length, kind_byte, flag_byte}
use Rattle.ticket.specs.Kind.{kinded}
use Rattle.ticket.specs.Form.{form_of}
use Rattle.ticket.specs.Shape.{shape_as, shape_of, account_of}
use Rattle.ticket.specs.Amount.{stated_in, limit_of}
use Rattle.ticket.specs.TicketReading.{reading, read_shape, read_account, read_stated, read_limit}
use Rattle.ticket.specs.TicketRefusal.{kinded_refusal}
use Rattle.ticket.specs.declared.kinds.Kind.{Kind}
use Rattle.ticket.specs.declared.shapes.Account.{Account}
use Rattle.ticket.specs.declared.shapes.Account.TheVariants.{Named, Wrong}
use Rattle.ticket.specs.declared.amounts.Limit.{Limit}
use Rattle.ticket.specs.declared.amounts.Limit.TheVariants.{Within, Above}
use Rattle.ticket.proofs.CheckLaws.{read-malformed}
use Rattle.ticket.specs.declared.Fields.{Fields}

-- a refusal is one of 7 to 10
abbrev InRange : Result Fields ℕ → Type 0
InRange (Ok f) = Unit {0}
InRange (Err n) = (7 ≤ n) × (n ≤ 10)

limit-range : (k : Kind) (t : List ℕ) (n : ℕ) (l : Limit) → InRange (read_limit k t n l)
limit-range k t n Within = tt
limit-range k t n Above = (omega arith, omega arith)

stated-range : (k : Kind) (t : List ℕ) (a : Option ℕ) → InRange (read_stated k t a)
stated-range k t (Some n) = limit-range k t n (limit_of (form_of k) n)
stated-range k t None = (omega arith, omega arith)

account-range : (k : Kind) (t : List ℕ) (a : Account) → InRange (read_account k t a)
account-range k t Named = stated-range k t (stated_in (form_of k) t)
account-range k t Wrong = (omega arith, omega arith)

shape-range : (t : List ℕ) (s : Option Kind) → InRange (read_shape t s)
shape-range t (Some k) = account-range k t (account_of (form_of k) t)
shape-range t None = (omega arith, omega arith)

in-range : (t : List ℕ) → InRange (reading t)
unfolding reading
in-range t = shape-range t (shape_of t)

pub refused-number : (t : List ℕ) (n : ℕ) → reading t ≡ Err n → (7 ≤ n) × (n ≤ 10)
refused-number t n e = rw e at (in-range t)

-- an unknown kind or flag is refused by its own number
pub unknown-refused : (t : List ℕ) → kinded (kind_byte t) (flag_byte t) ≡ None → reading t ≡ Err (kinded_refusal None)
unknown-refused t e = read-malformed t (go (eqb (length t) ticket_length))
  where
    go : (b : Bool) → cond b (shape_as (kinded (kind_byte t) (flag_byte t)) t) None ≡ None
    go true = ap (λ (k : Option Kind). shape_as k t) e
    go false = refl
