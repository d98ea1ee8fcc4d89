-- `fields::text::same_bytes` meets its contract. The loop's invariant: all are the same where those so far are and those that are left
-- are. Assumes nothing.
use mathlib.Core.Path.{◌≡◌}
use mathlib.Core.Bool.{Bool, ◌&&◌}
use mathlib.Core.List.{List}
use Prim.Native.Nat.{ℕ}
use lib.ListN.{length}
use Rattle.fields.specs.Text.{same}
use Rattle.fields.proofs.text.same_bytes.Given as goal

pub record Inv (a b left_a left_b : List ℕ) (equal : Bool) : Type 0 where
  pub as_long : length left_a ≡ length left_b
  pub left : same a b ≡ (equal && same left_a left_b)

abbrev pub invariant-loop-x : goal.invariant-loop-x
invariant-loop-x l = Inv l.a l.b l.x-iterator.a.rest.now l.x-iterator.b.rest.now l.equal
