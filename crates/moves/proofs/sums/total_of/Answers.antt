use Prim.Native.Nat.{ℕ, suc, ◌≤◌, ◌<◌}
use native.Mathlib.Omega.{arith}
use mathlib.Core.List.{List}
use Rattle.fields.proofs.UpTo.{sum-part, sum-prefix}
use Rattle.rules.specs.Book.{cover_of}
use Rattle.rules.specs.Cover.{whole, total_of}
use Rattle.rules.specs.declared.Cover.{Cover}
use Rattle.moves.proofs.sums.total_of.Goals as goal

-- each cover is no more than all, and so are the first p with the next
one-within : (covers : List Cover) (size p : ℕ) → p < size → whole (cover_of covers p) ≤ total_of size covers
one-within covers size p h = sum-part (λ q. whole (cover_of covers q)) size p h

more-within : (covers : List Cover) (size p : ℕ) → p < size → total_of (suc p) covers ≤ total_of size covers
more-within covers size p h = sum-prefix (λ q. whole (cover_of covers q)) (suc p) size h

pub whole-total-requires : goal.whole-total-requires
whole-total-requires c =
    omega (arith, one-within c.args.covers.now _ c.loop-c.c-index c.loop-c-test.true)

pub overflow_add-total : goal.overflow_add-total
overflow_add-total c =
    omega (arith, more-within c.args.covers.now _ c.loop-c.c-index c.loop-c-test.true)
