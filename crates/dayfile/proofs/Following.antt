-- The laws of following a route: one row at a time, and in no more rows than its number and itself. Assumes nothing.
use Rattle.std.specs.Prelude.{Some, None, Option}
use mathlib.Core.Path.{◌≡◌, refl, sym, ◌∙◌, ap}
use mathlib.Core.Bool.{Bool, true, false, cond}
use Prim.Native.Nat.{ℕ, zero, suc, ◌+◌, ◌≤◌, ◌<◌}
use native.Mathlib.Nat.{not-suc-le-zero}
use native.Mathlib.Omega.{arith}
use borrow.Author.Tests.{ltb-true, lt-ltb, le-ltb}
use lib.Dec.{ltb}
use Rattle.dayfile.specs.Route.{way_to, rows_followed, one_more, leads, follow_to, followed}
use Rattle.dayfile.specs.declared.roster.Target.{Target}
use Rattle.dayfile.specs.declared.roster.Target.TheVariants.{To, Row}
use Rattle.dayfile.specs.declared.route.Way.{Way}

-- only rows below the row's own number matter
leads-same : (f g : ℕ → Option Way) (row : ℕ) (t : Target) → ((k : ℕ) → k < row → f k ≡ g k) → leads f row t ≡ leads g row t
leads-same f g row (To p) h = refl
leads-same f g row (Row k) h = go (ltb k row) refl
  where
    go : (b : Bool) → ltb k row ≡ b → cond b (one_more (f k)) None ≡ cond b (one_more (g k)) None
    go true e = ap one_more (h k (ltb-true k row e))
    go false e = refl

-- any number of rows above the row's own is enough
enough : (n m : ℕ) (target : ℕ → Target) (row : ℕ) → row < n → row < m → follow_to n target row ≡ follow_to m target row
enough zero m target row h k = absurd (not-suc-le-zero h)
enough (suc n) zero target row h k = absurd (not-suc-le-zero k)
enough (suc n) (suc m) target row h k =
    leads-same (λ j. follow_to n target j) (λ j. follow_to m target j) row (target row)
    (λ j l. enough n m target j (omega arith) (omega arith))

module _ (target : ℕ → Target) (row : ℕ) where
  pub followed-out : 64 ≤ row → followed target row ≡ None
  unfolding followed
  followed-out h = rw (le-ltb row 64 h)

  within : row < 64 → followed target row ≡ follow_to (suc row) target row
  unfolding followed
  within h = rw (lt-ltb row 64 h)

-- one row, and on from there
pub followed-on : (target : ℕ → Target) (row : ℕ) → row < 64 → followed target row ≡ leads (followed target) row (target row)
followed-on target row h =
    within target row h
    ∙ leads-same (λ k. follow_to row target k) (followed target) row (target row)
    (λ k l. enough row (suc k) target k l (omega arith) ∙ sym (within target k (omega arith)))

-- where each row leads to the same, so does following
to_same : (n : ℕ) (f g : ℕ → Target) → ((k : ℕ) → k < 64 → f k ≡ g k) → (row : ℕ) → row < 64 → follow_to n f row ≡ follow_to n g row
to_same zero f g h row l = refl
to_same (suc n) f g h row l =
    leads-same (λ k. follow_to n f k) (λ k. follow_to n g k) row (f row) (λ k b. to_same n f g h k (omega arith))
    ∙ ap (leads (λ k. follow_to n g k) row) (h row l)

pub followed_same : (f g : ℕ → Target) → ((k : ℕ) → k < 64 → f k ≡ g k) → (row : ℕ) → followed f row ≡ followed g row
unfolding followed
followed_same f g h row = go (ltb row 64) refl
  where
    go : (b : Bool) → ltb row 64 ≡ b → cond b (follow_to (suc row) f row) None ≡ cond b (follow_to (suc row) g row) None
    go true a = to_same (suc row) f g h row (ltb-true row 64 a)
    go false a = refl

one-more-rows : (f : Option Way) → rows_followed (one_more f) ≤ rows_followed f + 1
one-more-rows (Some w) = omega arith
one-more-rows None = omega arith

leads-rows : (f : ℕ → Option Way) (n row : ℕ) (t : Target) → ((k : ℕ) → rows_followed (f k) ≤ n) → rows_followed (leads f row t) ≤ suc n
leads-rows f n row (To p) h = omega arith
leads-rows f n row (Row k) h = go (ltb k row)
  where
    go : (b : Bool) → rows_followed (cond b (one_more (f k)) None) ≤ suc n
    go true = let o = one-more-rows (f k) in let g = h k in omega arith
    go false = omega arith

to-rows : (n : ℕ) (target : ℕ → Target) (row : ℕ) → rows_followed (follow_to n target row) ≤ n
to-rows zero target row = omega arith
to-rows (suc n) target row = leads-rows (λ k. follow_to n target k) n row (target row) (λ k. to-rows n target k)

-- a row is followed in no more rows than its number and itself
pub followed-rows : (target : ℕ → Target) (row : ℕ) (w : Way) → followed target row ≡ Some w → w.rows ≤ row + 1
unfolding followed
followed-rows target row w e = go (ltb row 64) refl
  where
    go : (b : Bool) → ltb row 64 ≡ b → w.rows ≤ row + 1
    go true a =
        let e' : ◌≡◌ {A = Option Way} (follow_to (suc row) target row) (Some w) = rw a at e in
        let r : rows_followed (Some w) ≤ suc row = rw e' at (to-rows (suc row) target row) in
        omega arith
    go false a = let e' : ◌≡◌ {A = Option Way} None (Some w) = rw a at e in let z : ◌≡◌ {A = ℕ} 0 1 = cc in omega arith

module _ (target : ℕ → Target) (row : ℕ) (h : row < 64) where
  -- the row leads to a participant
  pub follows_to : (p : ℕ) → target row ≡ To p → followed target row ≡ way_to p 1
  follows_to p e = followed-on target row h ∙ ap (leads (followed target) row) e

  -- the row goes on from an earlier one
  pub follows-row : (k : ℕ) → target row ≡ Row k → k < row → followed target row ≡ one_more (followed target k)
  follows-row k e l = followed-on target row h ∙ ap (leads (followed target) row) e ∙ simp (lt-ltb k row l)

  -- or from none
  pub follows-none : (k : ℕ) → target row ≡ Row k → row ≤ k → followed target row ≡ None
  follows-none k e l = followed-on target row h ∙ ap (leads (followed target) row) e ∙ simp (le-ltb k row l)

pub rows_few : (target : ℕ → Target) (row : ℕ) → rows_followed (followed target row) ≤ 64
unfolding followed
rows_few target row = go (ltb row 64) refl
  where
    go : (b : Bool) → ltb row 64 ≡ b → rows_followed (cond b (follow_to (suc row) target row) None) ≤ 64
    go true a = let h = ltb-true row 64 a in let r = to-rows (suc row) target row in omega arith
    go false a = omega arith
