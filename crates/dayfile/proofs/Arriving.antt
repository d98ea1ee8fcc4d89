-- In a roster that has what an accepted file guarantees every route arrives at a participant: from each row, and from each BIC
-- that a row has. Assumes nothing.
use Rattle.std.specs.Prelude.{Option, Some, None, is_some}
use mathlib.Core.Path.{◌≡◌, refl, ◌∙◌, ap}
use mathlib.Core.Bool.{true}
use mathlib.Core.List.{List}
use Prim.Native.Nat.{ℕ, zero, suc, ◌+◌, ◌≤◌, ◌<◌}
use native.Mathlib.Nat.{not-suc-le-zero, min-le_right, min-eq_right}
use native.Mathlib.Omega.{arith}
use Rattle.fields.specs.Search.{number_of}
use Rattle.fields.proofs.Finding.{found_at}
use Rattle.dayfile.specs.Roster.{route_of}
use Rattle.dayfile.specs.Route.{way_to, one_more, target_in, followed, has_bic, rows_in, row_with, followed_from, followed_bic}
use Rattle.dayfile.specs.Guarantee.{LeadsWithin, Guaranteed}
use Rattle.dayfile.specs.declared.roster.Target.{Target}
use Rattle.dayfile.specs.declared.roster.Target.TheVariants.{To, Row}
use Rattle.dayfile.specs.declared.roster.Roster.{Roster}
use Rattle.dayfile.proofs.Following.{follows_to, follows-row}
use Rattle.dayfile.specs.declared.route.Way.{Way}

-- where a way leads: a participant of the roster, and how many rows were followed
pub record Arrives (r : Roster) (way : Option Way) : Type 0 where
  pub participant : ℕ
  pub rows : ℕ
  pub known : participant < r.size
  pub one : 1 ≤ rows
  pub is : way ≡ way_to participant rows

module _ (r : Roster) (g : Guaranteed r) where
  to : (n row : ℕ) → row < n → row < r.rows → Arrives r (followed (target_in r.routes) row)
  to zero row h l = absurd (not-suc-le-zero h)
  to (suc n) row h l = go (route_of r row).target refl (g.leads row l) (λ k below. to n k (omega arith) (omega arith))
    where
      few : row < 64
      few = let s = g.rows in omega arith

      go : (t : Target) → (route_of r row).target ≡ t → LeadsWithin r.size row (route_of r row).target
          → ((k : ℕ) → k < row → Arrives r (followed (target_in r.routes) k)) → Arrives r (followed (target_in r.routes) row)
      go (To p) e within on = record {
        participant = p;
        rows = 1;
        known = rw e at within;
        one = omega arith;
        is = follows_to (target_in r.routes) row few p e;
      }
      go (Row k) e within on =
          let below : k < row = rw e at within in
          let a = on k below in
          record {
            participant = a.participant;
            rows = a.rows + 1;
            known = a.known;
            one = omega arith;
            is = follows-row (target_in r.routes) row few k e below ∙ ap one_more a.is;
          }

  arrives : (row : ℕ) → row < r.rows → Arrives r (followed (target_in r.routes) row)
  arrives row l = to (suc row) row (omega arith) l

  from_found : (f : Option ℕ) → is_some f ≡ true → number_of f < r.rows → Arrives r (followed_from r f)
  from_found (Some row) e l = arrives row l
  from_found None e l = let z : ◌≡◌ {A = ℕ} 0 1 = cc in absurd (omega arith)

  pub bic-arrives : (bic : List ℕ) → is_some (row_with r bic) ≡ true → Arrives r (followed_bic r bic)
  bic-arrives bic e =
      let low = (found_at (has_bic r.routes bic) (rows_in r) e).below in
      from_found (row_with r bic) e (let m = min-le_right 64 r.rows in omega arith)

-- where a roster has no more rows than it has room for, all in use are looked at
pub rows_in_lem : (r : Roster) → r.rows ≤ 64 → rows_in r ≡ r.rows
rows_in_lem r h = min-eq_right h
