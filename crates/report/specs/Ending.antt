-- Endings of an order: 01 'Demand 3, word by word'.
--     is_ending     a report 2, 3 or 4 with the order's number
--     endings_in    the endings of an order in a list of reports, in their order
-- Assumes nothing.
use Rattle.std.specs.Prelude.{ℕ, Bool, ◌&&◌, ◌||◌, cond, List, [], ◌∷◌, eqb}
use Rattle.report.specs.declared.Report.{Report}

abbrev pub is_ending : ℕ → Report → Bool
is_ending i r = eqb r.order i && (eqb r.code 2 || eqb r.code 3 || eqb r.code 4)

abbrev pub endings_in : ℕ → List Report → List Report
endings_in i [] = []
endings_in i (r ∷ rs) = cond (is_ending i r) (r ∷ endings_in i rs) (endings_in i rs)
