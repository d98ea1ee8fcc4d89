-- Following a payee BIC: 01 'Participants, routes, codes'. `followed` goes by where each row leads, a function from numbers to targets,
-- so that its laws say nothing of lists; of a roster's routes that is `target_in`.
--     target_in      where a row leads
--     way_to         a participant, reached by a number of rows
--     followed      from a row on, by where each leads: the participant reached and the number of rows followed, or None
--     follow_to      the same in at most n rows
--     reached       the participant reached, 0 where there is none
--     rows_followed  the number of rows followed, 0 where no participant is reached
--     rows_in        how many rows are looked at
--     row_with       the row with a BIC
--     followed_bic   from that row on
-- Assumes nothing.
use Rattle.std.specs.Prelude.{ℕ, zero, suc, ◌+◌, min, Bool, cond, List, ltb, Option, Some, None}
use Rattle.fields.specs.Text.{same}
use Rattle.fields.specs.Search.{first_to}
use Rattle.dayfile.specs.FileLimits.{most_routes}
use Rattle.dayfile.specs.Roster.{row_of}
use Rattle.dayfile.specs.declared.roster.Target.{Target}
use Rattle.dayfile.specs.declared.roster.Target.TheVariants.{To, Row}
use Rattle.dayfile.specs.declared.roster.Route.{Route}
use Rattle.dayfile.specs.declared.roster.Roster.{Roster}
use Rattle.dayfile.specs.declared.route.Way.{Way}

abbrev pub way_to : ℕ → ℕ → Option Way
way_to p n = Some (record { participant = p; rows = n })

abbrev pub reached : Option Way → ℕ
reached (Some w) = w.participant
reached None = 0

abbrev pub rows_followed : Option Way → ℕ
rows_followed (Some w) = w.rows
rows_followed None = 0

abbrev pub one_more : Option Way → Option Way
one_more (Some w) = way_to w.participant (w.rows + 1)
one_more None = None

-- a row leads to a participant, or goes on from row k, where k is below its own number
abbrev pub leads : (ℕ → Option Way) → ℕ → Target → Option Way
leads on row (To p) = way_to p 1
leads on row (Row k) = cond (ltb k row) (one_more (on k)) None

abbrev pub follow_to : ℕ → (ℕ → Target) → ℕ → Option Way
follow_to zero target row = None
follow_to (suc n) target row = leads (λ k. follow_to n target k) row (target row)

-- a row is followed in no more rows than its number and itself; a roster has room for 64 rows
unfoldable pub followed : (ℕ → Target) → ℕ → Option Way
followed target row = cond (ltb row most_routes) (follow_to (suc row) target row) None

abbrev pub target_in : List Route → ℕ → Target
target_in routes row = (row_of routes row).target

abbrev pub has_bic : List Route → List ℕ → ℕ → Bool
has_bic routes bic row = same (row_of routes row).bic bic

-- how many rows are looked at: all in use, and a roster has room for 64
abbrev pub rows_in : Roster → ℕ
rows_in r = min most_routes r.rows

-- the first row with the BIC; in an accepted file no other has it
abbrev pub row_with : Roster → List ℕ → Option ℕ
row_with r bic = first_to (has_bic r.routes bic) (rows_in r)

abbrev pub followed_from : Roster → Option ℕ → Option Way
followed_from r (Some row) = followed (target_in r.routes) row
followed_from r None = None

-- 01: following a payee BIC starts at the row with that BIC
abbrev pub followed_bic : Roster → List ℕ → Option Way
followed_bic r bic = followed_from r (row_with r bic)
