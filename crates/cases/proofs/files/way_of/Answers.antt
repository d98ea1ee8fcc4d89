-- `cases::files::way_of` meets its contract. Assumes nothing.
use Rattle.std.specs.Prelude.{◌≡◌, ℕ, ◌≤◌, min, [], length, take, position}
use mathlib.Core.Path.{sym, ◌∙◌, ap}
use borrow.Author.Rules.{rules}
use Rattle.fields.specs.Text.{same}
use Rattle.dayfile.specs.Route.{row_with, followed_from, followed_bic}
use Rattle.dayfile.specs.declared.DayFile.{DayFile}
use Rattle.dayfile.specs.declared.roster.Route.{Route}
use Rattle.dayfile.specs.declared.roster.Target.TheVariants.{To}
use Rattle.cases.proofs.Positions.{first-position}
use Rattle.cases.proofs.files.way_of.Goals as goal

pub returns : goal.returns
returns c =
    let d = c.read_day_file in
    let r = d.result.roster in
    let bic = c.args.bic.now in
    let row = c.row_with in
    let within : c.min-rows.result ≤ length r.routes = search rules in
    let looked : min 64 r.rows ≤ length r.routes = rw (← c.min-rows.ensures) within in
    let found : row.result ≡ row_with r bic =
    row.ensures
    ∙ ap (λ (n : ℕ). position (λ (x : Route). same x.bic bic) (take n r.routes)) c.min-rows.ensures
    ∙ sym (first-position (λ (x : Route). same x.bic bic) r.routes (record { bic = []; target = To 0 }) (min 64 r.rows) looked) in
    c.end_of.ensures
    ∙ ap (followed_from r) found
    ∙ ap (λ (file : DayFile). followed_bic file.roster bic) d.ensures.0
