-- `meet` finds an element's role, and keeps what is asked of it. Assumes nothing.
use Rattle.std.proofs.Common.{◌≡◌, ◌≤◌, refl, sym, ◌∙◌, ap, arith}
use Rattle.pacs.specs.declared.rows.Role.{Role}
use Rattle.pacs.specs.declared.rows.Role.TheVariants.{Outside, Named, Skipped, Other}
use Rattle.pacs.specs.declared.rows.Row.{Row}
use Rattle.pacs.specs.Wrongs.{role_number}
use Rattle.reader.proofs.Meetings.{met-skipped, met-named}
use Rattle.reader.proofs.meeting.meet.Goals as goal

-- neither a named element nor what stands around the root
skipped-else : (r : Role) → ((row : Row) → r ≡ Named row → ⊥) → role_number r ≤ 17 → (role_number r ≡ 16 → ⊥) → role_number r ≡ 17
skipped-else Outside h l o = absurd (o refl)
skipped-else (Named row) h l o = absurd (h row refl)
skipped-else Skipped h l o = refl
skipped-else (Other n) h l o = absurd (omega arith)

pub returns-in-Named : goal.returns-in-Named
returns-in-Named c =
    let is = sym (ap role_number c.in-Named.is) ∙ c.row_of-role.ensures.0 in
    record {
      met = met-named _ _ _ _ _ _ _ _ is _ (let low = c.in-Named.row.in_range in λ e. omega arith) c.note.ensures.0;
      placed = c.note.ensures.1;
    }

pub returns-in_default : goal.returns-in_default
returns-in_default c =
    let role = c.row_of-role.ensures in
    record {
      met = met-skipped _ _ _ _ _ _ _ _ role.0 (skipped-else _ c.in_default.not-Named role.1 role.2);
      placed = λ before. before;
    }
