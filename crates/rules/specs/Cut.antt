-- The cut: 01 'Cut, by participant number, for those with an opening cover'. It goes by roster and covers alone.
--     cut_cover       what it makes of a participant's cover
--     cut_report      what it tells the participant
--     cut_to          the covers when the first n participants are cut
--     cut_reports_to   what those are told
-- Assumes nothing.
use Rattle.std.specs.Prelude.{ℕ, zero, suc, ◌+◌, ◌-◌, cond, List, [], ◌∷◌, ◌++◌, ltb, set, None, Option, Some}
use Rattle.dayfile.specs.Roster.{participant_of}
use Rattle.dayfile.specs.declared.roster.Roster.{Roster}
use Rattle.report.specs.declared.Report.{Report}
use Rattle.rules.specs.Book.{cover_of}
use Rattle.rules.specs.Tell.{tell_cut}
use Rattle.rules.specs.declared.Cover.{Cover}

-- available above it, the excess goes to held
abbrev pub with_held : ℕ → Cover → Cover
with_held n c = record { available = c.available - n; reserved = c.reserved; held = c.held + n; debit = c.debit }

-- below it, the gap becomes open debit
abbrev pub with_debit : ℕ → Cover → Cover
with_debit n c = record { available = c.available; reserved = c.reserved; held = c.held; debit = n }

abbrev pub cut_cover : Option ℕ → Cover → Cover
cut_cover None c = c
cut_cover (Some k) c =
    cond (ltb k c.available) (with_held (c.available - k) c) (cond (ltb c.available k) (with_debit (k - c.available) c) c)

-- above: report 11; below: report 10; equal, none. Both go to the participant with that amount
abbrev pub cut_report : ℕ → Option ℕ → Cover → List Report
cut_report p None c = []
cut_report p (Some k) c =
    cond (ltb k c.available) (tell_cut p 11 (c.available - k) ∷ [])
    (cond (ltb c.available k) (tell_cut p 10 (k - c.available) ∷ []) [])

abbrev pub cut_to : Roster → List Cover → ℕ → List Cover
cut_to r cs zero = cs
cut_to r cs (suc p) = set (cut_to r cs p) p (cut_cover (participant_of r p).opening (cover_of cs p))

abbrev pub cut_reports_to : Roster → List Cover → ℕ → List Report
cut_reports_to r cs zero = []
cut_reports_to r cs (suc p) = cut_reports_to r cs p ++ cut_report p (participant_of r p).opening (cover_of cs p)
