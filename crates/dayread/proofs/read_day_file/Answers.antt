-- `dayread::read_day_file` meets its contract. Assumes nothing.
use mathlib.Core.Path.{◌≡◌, sym, ◌∙◌, subst}
use mathlib.Core.List.{List}
use Prim.Native.Nat.{ℕ}
use Rattle.dayfile.specs.DayFile.{day_file, refused_file}
use Rattle.dayfile.specs.Roster.{roster_of}
use Rattle.dayfile.specs.declared.header.Header.{Header}
use Rattle.dayfile.specs.Guarantee.{RosterNumbers}
use Rattle.dayfile.specs.declared.DayFile.{DayFile}
use Rattle.dayfile.proofs.Accepted.{roster-has-numbers}
use Rattle.dayread.proofs.read_day_file.Goals.{in-Ok, in-Err}
use Rattle.dayread.proofs.read_day_file.Goals as goal

-- the enums of what is read have the numbers that stand in the file
both : (f : List ℕ) (d : DayFile) → d ≡ day_file f → (d ≡ day_file f) × RosterNumbers f d.roster
both f d e = (e, subst (λ (x : DayFile). RosterNumbers f x.roster) (sym e) (roster-has-numbers f))

-- a header of nothing gives what a refused file gives
nothing : (f : List ℕ) (n : ℕ) (h : Header) → h.counts.participants ≡ 0 → h.counts.routes ≡ 0 → h.counts.tickets ≡ 0 → h.offsets.tickets ≡ 0
    → ◌≡◌ {A = DayFile} (record { refusal = n; roster = roster_of h f; tickets = h.counts.tickets; first = h.offsets.tickets }) (refused_file n)
nothing f n h p r t o = rw (p, r, t, o)

pub returns : goal.returns
returns c =
    both _ _
    (elim c.match-checked.branch [
      | in-Ok w ↦ rw (c.read_roster.ensures, w.refusal-is) (rw w.in-Ok.is at c.checked.ensures.0)
      | in-Err w ↦
          let e = w.default.ensures in
          rw (c.read_roster.ensures, w.refusal-is)
          (nothing c.args.f.now w.in-Err.refusal w.default.result e.0.0 e.0.1.0 e.0.1.1 e.1.1.1 ∙ (rw w.in-Err.is at c.checked.ensures.0))
    ])
