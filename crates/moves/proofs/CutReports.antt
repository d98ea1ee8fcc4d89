-- The reports of a cut: at most one for each participant, and those of one participant more. Assumes nothing.
use Rattle.std.specs.Prelude.{None, Option, Some, ℕ}
use mathlib.Core.Path.{◌≡◌, sym, ◌∙◌, ap, ap₂}
use mathlib.Core.Bool.{Bool, true, false, cond}
use mathlib.Core.List.{List, [], ◌∷◌}
use Prim.Native.Nat.{ℕ, zero, suc, ◌+◌, ◌*◌, ◌-◌, ◌≤◌}
use native.Mathlib.Numerals.{add-one}
use native.Mathlib.Omega.{arith}
use lib.Dec.{ltb}
use lib.ListN.{length, length-append}
use lib.Seq.{sets}
use Rattle.dayfile.specs.Roster.{participant_of}
use Rattle.dayfile.specs.declared.roster.Roster.{Roster}
use Rattle.report.specs.ReportLayout.{reports_bytes}
use Rattle.report.specs.declared.Report.{Report}
use Rattle.report.proofs.ReportLaws.{put-further}
use Rattle.rules.specs.Book.{cover_of}
use Rattle.rules.specs.Cut.{cut_report, cut_reports_to}
use Rattle.rules.specs.Tell.{tell_cut}
use Rattle.rules.specs.declared.Cover.{Cover}

one_at_most : (p : ℕ) (o : Option ℕ) (c : Cover) → length (cut_report p o c) ≤ 1
one_at_most p None c = omega arith
one_at_most p (Some k) c = go (ltb k c.available) (ltb c.available k)
  where
    go : (x y : Bool) → length (cond x (tell_cut p 11 (c.available - k) ∷ []) (cond y (tell_cut p 10 (k - c.available) ∷ []) [])) ≤ 1
    go true y = omega arith
    go false true = omega arith
    go false false = omega arith

module _ (r : Roster) (cs : List Cover) where
  -- what participant p is told
  abbrev pub own : ℕ → List Report
  own p = cut_report p (participant_of r p).opening (cover_of cs p)

  pub own-at-most-one : (p : ℕ) → length (own p) ≤ 1
  own-at-most-one p = one_at_most p (participant_of r p).opening (cover_of cs p)

  pub each-at-most-one : (p : ℕ) → length (cut_reports_to r cs p) ≤ p
  each-at-most-one zero = omega arith
  each-at-most-one (suc p) =
      let first = each-at-most-one p in
      let last = own-at-most-one p in
      omega (arith, length-append (cut_reports_to r cs p) (own p))

  -- one participant more
  pub count-on : (p n m : ℕ) → m ≡ n + length (cut_reports_to r cs p) → m + length (own p) ≡ n + length (cut_reports_to r cs (p + 1))
  count-on p n m e = rw add-one (omega (arith, length-append (cut_reports_to r cs p) (own p)))

  pub reports-on : (p n m : ℕ) (s t : List ℕ) → m ≡ n + length (cut_reports_to r cs p)
      → t ≡ sets s (12 * n) (reports_bytes (cut_reports_to r cs p))
      → sets t (12 * m) (reports_bytes (own p)) ≡ sets s (12 * n) (reports_bytes (cut_reports_to r cs (p + 1)))
  reports-on p n m s t e f =
      ap₂ (λ (b : List ℕ) (k : ℕ). sets b (12 * k) (reports_bytes (own p))) f e
      ∙ put-further s n (cut_reports_to r cs p) (own p)
      ∙ ap (λ (k : ℕ). sets s (12 * n) (reports_bytes (cut_reports_to r cs k))) (sym (add-one p))
