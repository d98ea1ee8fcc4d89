-- The paper's number for each answer of each check: 0 where the check passes. Assumes nothing.
use Rattle.std.specs.Prelude.{ℕ, None, Option, Some}
use Rattle.dayfile.specs.declared.check.Ranged.{Ranged}
use Rattle.dayfile.specs.declared.check.Ranged.TheVariants.{Within, Outside}
use Rattle.dayfile.specs.declared.check.Placed.{Placed}
use Rattle.dayfile.specs.declared.check.Placed.TheVariants as placed-is
use Rattle.dayfile.specs.declared.check.Enrolled.{Enrolled}
use Rattle.dayfile.specs.declared.check.Enrolled.TheVariants as participants-are
use Rattle.dayfile.specs.declared.check.Routed.{Routed}
use Rattle.dayfile.specs.declared.check.Routed.TheVariants as routes-are
use Rattle.dayfile.specs.declared.header.Header.{Header}

abbrev pub headed_refusal : Option Header → ℕ
headed_refusal (Some h) = 0
headed_refusal None = 1

abbrev pub ranged_refusal : Ranged → ℕ
ranged_refusal Within = 0
ranged_refusal Outside = 2

abbrev pub placed_refusal : Placed → ℕ
placed_refusal placed-is.Right = 0
placed_refusal placed-is.Wrong = 3

abbrev pub enrolled_refusal : Enrolled → ℕ
enrolled_refusal participants-are.Right = 0
enrolled_refusal participants-are.Wrong = 4

abbrev pub routed_refusal : Routed → ℕ
routed_refusal routes-are.Right = 0
routed_refusal routes-are.Wrong = 5
