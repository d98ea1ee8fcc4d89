-- The rows looked at so far are those kept, and none of them has an earlier one's BIC. Assumes nothing.
use Rattle.std.proofs.Common.{◌≡◌, false}
use Rattle.index.specs.RowChains.{rows_of}
use Rattle.index.specs.Words.{bic_words}
use Rattle.dayrows.specs.Repeats.{bic_in, bic_repeats}
use Rattle.dayrows.proofs.repeats.bic_repeats.Given as goal

abbrev pub invariant-loop-i : goal.invariant-loop-i
invariant-loop-i l =
    (l.seen ≡ rows_of (λ j. bic_words (bic_in l.start l.width l.f j)) l.i) × (bic_repeats l.start l.width l.i l.f ≡ false)
