-- No rows at all may be lent to a search. Assumes nothing.
use mathlib.Core.List.{[]}
use native.Mathlib.Omega.{arith}
use Rattle.index.specs.LentRows.{BicRows, KeyRows}

pub no-bics : BicRows []
no-bics = record { distinct = record { differ = λ i j l k. absurd (omega arith) }; formed = λ s l b e. cc }

pub no_keys : KeyRows []
no_keys = record { distinct = record { differ = λ i j l k. absurd (omega arith) }; formed = λ a s l m b c e. (cc, cc) }
