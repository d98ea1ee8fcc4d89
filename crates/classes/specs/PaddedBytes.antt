-- The bytes of a padded field, each by itself and the one behind it.
--     stands      whether a byte with next behind it may stand in a field of a class: one of the class, or a zero before a zero
-- Assumes nothing.
use Rattle.std.specs.Prelude.{ℕ, Bool, ◌&&◌, ◌||◌, eqb}
use Rattle.classes.specs.Class.{is_in}
use Rattle.classes.specs.declared.Class.{Class}

abbrev pub stands : Class → ℕ → ℕ → Bool
stands class c next = is_in class c || (eqb c 0 && eqb next 0)
