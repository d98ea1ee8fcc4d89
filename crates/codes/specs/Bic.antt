-- What a BIC is. Assumes nothing.
use Rattle.std.specs.Prelude.{ℕ, Bool, ◌&&◌, List, eqb, length, get_or, take, drop}
use Rattle.classes.specs.Class.{is_in, all_in}
use Rattle.classes.specs.declared.Class.TheVariants.{Capital, CapitalOr2To9, CapitalButOOrDigit, CapitalOrDigit}

-- 01: 11 bytes: six A-Z; one of A-Z or 2-9; one of A-Z but O, or 0-9; three of A-Z or 0-9
unfoldable pub is_bic : List ℕ → Bool
is_bic s =
    eqb (length s) 11
    && all_in Capital (take 6 s)
    && is_in CapitalOr2To9 (get_or s 6 0)
    && is_in CapitalButOOrDigit (get_or s 7 0)
    && all_in CapitalOrDigit (drop 8 s)
