-- Attributes that a text begins with, counted from the left, and whether a name stands among them twice. Where attributes are read there,
-- these are their names (`repeats-read`), so nobody has to believe these definitions.
--     name_in       the name of the attribute that a text begins with
--     behind       what stands behind that attribute
--     has_name_in    a name is that of one of n attributes
--     repeats_in    two of n attributes have the same name
-- Assumes nothing.
use Rattle.std.specs.Prelude.{ℕ, zero, suc, Bool, false, ◌||◌, List, drop}
use Rattle.fields.specs.Text.{same}
use Rattle.xml.specs.Bytes.{is_space, is_name, run, past}
use Rattle.xml.specs.Scanning.{from_close}

unfoldable pub name_in : List ℕ → List ℕ
name_in s = run is_name (past is_space s)

unfoldable pub behind : List ℕ → List ℕ
behind s = drop 1 (from_close (past is_space s))

abbrev pub has_name_in : List ℕ → ℕ → List ℕ → Bool
has_name_in name zero s = false
has_name_in name (suc n) s = same name (name_in s) || has_name_in name n (behind s)

unfoldable pub repeats_in : ℕ → List ℕ → Bool
repeats_in zero s = false
repeats_in (suc n) s = has_name_in (name_in s) n (behind s) || repeats_in n (behind s)
