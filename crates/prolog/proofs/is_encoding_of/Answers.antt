-- `prolog::is_encoding_of` meets its contract. Assumes nothing.
use mathlib.Core.Path.{ap₂}
use mathlib.Core.Bool.{◌&&◌}
use Rattle.prolog.proofs.is_encoding_of.Goals as goal

pub returns : goal.returns
returns c =
    ap₂ ◌&&◌ c.same_bytes.ensures c.is_encoding.ensures
