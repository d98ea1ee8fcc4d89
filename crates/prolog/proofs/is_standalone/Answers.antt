-- `prolog::is_standalone` meets its contract. Assumes nothing.
use mathlib.Core.Path.{ap₂}
use mathlib.Core.Bool.{◌&&◌, ◌||◌}
use Rattle.prolog.proofs.is_standalone.Goals as goal

pub returns : goal.returns
returns c =
    ap₂ ◌&&◌ c.same_bytes.ensures (ap₂ ◌||◌ c.same_bytes-2.ensures c.same_bytes-3.ensures)
