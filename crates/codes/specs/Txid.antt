-- What a TxId is. Assumes nothing.
use Rattle.std.specs.Prelude.{ℕ, Bool, ◌&&◌, List, leb, length}
use Rattle.classes.specs.Class.{all_in}
use Rattle.classes.specs.declared.Class.TheVariants.{Txid}

-- 01: 1 to 35 of A-Z a-z 0-9 / - ? : ( ) . , ' + and no space
unfoldable pub is_txid : List ℕ → Bool
is_txid s = leb 1 (length s) && leb (length s) 35 && all_in Txid s
