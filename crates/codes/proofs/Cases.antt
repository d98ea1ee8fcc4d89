-- Worked cases of BIC and TxId, as rows: the edges of each definition. Those of an IBAN are in `iban`. Assumes nothing.
use mathlib.Core.Path.{refl}
use mathlib.Core.List.{List, [], ◌∷◌, ◌++◌}
use Rattle.fields.specs.Text.{text}
use Rattle.codes.specs.Bic.{is_bic}
use Rattle.codes.specs.Txid.{is_txid}
use Rattle.fields.proofs.CaseRows.{Row, AllMet, all-met}
use Rattle.classes.proofs.Checked.{taken_row, turned_row}

abbrev pub bics : List Row
bics =
    taken_row "a BIC" is_bic (text "AAAALV22XXX")
    ∷ turned_row "eight bytes alone" is_bic (text "AAAALV22")
    ∷ turned_row "twelve bytes" is_bic (text "AAAALV22XXXX")
    ∷ turned_row "a small letter among the six" is_bic (text "AAaALV22XXX")
    ∷ turned_row "seventh byte 0" is_bic (text "AAAALV02XXX")
    ∷ turned_row "seventh byte 1" is_bic (text "AAAALV12XXX")
    ∷ taken_row "seventh byte a letter O" is_bic (text "AAAALVO2XXX")
    ∷ turned_row "eighth byte O" is_bic (text "AAAALV2OXXX")
    ∷ taken_row "eighth byte 0" is_bic (text "AAAALV20XXX")
    ∷ turned_row "a space among the last three" is_bic (text "AAAALV22X X")
    ∷ []

abbrev pub txids : List Row
txids =
    turned_row "nothing" is_txid []
    ∷ taken_row "one byte" is_txid (text "x")
    ∷ taken_row "35 bytes, one of each sign" is_txid (text "AZaz09/-?:().,'+ABCDEFGHIJKLMNOPQRS")
    ∷ turned_row "36 bytes" is_txid (text "AZaz09/-?:().,'+ABCDEFGHIJKLMNOPQRST")
    ∷ turned_row "a space" is_txid (text "A B")
    ∷ turned_row "a zero byte" is_txid (text "A\0B")
    ∷ turned_row "a sign that is not listed" is_txid (text "A*B")
    ∷ []

abbrev pub cases : List Row
cases = bics ++ txids

pub cases-met : AllMet cases
unfolding is_bic is_txid
cases-met = all-met cases refl
