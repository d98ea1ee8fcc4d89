-- A list that is written for the rules by TxId alone, with the payers named: for every such list there is one (`payers-named`).
--     is_order       a shape is an order's
--     payer_for      the sender of the first order ticket that passes 7 and has that TxId; where there is none, a BIC
--     renaming      each ticket of kinds 4 to 8 names that payer
-- Assumes nothing.
use Rattle.std.specs.Prelude.{ℕ, Bool, false, ◌&&◌, cond, List, [], ◌∷◌, map, eqb, None, Option, Some}
use Rattle.fields.specs.Text.{text, same}
use Rattle.ticket.specs.TicketLayout.{sender_of, txid_field}
use Rattle.ticket.specs.Kind.{kind_number}
use Rattle.ticket.specs.Shape.{shape_of}
use Rattle.rules.specs.Inputs.{Input}
use Rattle.by_txid.specs.OldLists.{about_order, with_payer}
use Rattle.ticket.specs.declared.kinds.Kind.{Kind}

abbrev pub is_order : Option Kind → Bool
is_order (Some kind) = eqb (kind_number kind) 3
is_order None = false

abbrev any_bic : List ℕ
any_bic = text "ZZZZLV22XXX"

abbrev pub payer_for : List Input → List ℕ → List ℕ
payer_for [] txid = any_bic
payer_for (x ∷ xs) txid =
    cond (is_order (shape_of x.ticket) && same (txid_field x.ticket) txid) (sender_of x.ticket) (payer_for xs txid)

abbrev renamed_ticket : List Input → List ℕ → List ℕ
renamed_ticket xs t = cond (about_order t) (with_payer t (payer_for xs (txid_field t))) t

abbrev pub renamed_input : List Input → Input → Input
renamed_input xs x = record { ticket = renamed_ticket xs x.ticket; buffer = x.buffer }

abbrev pub renaming : List Input → List Input
renaming xs = map (renamed_input xs) xs
