-- A transfer as 10 bytes, and transfers in a buffer.
--     transfer_length     its length
--     transfer_bytes      a transfer as bytes
--     transfer_at         the transfer number n of a buffer
--     transfers_bytes     transfers one after the other
--     transfers_of        the first n transfers of a buffer
--     transfers_laid      a buffer after transfers are laid down from its start
--     FittingTransfer    a transfer's fields are numbers of their widths; AllFittingTransfers: those of each transfer
-- Assumes nothing.
use Rattle.std.specs.Prelude.{ℕ, zero, suc, ◌+◌, ◌*◌, ◌^◌, ◌<◌, List, [], ◌∷◌, ◌++◌, map, length, get_or, drop}
use Rattle.fields.specs.Number.{number_at, bytes_of}
use Rattle.fields.specs.Text.{joined}
use Rattle.desk.specs.declared.Transfer.{Transfer}

abbrev pub transfer_length : ℕ
transfer_length = 10

-- 02, slip 7: 10 bytes: from, to, amount
abbrev pub transfer_bytes : Transfer → List ℕ
transfer_bytes t = t.from ∷ t.to ∷ bytes_of 8 t.amount

abbrev pub transfer_at : List ℕ → ℕ → Transfer
transfer_at s n =
    record {
      from = get_or s (transfer_length * n) 0;
      to = get_or s (transfer_length * n + 1) 0;
      amount = number_at 8 (transfer_length * n + 2) s;
    }

abbrev pub transfers_bytes : List Transfer → List ℕ
transfers_bytes ts = joined (map transfer_bytes ts)

abbrev pub transfers_of : ℕ → List ℕ → List Transfer
transfers_of zero s = []
transfers_of (suc n) s = transfer_at s 0 ∷ transfers_of n (drop transfer_length s)

-- bytes after the last transfer keep their value
abbrev pub transfers_laid : List Transfer → List ℕ → List ℕ
transfers_laid ts s = transfers_bytes ts ++ drop (transfer_length * length ts) s

pub record FittingTransfer (t : Transfer) : Type 0 where
  pub from : t.from < 256
  pub to : t.to < 256
  pub amount : t.amount < 256 ^ 8

abbrev pub AllFittingTransfers : List Transfer → Type 0
AllFittingTransfers [] = Unit {0}
AllFittingTransfers (t ∷ ts) = FittingTransfer t × AllFittingTransfers ts
