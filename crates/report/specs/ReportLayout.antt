-- A report as 12 bytes, and reports in a buffer.
--     report_length     its length
--     report_bytes      a report as bytes
--     report_at         the report number n of a buffer
--     reports_bytes     reports one after the other
--     reports_of        the first n reports of a buffer
--     laid             a buffer after reports are laid down from its start
--     FittingReport    a report's fields are numbers of their widths; AllFitting: those of each report
-- Assumes nothing.
use Rattle.std.specs.Prelude.{ℕ, zero, suc, ◌+◌, ◌*◌, ◌^◌, ◌<◌, List, [], ◌∷◌, ◌++◌, length, get_or, drop}
use Rattle.fields.specs.Number.{number_at, bytes_of}
use Rattle.report.specs.declared.Report.{Report}

abbrev pub report_length : ℕ
report_length = 12

-- 01: to whom (participant number, 1), code (1), order number (2), amount (8)
abbrev pub report_bytes : Report → List ℕ
report_bytes r = r.to ∷ r.code ∷ bytes_of 2 r.order ++ bytes_of 8 r.amount

abbrev pub report_at : List ℕ → ℕ → Report
report_at s n =
    record {
      to = get_or s (report_length * n) 0;
      code = get_or s (report_length * n + 1) 0;
      order = number_at 2 (report_length * n + 2) s;
      amount = number_at 8 (report_length * n + 4) s;
    }

abbrev pub reports_bytes : List Report → List ℕ
reports_bytes [] = []
reports_bytes (r ∷ rs) = report_bytes r ++ reports_bytes rs

-- read from the buffer's start
abbrev pub reports_of : ℕ → List ℕ → List Report
reports_of zero s = []
reports_of (suc n) s = report_at s 0 ∷ reports_of n (drop report_length s)

-- 01: reports fill the buffer from its start; bytes after the last report keep their value
abbrev pub laid : List Report → List ℕ → List ℕ
laid rs s = reports_bytes rs ++ drop (report_length * length rs) s

pub record FittingReport (r : Report) : Type 0 where
  pub to : r.to < 256
  pub code : r.code < 256
  pub order : r.order < 256 ^ 2
  pub amount : r.amount < 256 ^ 8

abbrev pub AllFitting : List Report → Type 0
AllFitting [] = Unit {0}
AllFitting (r ∷ rs) = FittingReport r × AllFitting rs
