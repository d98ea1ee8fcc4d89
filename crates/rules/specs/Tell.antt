-- Reports.
--     tell_order     a report of codes 1 to 9, but 6: the order's number and its amount (6 is `return_report` in Decision.antt)
--     tell_cut       a report 10 or 11: no order, and an amount of its own
--     listed        the reports of a decision, in their order
-- Assumes nothing.
use Rattle.std.specs.Prelude.{ℕ, List, [], ◌∷◌}
use Rattle.report.specs.declared.Report.{Report}
use Rattle.rules.specs.declared.decision.Told.{Told}
use Rattle.rules.specs.declared.decision.Told.TheVariants.{Nobody, One, Two}
use Rattle.rules.specs.declared.Order.{Order}

-- to whom, code, about order number i
abbrev pub tell_order : ℕ → ℕ → ℕ → Order → Report
tell_order to code i o = record { to = to; code = code; order = i; amount = o.amount }

-- 01: 65,535 for codes 10 and 11
abbrev pub tell_cut : ℕ → ℕ → ℕ → Report
tell_cut to code amount = record { to = to; code = code; order = 65_535; amount = amount }

abbrev pub listed : Told → List Report
listed Nobody = []
listed (One r) = r ∷ []
listed (Two r s) = r ∷ s ∷ []
