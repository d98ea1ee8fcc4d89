-- What a cut's reports tell the desk. Reports are given by number; the order number isn't looked at.
--     is_expiry       code 4: passed over, whatever else it says
--     is_debit        code 10
--     is_credit       code 11
--     is_cut          a cut report: one of both
--     is_cut_to        a cut report to participant p
--     no_report       what stands for the report of who got none: code 0
--     notice_to       the cut report to participant p among the first n; a report of nothing where there is none
--     is_told         there is one
--     report_right    report i is as 27 asks: an expiry, or a cut report to a participant, who got none before, a debit of at most 10^15
--     debit_in, credit_in    what a report makes due, from the participant and to it
--     drawn_by        what is drawn for it: the debit, or all that is there
--     confirmed_by    what was drawn or paid
-- Assumes nothing.
use Rattle.std.specs.Prelude.{ℕ, zero, suc, min, Bool, ◌&&◌, ◌||◌, not, cond, leb, ltb, eqb}
use Rattle.report.specs.declared.Report.{Report}

-- 02, slip 7: a debit above 10^15
abbrev pub most_debit : ℕ
most_debit = 1_000_000_000_000_000

-- 02, slip 7: expiry reports among them are passed over
abbrev pub is_expiry : Report → Bool
is_expiry r = eqb r.code 4

abbrev pub is_debit : Report → Bool
is_debit r = eqb r.code 10

abbrev pub is_credit : Report → Bool
is_credit r = eqb r.code 11

abbrev pub is_cut : Report → Bool
is_cut r = is_debit r || is_credit r

abbrev pub is_cut_to : ℕ → Report → Bool
is_cut_to p r = is_cut r && eqb r.to p

abbrev pub no_report : Report
no_report = record { to = 0; code = 0; order = 0; amount = 0 }

-- a cut sends at most one to each, and 27 refuses a second: there is no other than the last
abbrev pub notice_to : ℕ → (ℕ → Report) → ℕ → Report
notice_to p report zero = no_report
notice_to p report (suc n) = cond (is_cut_to p (report n)) (report n) (notice_to p report n)

abbrev pub is_told : Report → Bool
is_told r = not (eqb r.code 0)

-- 27: a code other than 4, 10 or 11, a cut report to an unknown participant or a second to one, a debit above 10^15. Of a report, by
-- the one that went to the same participant before
abbrev pub cut_right : ℕ → Report → Report → Bool
cut_right size earlier r =
    is_expiry r || (is_cut r && ltb r.to size && not (is_told earlier) && (is_credit r || leb r.amount most_debit))

abbrev pub report_right : ℕ → (ℕ → Report) → ℕ → Bool
report_right size report i = cut_right size (notice_to (report i).to report i) (report i)

-- code 10 a debit, 11 a credit
abbrev pub debit_in : Report → ℕ
debit_in r = cond (is_debit r) r.amount 0

abbrev pub credit_in : Report → ℕ
credit_in r = cond (is_credit r) r.amount 0

-- 02, slip 7: each debit is drawn from the member's account, all that is there if it falls short
abbrev pub drawn_by : Report → ℕ → ℕ
drawn_by r balance = min (debit_in r) balance

-- 02, slip 7: a confirm ticket per cut report for what was drawn or paid
abbrev pub confirmed_by : Report → ℕ → ℕ
confirmed_by r balance = cond (is_debit r) (drawn_by r balance) (credit_in r)
