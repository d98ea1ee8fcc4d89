-- The cover equation: what each event takes out of a participant's cover and brings in, four terms each, and their sums: 01 'Demand 3,
-- word by word'.
--     cover_in, cover_out          the amount of an accepted ticket of kind 1 or 2 that the participant sends
--     debit, credit              the amount of an accepted confirm that it sends
--     settled_to, settled_from     an accepted yes, with the amount of its first report 2
--     return_by, return_to         an accepted return, with its own amount
--     outgoing, incoming         what has gone out, and what has come in, the start's three amounts included
-- Assumes nothing.
use Rattle.std.specs.Prelude.{ℕ, ◌+◌, Bool, false, ◌&&◌, ◌||◌, cond, List, [], ◌∷◌, eqb}
use Rattle.ticket.specs.TicketLayout.{amount_of}
use Rattle.report.specs.declared.Report.{Report}
use Rattle.dayfile.specs.declared.roster.Roster.{Roster}
use Rattle.rules.specs.Book.{cover_of}
use Rattle.rules.specs.Cover.{whole}
use Rattle.rules.specs.declared.Cover.{Cover}
use Rattle.audit.specs.History.{Event, History, from, ◌▹◌, sum_over, is_kind, is_yes, is_sent_by}

abbrev pub amount_if : Bool → Event → ℕ
amount_if counts e = cond counts (amount_of e.ticket) 0

abbrev pub cover_in : Roster → ℕ → Event → ℕ
cover_in ps p e = amount_if (is_kind 1 e && is_sent_by ps p e) e

abbrev pub cover_out : Roster → ℕ → Event → ℕ
cover_out ps p e = amount_if (is_kind 2 e && is_sent_by ps p e) e

-- the code of the last of these reports that is a 10 or 11 to p; else what was told before
abbrev pub last_cut_in : ℕ → ℕ → List Report → ℕ
last_cut_in p told [] = told
last_cut_in p told (r ∷ rs) = last_cut_in p (cond (eqb r.to p && (eqb r.code 10 || eqb r.code 11)) r.code told) rs

-- 02, slip 8: held or open debit in it counts as a cut's report
abbrev pub cut_before : Cover → ℕ
cut_before c = cond (eqb c.held 0) (cond (eqb c.debit 0) 0 10) 11

-- the last report 10 or 11 to p, 0 if there was none
abbrev pub last_cut : ℕ → History → ℕ
last_cut p (from b) = cut_before (cover_of b.covers p)
last_cut p (e ▹ before) = last_cut_in p (last_cut p before) e.reports

-- a debit if the last report 10 or 11 to it before was 10
abbrev pub debit : Roster → ℕ → Event → History → ℕ
debit ps p e before = amount_if (is_kind 10 e && is_sent_by ps p e && eqb (last_cut p before) 10) e

-- a credit if 11
abbrev pub credit : Roster → ℕ → Event → History → ℕ
credit ps p e before = amount_if (is_kind 10 e && is_sent_by ps p e && eqb (last_cut p before) 11) e

-- the first report with a code, if there is one
abbrev pub first_with : ℕ → List Report → List Report
first_with code [] = []
first_with code (r ∷ rs) = cond (eqb r.code code) (r ∷ []) (first_with code rs)

-- its amount
abbrev amount_in : List Report → ℕ
amount_in [] = 0
amount_in (r ∷ rs) = r.amount

-- whether it goes to p
abbrev goes_to : ℕ → List Report → Bool
goes_to p [] = false
goes_to p (r ∷ rs) = eqb r.to p

-- to the ticket's sender
abbrev pub settled_to : Roster → ℕ → Event → ℕ
settled_to ps p e = cond (is_yes e && is_sent_by ps p e) (amount_in (first_with 2 e.reports)) 0

-- from the one to whom that report goes
abbrev pub settled_from : ℕ → Event → ℕ
settled_from p e = cond (is_yes e && goes_to p (first_with 2 e.reports)) (amount_in (first_with 2 e.reports)) 0

-- by its sender
abbrev pub return_by : Roster → ℕ → Event → ℕ
return_by ps p e = amount_if (is_kind 6 e && is_sent_by ps p e) e

-- to the one to whom its report 6 goes
abbrev pub return_to : ℕ → Event → ℕ
return_to p e = amount_if (is_kind 6 e && goes_to p (first_with 6 e.reports)) e

abbrev pub goes_out : Roster → ℕ → Event → History → ℕ
goes_out ps p e before = cover_out ps p e + credit ps p e before + settled_from p e + return_by ps p e

abbrev pub comes_in : Roster → ℕ → Event → History → ℕ
comes_in ps p e before = cover_in ps p e + debit ps p e before + settled_to ps p e + return_to p e

abbrev pub outgoing : Roster → ℕ → History → ℕ
outgoing ps p h = sum_over (λ b. 0) (goes_out ps p) h

-- 02, slip 8: a book starts the cover equation at its three amounts
abbrev pub incoming : Roster → ℕ → History → ℕ
incoming ps p h = sum_over (λ b. whole (cover_of b.covers p)) (comes_in ps p) h
