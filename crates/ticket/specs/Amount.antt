-- Refusals 9 and 10. Assumes nothing.
use Rattle.std.specs.Prelude.{ℕ, cond, List, ltb, None, Option, Some}
use Rattle.ticket.specs.TicketLayout.{amount_of}
use Rattle.ticket.specs.declared.forms.Form.{Form}
use Rattle.ticket.specs.declared.amounts.Limit.{Limit}
use Rattle.ticket.specs.declared.amounts.Limit.TheVariants.{Within, Above}

-- 9. Amount zero for kinds 1, 2, 3, 6 (AM01): those whose least amount is 1
abbrev pub stated_in : Form → List ℕ → Option ℕ
stated_in form t = cond (ltb (amount_of t) form.least) None (Some (amount_of t))

-- 10. Amount above its kind's limit (AM02)
abbrev pub limit_of : Form → ℕ → Limit
limit_of form n = cond (ltb form.most n) Above Within
