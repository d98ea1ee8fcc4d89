-- Each ticket's own step, once no refusal applies: 01 'Then its own step'. A step is decided on what was found and then applied to the
-- book. A decision is small values: which order is written and how, which one or two covers move and how, what is told, how many rows.
-- One definition puts it into a book, so soundness, demand 3 and the code each have one argument for that. A decision about no order
-- writes back what was there, and so does a cover that stays: `set-get_or` says that nothing changes.
--     decision_of    what is decided, a clause for each kind
--     applied       the book after it
--     told_by        the reports of it
-- Assumes nothing.
use Rattle.std.specs.Prelude.{ℕ, ◌+◌, Bool, true, false, cond, List, eqb, set}
use Rattle.fields.specs.Search.{number_of}
use Rattle.ticket.specs.declared.kinds.Kind.{Kind}
use Rattle.ticket.specs.declared.kinds.Kind.TheVariants as kind
use Rattle.dayfile.specs.Route.{reached, rows_followed}
use Rattle.report.specs.declared.Report.{Report}
use Rattle.rules.specs.Status.{settled_at, with_status}
use Rattle.rules.specs.Cover.{transferred}
use Rattle.rules.specs.Tell.{tell_order, listed}
use Rattle.rules.specs.Tick.{freed}
use Rattle.rules.specs.Cut.{cut_to, cut_reports_to}
use Rattle.rules.specs.declared.finding.Finding.{Finding}
use Rattle.rules.specs.declared.decision.Move.{Move}
use Rattle.rules.specs.declared.decision.Move.TheVariants.{Stay, Give, Draw, Reserve, Spend, Credit, Debit}
use Rattle.rules.specs.declared.decision.Transfer.{Transfer}
use Rattle.rules.specs.declared.decision.Told.{Told}
use Rattle.rules.specs.declared.decision.Told.TheVariants.{Nobody, One, Two}
use Rattle.rules.specs.declared.decision.Decision.{Decision}
use Rattle.rules.specs.declared.Recall.{Recall}
use Rattle.rules.specs.declared.Recall.TheVariants as mark
use Rattle.rules.specs.declared.Status.{Status}
use Rattle.rules.specs.declared.Status.TheVariants as status
use Rattle.rules.specs.declared.Order.{Order}
use Rattle.rules.specs.declared.Cover.{Cover}
use Rattle.rules.specs.declared.Book.{Book}

-- who moves, how, by how much
abbrev pub by : ℕ → Move → ℕ → Transfer
by who how n = record { who = who; how = how; amount = n }

abbrev pub nobody : Transfer
nobody = by 0 Stay 0

-- reports about the order, to its payer and to its payee
abbrev pub to_payer : Finding → ℕ → Report
to_payer x code = tell_order x.about.payer code (number_of x.order) x.about

abbrev pub to_payee : Finding → ℕ → Report
to_payee x code = tell_order x.about.payee code (number_of x.order) x.about

-- no order changes; one cover may move
abbrev pub order_kept : Finding → Transfer → Bool → Told → Decision
order_kept x first cuts told =
    record {
      number = number_of x.order;
      order = x.about;
      count = x.count;
      first = first;
      second = nobody;
      cuts = cuts;
      told = told;
      rows = 0;
    }

-- the order that the ticket is about has another status
abbrev pub order_becomes : Finding → Status → Transfer → Transfer → Told → Decision
order_becomes x s first second told =
    record {
      number = number_of x.order;
      order = with_status x.about s;
      count = x.count;
      first = first;
      second = second;
      cuts = false;
      told = told;
      rows = 0;
    }

-- Order: available to reserved; new Waiting order; report 1 to payee
abbrev pub new_order : Finding → Order
new_order x =
    record {
      txid = x.txid;
      payer = number_of x.sender;
      payee = reached x.way;
      amount = x.amount;
      time = x.clock;
      status = status.Waiting;
    }

abbrev pub order_opened : Finding → Order → Decision
order_opened x o =
    record {
      number = x.count;
      order = o;
      count = x.count + 1;
      first = by o.payer Reserve o.amount;
      second = nobody;
      cuts = false;
      told = One (tell_order o.payee 1 x.count o);
      rows = rows_followed x.way;
    }

-- Yes to Waiting: report 2 to payer, then to payee if a bank
abbrev pub settled_told : Finding → Told
settled_told x = cond x.bank (Two (to_payer x 2) (to_payee x 2)) (One (to_payer x 2))

-- 02, slip 2: report 6 carries the returned amount, also when an inquiry repeats it
abbrev pub return_report : Finding → ℕ → Report
return_report x n = record { to = x.about.payer; code = 6; order = number_of x.order; amount = n }

-- Return: report 6 to payer
abbrev pub return_told : Finding → Told
return_told x = One (return_report x x.amount)

-- Inquiry. Settled: 2 to payer, then 8 to payee if asked, or 7 to payer if declined
abbrev pub settled_answer : Finding → Recall → Told
settled_answer x mark.None = One (to_payer x 2)
settled_answer x mark.Asked = Two (to_payer x 2) (to_payee x 8)
settled_answer x mark.Declined = Two (to_payer x 2) (to_payer x 7)

-- Waiting: 9 to payer if the payee is a bank, else 8 to payee. Refused 3, Expired 4, Returned 6, to payer
abbrev pub inquiry_answer : Finding → Status → Told
inquiry_answer x status.Waiting = One (cond x.bank (to_payer x 9) (to_payee x 8))
inquiry_answer x status.Refused = One (to_payer x 3)
inquiry_answer x status.Expired = One (to_payer x 4)
inquiry_answer x (status.Returned at n) = One (return_report x n)
inquiry_answer x (status.Settled mark at) = settled_answer x mark

-- Confirm: with held, a confirmed credit; with open debit, a confirmed debit
abbrev pub confirm_move : Finding → Move
confirm_move x = cond (eqb x.cover.held 0) Debit Credit

abbrev pub decided_for : Kind → Finding → Decision
-- Cover in, out: available rises or falls
decided_for kind.CoverIn x = order_kept x (by (number_of x.sender) Give x.amount) false Nobody
decided_for kind.CoverOut x = order_kept x (by (number_of x.sender) Draw x.amount) false Nobody
decided_for kind.Order x = order_opened x (new_order x)
-- Yes to Waiting: payer's reserved falls, payee's available rises; Settled, mark none. 02, slip 5: at the yes' time, which is kept from
-- then on
decided_for kind.Yes x =
    order_becomes x (status.Settled mark.None x.clock)
    (by x.about.payer Spend x.about.amount)
    (by x.about.payee Give x.about.amount)
    (settled_told x)
-- No to Waiting: reserved to available; Refused; report 3 to payer only
decided_for kind.No x = order_becomes x status.Refused (freed x.about) nobody (One (to_payer x 3))
-- Recall of Settled with mark none: asked; report 5 to payee
decided_for kind.Recall x = order_becomes x (status.Settled mark.Asked (settled_at x.about.status)) nobody nobody (One (to_payee x 5))
-- Return of Settled, asked: payee's available falls, payer's rises; Returned. 02, slip 2: by the ticket's amount; a charge stays with the
-- payee
decided_for kind.Return x =
    order_becomes x (status.Returned (settled_at x.about.status) x.amount)
    (by x.about.payee Draw x.amount)
    (by x.about.payer Give x.amount)
    (return_told x)
-- Decline of Settled, asked: declined; report 7 to payer
decided_for kind.Decline x = order_becomes x (status.Settled mark.Declined (settled_at x.about.status)) nobody nobody (One (to_payer x 7))
-- Inquiry changes no order
decided_for kind.Inquiry x = order_kept x nobody false (inquiry_answer x x.about.status)
decided_for kind.Cut x = order_kept x nobody true Nobody
decided_for kind.Confirm x = order_kept x (by (number_of x.sender) (confirm_move x) x.amount) false Nobody
decided_for kind.Tick x = order_kept x nobody false Nobody

abbrev pub decision_of : Finding → Decision
decision_of x = decided_for x.kind x

abbrev pub covers_after : Book → Decision → List Cover
covers_after b d =
    let cs = transferred d.second (transferred d.first b.covers) in
    cond d.cuts (cut_to b.roster cs b.roster.size) cs

abbrev pub applied : Book → Decision → Book
applied b d =
    record {
      clock = b.clock;
      covers = covers_after b d;
      orders = set b.orders d.number d.order;
      count = d.count;
      roster = b.roster;
    }

-- a cut's reports go by the covers that it finds
abbrev pub told_by : Book → Decision → List Report
told_by b d = cond d.cuts (cut_reports_to b.roster b.covers b.roster.size) (listed d.told)
