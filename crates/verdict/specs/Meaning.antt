-- What a verdict stands for: the decision of `rules`, about what was found.
--     facts_of       of what was found, all that is looked at
--     decision_by    the decision that a verdict makes
--     judged_by      the same with its refusal
--     ToldBelow      who is told is one of so many
--     Gains         a move that leaves who it is of as they are, or gives: the second of every verdict is one
-- Assumes nothing.
use Rattle.std.specs.Prelude.{ℕ, ◌+◌, ◌<◌, Bool, true, false, Option, Some, None}
use Rattle.fields.specs.Search.{number_of}
use Rattle.report.specs.declared.Report.{Report}
use Rattle.dayfile.specs.Route.{rows_followed}
use Rattle.rules.specs.Status.{with_status}
use Rattle.rules.specs.Decision.{by, nobody, new_order}
use Rattle.rules.specs.declared.Order.{Order}
use Rattle.rules.specs.declared.finding.Finding.{Finding}
use Rattle.rules.specs.declared.decision.Move.{Move}
use Rattle.rules.specs.declared.decision.Move.TheVariants.{Stay, Give, Draw, Reserve, Release, Spend, Credit, Debit}
use Rattle.rules.specs.declared.decision.Transfer.{Transfer}
use Rattle.rules.specs.declared.decision.Told.{Told}
use Rattle.rules.specs.declared.decision.Told.TheVariants.{Nobody, One, Two}
use Rattle.rules.specs.declared.decision.Decision.{Decision}
use Rattle.rules.specs.declared.verdict.About.{About}
use Rattle.rules.specs.declared.verdict.Facts.{Facts}
use Rattle.rules.specs.declared.verdict.Does.{Does}
use Rattle.rules.specs.declared.verdict.Does.TheVariants.{Nothing, Opens, Becomes, Cuts}
use Rattle.rules.specs.declared.verdict.Mover.{Mover}
use Rattle.rules.specs.declared.verdict.Notice.{Notice}
use Rattle.rules.specs.declared.verdict.Verdict.{Verdict}
use Rattle.course.specs.declared.Judged.{Judged}

abbrev pub Gains : Move → Type 0
Gains Stay = Unit {0}
Gains Give = Unit {0}
Gains Draw = ⊥
Gains Reserve = ⊥
Gains Release = ⊥
Gains Spend = ⊥
Gains Credit = ⊥
Gains Debit = ⊥

abbrev pub about_of : Order → About
about_of o = record { payer = o.payer; payee = o.payee; amount = o.amount; status = o.status }

abbrev pub facts_of : Finding → Facts
facts_of x =
    record {
      kind = x.kind;
      amount = x.amount;
      clock = x.clock;
      sender = x.sender;
      cover = x.cover;
      order = x.order;
      about = about_of x.about;
      bank = x.bank;
      route = x.route;
      way = x.way;
      count = x.count;
      unconfirmed = x.unconfirmed;
      total = x.total;
    }

-- who stays put moves by nothing
abbrev pub moves_by : ℕ → Move → ℕ → Transfer
moves_by who Stay n = nobody
moves_by who Give n = by who Give n
moves_by who Draw n = by who Draw n
moves_by who Reserve n = by who Reserve n
moves_by who Release n = by who Release n
moves_by who Spend n = by who Spend n
moves_by who Credit n = by who Credit n
moves_by who Debit n = by who Debit n

abbrev pub transfer_by : Mover → ℕ → Transfer
transfer_by m n = moves_by m.who m.how n

-- a report about order i
abbrev pub report_by : Notice → ℕ → ℕ → Report
report_by a i n = record { to = a.to; code = a.code; order = i; amount = n }

-- there is no second without a first
abbrev pub notices_told : Option Notice → Option Notice → ℕ → ℕ → Told
notices_told None b i n = Nobody
notices_told (Some a) None i n = One (report_by a i n)
notices_told (Some a) (Some b) i n = Two (report_by a i n) (report_by b i n)

-- who is told, if one is, has a number below m
abbrev pub ToldBelow : ℕ → Option Notice → Type 0
ToldBelow m None = Unit {0}
ToldBelow m (Some a) = a.to < m

-- which order is written, what it becomes, how many are held then, whether all covers are cut, rows followed
abbrev verdict_decision : ℕ → Order → ℕ → Bool → ℕ → Verdict → Decision
verdict_decision i o count cuts rows v =
    record {
      number = i;
      order = o;
      count = count;
      first = transfer_by v.first v.amount;
      second = transfer_by v.second v.amount;
      cuts = cuts;
      told = notices_told v.told v.also v.number v.amount;
      rows = rows;
    }

abbrev pub decided_by : Does → Finding → Verdict → Decision
decided_by Nothing x v = verdict_decision (number_of x.order) x.about x.count false 0 v
decided_by Opens x v = verdict_decision x.count (new_order x) (x.count + 1) false (rows_followed x.way) v
decided_by (Becomes s) x v = verdict_decision (number_of x.order) (with_status x.about s) x.count false 0 v
decided_by Cuts x v = verdict_decision (number_of x.order) x.about x.count true 0 v

abbrev pub decision_by : Finding → Verdict → Decision
decision_by x v = decided_by v.does x v

abbrev pub judged_by : Finding → Verdict → Judged
judged_by x v = record { refusal = v.refusal; decision = decision_by x v }
