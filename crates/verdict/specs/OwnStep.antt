-- The verdict of each ticket's own step, once no refusal applies: 01 'Then its own step'. And that of a refused ticket.
--     refused_verdict    all but the refusal is nothing
--     unless            refused by a number, or, where it is 0, a step's verdict
-- Assumes nothing.
use Rattle.std.specs.Prelude.{ℕ, Bool, cond, eqb, Option, Some, None}
use Rattle.rules.specs.Status.{settled_at}
use Rattle.rules.specs.declared.Recall.{Recall}
use Rattle.rules.specs.declared.Recall.TheVariants as mark
use Rattle.rules.specs.declared.Status.{Status}
use Rattle.rules.specs.declared.Status.TheVariants as status
use Rattle.rules.specs.declared.decision.Move.{Move}
use Rattle.rules.specs.declared.decision.Move.TheVariants.{Stay, Give, Draw, Reserve, Release, Spend}
use Rattle.rules.specs.declared.verdict.About.{About}
use Rattle.rules.specs.declared.verdict.Does.TheVariants.{Nothing, Opens, Becomes, Cuts}
use Rattle.rules.specs.declared.verdict.Mover.{Mover}
use Rattle.rules.specs.declared.verdict.Notice.{Notice}
use Rattle.rules.specs.declared.verdict.Verdict.{Verdict}

-- who moves, and how
abbrev pub mover : ℕ → Move → Mover
mover who how = record { who = who; how = how }

abbrev no_mover : Mover
no_mover = mover 0 Stay

-- to whom, and which code
abbrev pub notice : ℕ → ℕ → Notice
notice to code = record { to = to; code = code }

abbrev pub refused_verdict : ℕ → Verdict
refused_verdict n =
    record { refusal = n; does = Nothing; number = 0; first = no_mover; second = no_mover; amount = 0; told = None; also = None }

abbrev pub unless : ℕ → Verdict → Verdict
unless n v = cond (eqb n 0) v (refused_verdict n)

-- nothing happens: a tick's own step
abbrev pub nothing : Verdict
nothing = refused_verdict 0

-- one participant's cover moves
abbrev pub cover_moved : ℕ → Move → ℕ → Verdict
cover_moved who how n =
    record {
      refusal = 0;
      does = Nothing;
      number = 0;
      first = mover who how;
      second = no_mover;
      amount = n;
      told = None;
      also = None;
    }

-- Order: available to reserved; new Waiting order; report 1 to payee
abbrev pub opened : ℕ → ℕ → ℕ → ℕ → Verdict
opened i payer payee n =
    record {
      refusal = 0;
      does = Opens;
      number = i;
      first = mover payer Reserve;
      second = no_mover;
      amount = n;
      told = Some (notice payee 1);
      also = None;
    }

-- Yes to Waiting: payer's reserved falls, payee's available rises; Settled, mark none; report 2 to payer, then to payee if a bank. 02,
-- slip 5: an order remembers the time of its settlement
abbrev pub settled : ℕ → About → Bool → ℕ → Verdict
settled i a bank clock =
    record {
      refusal = 0;
      does = Becomes (status.Settled mark.None clock);
      number = i;
      first = mover a.payer Spend;
      second = mover a.payee Give;
      amount = a.amount;
      told = Some (notice a.payer 2);
      also = cond bank (Some (notice a.payee 2)) None;
    }

-- No to Waiting: reserved to available; Refused; report 3 to payer only
abbrev pub turned_down : ℕ → About → Verdict
turned_down i a =
    record {
      refusal = 0;
      does = Becomes status.Refused;
      number = i;
      first = mover a.payer Release;
      second = no_mover;
      amount = a.amount;
      told = Some (notice a.payer 3);
      also = None;
    }

-- the order's mark changes, and one is told
abbrev pub marked : Recall → ℕ → ℕ → ℕ → Notice → Verdict
marked m at i n told =
    record {
      refusal = 0;
      does = Becomes (status.Settled m at);
      number = i;
      first = no_mover;
      second = no_mover;
      amount = n;
      told = Some told;
      also = None;
    }

-- Recall of Settled with mark none: asked; report 5 to payee
abbrev pub recalled : ℕ → About → Verdict
recalled i a = marked mark.Asked (settled_at a.status) i a.amount (notice a.payee 5)

-- Decline of Settled, asked: declined; report 7 to payer
abbrev pub declined : ℕ → About → Verdict
declined i a = marked mark.Declined (settled_at a.status) i a.amount (notice a.payer 7)

-- Return of Settled, asked: payee's available falls, payer's rises; Returned; report 6 to payer. 02, slip 2: by the ticket's amount
abbrev pub returned : ℕ → About → ℕ → Verdict
returned i a n =
    record {
      refusal = 0;
      does = Becomes (status.Returned (settled_at a.status) n);
      number = i;
      first = mover a.payee Draw;
      second = mover a.payer Give;
      amount = n;
      told = Some (notice a.payer 6);
      also = None;
    }

-- Inquiry. Waiting: 9 to payer if the payee is a bank, else 8 to payee. Settled: 2 to payer. Refused 3, Expired 4, Returned 6, to payer
abbrev pub answer_told : About → Bool → Status → Notice
answer_told a bank status.Waiting = cond bank (notice a.payer 9) (notice a.payee 8)
answer_told a bank status.Refused = notice a.payer 3
answer_told a bank status.Expired = notice a.payer 4
answer_told a bank (status.Returned at n) = notice a.payer 6
answer_told a bank (status.Settled m at) = notice a.payer 2

-- then 8 to payee if asked, or 7 to payer if declined
abbrev pub mark_told : About → Recall → Option Notice
mark_told a mark.None = None
mark_told a mark.Asked = Some (notice a.payee 8)
mark_told a mark.Declined = Some (notice a.payer 7)

abbrev pub answer_also : About → Status → Option Notice
answer_also a status.Waiting = None
answer_also a status.Refused = None
answer_also a status.Expired = None
answer_also a (status.Returned at n) = None
answer_also a (status.Settled m at) = mark_told a m

-- 02, slip 2: report 6 carries the returned amount, also when an inquiry repeats it; the others carry the order's
abbrev pub answer_amount : About → Status → ℕ
answer_amount a status.Waiting = a.amount
answer_amount a status.Refused = a.amount
answer_amount a status.Expired = a.amount
answer_amount a (status.Returned at n) = n
answer_amount a (status.Settled m at) = a.amount

-- Inquiry changes no order
abbrev pub answered : ℕ → About → Bool → Verdict
answered i a bank =
    record {
      refusal = 0;
      does = Nothing;
      number = i;
      first = no_mover;
      second = no_mover;
      amount = answer_amount a a.status;
      told = Some (answer_told a bank a.status);
      also = answer_also a a.status;
    }

-- Cut: all covers, with their own reports
abbrev pub cut_verdict : Verdict
cut_verdict =
    record { refusal = 0; does = Cuts; number = 0; first = no_mover; second = no_mover; amount = 0; told = None; also = None }
