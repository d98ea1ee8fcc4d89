-- Refusals 9 to 11: amount and time, the same for every kind.
--     stated_by        9: the amount, or None where it is below the least
--     stated_amount    the amount that was found
--     limit_by         10: Within, or Above
--     value_refusal    the first of 9 to 11 that applies, 0 if none does
--     value_sight      refused by that, or what is seen
--     formed_sight     refused by 7 or 8, or by that, or what is seen
-- Assumes nothing.
use Rattle.std.specs.Prelude.{ℕ, cond, List, ltb, Option, None, Some, Result, Ok, Err}
use Rattle.ticket.specs.TicketLayout.{amount_of, time_of}
use Rattle.ticket.specs.TicketRefusal.{stated_refusal, amount_limit_refusal}
use Rattle.ticket.specs.declared.kinds.Kind.{Kind}
use Rattle.ticket.specs.declared.amounts.Limit.{Limit}
use Rattle.ticket.specs.declared.amounts.Limit.TheVariants.{Within, Above}
use Rattle.rules.specs.Refusal.{first_of, timing_of, timing_refusal}
use Rattle.shapes.specs.Amounts.{amounts_of}
use Rattle.shapes.specs.declared.amounts.Amounts.{Amounts}
use Rattle.sight.specs.Sight.{sight_by}
use Rattle.sight.specs.declared.Seen.{Seen}
use Rattle.sight.specs.declared.subjects.Parties.{Parties}

-- 9. Amount zero for kinds 1, 2, 3, 6: those whose least amount is 1
abbrev pub stated_by : Amounts → List ℕ → Option ℕ
stated_by amounts t = cond (ltb (amount_of t) amounts.least) None (Some (amount_of t))

abbrev stated_amount : Option ℕ → ℕ
stated_amount (Some n) = n
stated_amount None = 0

-- 10. Amount above its kind's limit
abbrev pub limit_by : Amounts → ℕ → Limit
limit_by amounts n = cond (ltb amounts.most n) Above Within

abbrev value_refusal : ℕ → List ℕ → Amounts → ℕ
value_refusal clock t amounts =
    first_of (stated_refusal (stated_by amounts t))
    (first_of (amount_limit_refusal (limit_by amounts (stated_amount (stated_by amounts t))))
    (timing_refusal (timing_of clock (time_of t))))

abbrev pub value_sight : ℕ → List ℕ → Kind → Parties → Result Seen ℕ
value_sight clock t kind parties =
    sight_by (value_refusal clock t (amounts_of kind))
    (record {
      kind = kind;
      time = time_of t;
      amount = stated_amount (stated_by (amounts_of kind) t);
      sender = parties.sender;
      order = parties.order;
      route = parties.route;
    })

abbrev pub formed_sight : ℕ → List ℕ → Kind → Result Parties ℕ → Result Seen ℕ
formed_sight clock t kind (Ok parties) = value_sight clock t kind parties
formed_sight clock t kind (Err n) = Err n
