-- The judgement of a ticket, kind by kind: the first refusal from 12 on that applies, a check a line, and else the verdict of its step.
-- A later check is looked at only when all before it pass.
--     ..Refusal      the first refusal that applies to a ticket of that kind, 0 if none does
--     ..Verdict      refused by that, or the step
--     verdict_of      of any ticket, by what was found for it
-- Assumes nothing.
use Rattle.std.specs.Prelude.{ℕ, Bool, Option}
use Rattle.ticket.specs.declared.kinds.Kind.{Kind}
use Rattle.ticket.specs.declared.kinds.Kind.TheVariants as kind
use Rattle.rules.specs.Refusal.{first_of}
use Rattle.rules.specs.Checks.{
  sender_check,
  sender_refusal,
  sending,
  new_check,
  new_refusal,
  payee_check,
  payee_refusal,
  receiving,
  space_check,
  space_refusal,
  held_check,
  held_refusal,
  named,
  party_check,
  party_refusal,
  waiting_check,
  unmarked_check,
  asked_check,
  standing_refusal,
  recall_check,
  recalling_refusal,
  sum_check,
  sum_refusal,
  funds_check,
  funds_refusal,
  cut_check,
  cut_refusal,
  confirm_check,
  confirm_refusal,
  confirming,
  limit_check,
  total_refusal,
}
use Rattle.rules.specs.declared.decision.Move.TheVariants.{Give, Draw}
use Rattle.rules.specs.declared.verdict.About.{About}
use Rattle.rules.specs.declared.verdict.Facts.{Facts}
use Rattle.rules.specs.declared.verdict.Verdict.{Verdict}
use Rattle.verdict.specs.OwnStep.{
  unless,
  nothing,
  cover_moved,
  opened,
  settled,
  turned_down,
  recalled,
  declined,
  returned,
  answered,
  cut_verdict,
}
use Rattle.dayfile.specs.declared.route.Way.{Way}

-- Cover in: available rises
abbrev pub cover_in_refusal : Option ℕ → ℕ → ℕ → ℕ
cover_in_refusal sender total n =
    first_of (sender_refusal (sender_check sender))
    (total_refusal (limit_check Give total n))

abbrev pub cover_in_verdict : Option ℕ → ℕ → ℕ → Verdict
cover_in_verdict sender total n = unless (cover_in_refusal sender total n) (cover_moved (sending (sender_check sender)) Give n)

-- Cover out: available falls
abbrev pub cover_out_refusal : Option ℕ → ℕ → ℕ → ℕ
cover_out_refusal sender available n =
    first_of (sender_refusal (sender_check sender))
    (funds_refusal (funds_check available n))

abbrev pub cover_out_verdict : Option ℕ → ℕ → ℕ → Verdict
cover_out_verdict sender available n = unless (cover_out_refusal sender available n) (cover_moved (sending (sender_check sender)) Draw n)

-- Order
abbrev pub order_refusal : Option ℕ → Option ℕ → Option ℕ → Option Way → ℕ → ℕ → ℕ → ℕ
order_refusal sender order route way count available n =
    first_of (sender_refusal (sender_check sender))
    (first_of (new_refusal (new_check order))
    (first_of (payee_refusal (payee_check route way))
    (first_of (space_refusal (space_check count))
    (funds_refusal (funds_check available n)))))

abbrev pub order_verdict : Option ℕ → Option ℕ → Option ℕ → Option Way → ℕ → ℕ → ℕ → Verdict
order_verdict sender order route way count available n =
    unless (order_refusal sender order route way count available n)
    (opened count (sending (sender_check sender)) (receiving (payee_check route way)) n)

-- Yes and no: of the payee, to Waiting
abbrev pub answer_refusal : Option ℕ → Option ℕ → About → ℕ
answer_refusal sender order a =
    first_of (sender_refusal (sender_check sender))
    (first_of (held_refusal (held_check order))
    (first_of (party_refusal (party_check (sending (sender_check sender)) a.payee))
    (standing_refusal (waiting_check a.status))))

abbrev pub yes_verdict : Option ℕ → Option ℕ → About → Bool → ℕ → Verdict
yes_verdict sender order a bank clock = unless (answer_refusal sender order a) (settled (named (held_check order)) a bank clock)

abbrev pub no_verdict : Option ℕ → Option ℕ → About → Verdict
no_verdict sender order a = unless (answer_refusal sender order a) (turned_down (named (held_check order)) a)

-- Recall: of the payer, of Settled with mark none, less than 864,000 seconds after the settlement
abbrev pub recall_refusal : Option ℕ → Option ℕ → About → ℕ → ℕ
recall_refusal sender order a clock =
    first_of (sender_refusal (sender_check sender))
    (first_of (held_refusal (held_check order))
    (first_of (party_refusal (party_check (sending (sender_check sender)) a.payer))
    (first_of (standing_refusal (unmarked_check a.status))
    (recalling_refusal (recall_check clock a.status)))))

abbrev pub recall_verdict : Option ℕ → Option ℕ → About → ℕ → Verdict
recall_verdict sender order a clock = unless (recall_refusal sender order a clock) (recalled (named (held_check order)) a)

-- Return: of the payee, of Settled, asked, by an amount up to the order's
abbrev pub return_refusal : Option ℕ → Option ℕ → About → ℕ → ℕ → ℕ
return_refusal sender order a available n =
    first_of (sender_refusal (sender_check sender))
    (first_of (held_refusal (held_check order))
    (first_of (party_refusal (party_check (sending (sender_check sender)) a.payee))
    (first_of (standing_refusal (asked_check a.status))
    (first_of (sum_refusal (sum_check n a.amount))
    (funds_refusal (funds_check available n))))))

abbrev pub return_verdict : Option ℕ → Option ℕ → About → ℕ → ℕ → Verdict
return_verdict sender order a available n = unless (return_refusal sender order a available n) (returned (named (held_check order)) a n)

-- Decline: of the payee, of Settled, asked
abbrev pub decline_refusal : Option ℕ → Option ℕ → About → ℕ
decline_refusal sender order a =
    first_of (sender_refusal (sender_check sender))
    (first_of (held_refusal (held_check order))
    (first_of (party_refusal (party_check (sending (sender_check sender)) a.payee))
    (standing_refusal (asked_check a.status))))

abbrev pub decline_verdict : Option ℕ → Option ℕ → About → Verdict
decline_verdict sender order a = unless (decline_refusal sender order a) (declined (named (held_check order)) a)

-- Inquiry: of the payer
abbrev pub inquiry_refusal : Option ℕ → Option ℕ → About → ℕ
inquiry_refusal sender order a =
    first_of (sender_refusal (sender_check sender))
    (first_of (held_refusal (held_check order))
    (party_refusal (party_check (sending (sender_check sender)) a.payer)))

abbrev pub inquiry_verdict : Option ℕ → Option ℕ → About → Bool → Verdict
inquiry_verdict sender order a bank = unless (inquiry_refusal sender order a) (answered (named (held_check order)) a bank)

-- Cut
abbrev pub cuts_verdict : Bool → Verdict
cuts_verdict unconfirmed = unless (cut_refusal (cut_check unconfirmed)) cut_verdict

-- Confirm: as a confirmed credit or debit
abbrev pub confirms_refusal : Option ℕ → ℕ → ℕ → ℕ → ℕ → ℕ
confirms_refusal sender held debit total n =
    first_of (sender_refusal (sender_check sender))
    (first_of (confirm_refusal (confirm_check held debit n))
    (total_refusal (limit_check (confirming (confirm_check held debit n)) total n)))

abbrev pub confirm_verdict : Option ℕ → ℕ → ℕ → ℕ → ℕ → Verdict
confirm_verdict sender held debit total n =
    unless (confirms_refusal sender held debit total n)
    (cover_moved (sending (sender_check sender)) (confirming (confirm_check held debit n)) n)

abbrev pub verdict_for : Kind → Facts → Verdict
verdict_for kind.CoverIn x = cover_in_verdict x.sender x.total x.amount
verdict_for kind.CoverOut x = cover_out_verdict x.sender x.cover.available x.amount
verdict_for kind.Order x =
    order_verdict x.sender x.order x.route x.way x.count x.cover.available x.amount
verdict_for kind.Yes x = yes_verdict x.sender x.order x.about x.bank x.clock
verdict_for kind.No x = no_verdict x.sender x.order x.about
verdict_for kind.Recall x = recall_verdict x.sender x.order x.about x.clock
verdict_for kind.Return x = return_verdict x.sender x.order x.about x.cover.available x.amount
verdict_for kind.Decline x = decline_verdict x.sender x.order x.about
verdict_for kind.Inquiry x = inquiry_verdict x.sender x.order x.about x.bank
verdict_for kind.Cut x = cuts_verdict x.unconfirmed
verdict_for kind.Confirm x = confirm_verdict x.sender x.cover.held x.cover.debit x.total x.amount
verdict_for kind.Tick x = nothing

abbrev pub verdict_of : Facts → Verdict
verdict_of x = verdict_for x.kind x
