-- What each kind of ticket asks for, as one table. Each refusal reads one column of it.
--     terms_of                                of each kind
--     names_sender, opens_order, names_order    what a subject is
--     party_of                                the participant that answers for an order
--     meets                                  a status is as a step needs it
-- Assumes nothing.
use Rattle.std.specs.Prelude.{ℕ, Bool, true, false}
use Rattle.ticket.specs.declared.kinds.Kind.{Kind}
use Rattle.ticket.specs.declared.kinds.Kind.TheVariants as kind
use Rattle.rules.specs.Status.{is_waiting, is_unmarked, is_asked}
use Rattle.rules.specs.declared.terms.Subject.{Subject}
use Rattle.rules.specs.declared.terms.Subject.TheVariants as names
use Rattle.rules.specs.declared.terms.Party.{Party}
use Rattle.rules.specs.declared.terms.Party.TheVariants as by
use Rattle.rules.specs.declared.terms.Needs.{Needs}
use Rattle.rules.specs.declared.terms.Needs.TheVariants as needs
use Rattle.rules.specs.declared.terms.Flow.{Flow}
use Rattle.rules.specs.declared.terms.Flow.TheVariants as flow
use Rattle.rules.specs.declared.terms.Terms.{Terms}
use Rattle.rules.specs.declared.Status.{Status}
use Rattle.rules.specs.declared.Order.{Order}

-- a ticket about an order that is held: who answers, and the status that it needs
abbrev about_terms : Party → Needs → Terms
about_terms party status =
    record { subject = names.HeldOrder; party = party; needs = status; timely = false; within = false; flow = flow.Nothing }

-- a ticket about cover
abbrev cover_terms : Subject → Flow → Terms
cover_terms subject does =
    record { subject = subject; party = by.Anyone; needs = needs.Anything; timely = false; within = false; flow = does }

-- 01: payer answers for kinds 5 and 8, payee for 4, 6, 7; the steps say what status they need. 02, slip 5: of these a recall alone has
-- to come in time
abbrev pub terms_of : Kind → Terms
terms_of kind.CoverIn = cover_terms names.Sender flow.Brings
terms_of kind.CoverOut = cover_terms names.Sender flow.Draws
terms_of kind.Order = cover_terms names.NewOrder flow.Draws
terms_of kind.Yes = about_terms by.Payee needs.Waiting
terms_of kind.No = about_terms by.Payee needs.Waiting
terms_of kind.Recall =
    record { subject = names.HeldOrder; party = by.Payer; needs = needs.Unmarked; timely = true; within = false; flow = flow.Nothing }
terms_of kind.Return =
    record { subject = names.HeldOrder; party = by.Payee; needs = needs.Asked; timely = false; within = true; flow = flow.Draws }
terms_of kind.Decline = about_terms by.Payee needs.Asked
terms_of kind.Inquiry = about_terms by.Payer needs.Anything
terms_of kind.Cut = cover_terms names.Nothing flow.Cuts
terms_of kind.Confirm = cover_terms names.Sender flow.Confirms
terms_of kind.Tick = cover_terms names.Nothing flow.Nothing

-- all but 9 and 11
abbrev pub names_sender : Subject → Bool
names_sender names.Nothing = false
names_sender names.Sender = true
names_sender names.NewOrder = true
names_sender names.HeldOrder = true

abbrev pub opens_order : Subject → Bool
opens_order names.Nothing = false
opens_order names.Sender = false
opens_order names.NewOrder = true
opens_order names.HeldOrder = false

-- kinds 4 to 8
abbrev pub names_order : Subject → Bool
names_order names.Nothing = false
names_order names.Sender = false
names_order names.NewOrder = false
names_order names.HeldOrder = true

-- of a kind that nobody answers for, participant 0, which nothing looks at
abbrev pub party_of : Party → Order → ℕ
party_of by.Anyone o = 0
party_of by.Payer o = o.payer
party_of by.Payee o = o.payee

abbrev pub meets : Needs → Status → Bool
meets needs.Anything s = true
meets needs.Waiting s = is_waiting s
meets needs.Unmarked s = is_unmarked s
meets needs.Asked s = is_asked s

-- kinds 2, 3, 6
abbrev pub draws : Flow → Bool
draws flow.Nothing = false
draws flow.Brings = false
draws flow.Draws = true
draws flow.Cuts = false
draws flow.Confirms = false
