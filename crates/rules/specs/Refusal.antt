-- Refusals 6 and 11 to 22, and 26, which comes directly after 18: the condition of each, in three groups from 12 on, and the number of
-- each answer. Each condition is on any finding, so that it can be read by itself. The code goes kind by kind instead, and
-- `judged-verdict` joins the two.
--     buffer_of, timing_of        6 and 11
--     naming_of                  12 to 16: who and what is named
--     permission_of              17, 18, 26, 19: whether this may be done
--     backing_of                 20 to 22: whether there is cover and room
--     first_refusal              the first from 12 on that applies, 0 if none does
-- Conditions from 12 on are of what was found in the book after the expiries.
-- Assumes nothing.
use Rattle.std.specs.Prelude.{ℕ, ◌+◌, Bool, true, false, ◌&&◌, not, cond, List, leb, ltb, eqb, length, is_some}
use Rattle.fields.specs.Search.{number_of}
use Rattle.rules.specs.Book.{most_orders}
use Rattle.rules.specs.Cover.{most_total}
use Rattle.rules.specs.Status.{is_late}
use Rattle.rules.specs.Terms.{terms_of, names_sender, opens_order, names_order, party_of, meets, draws}
use Rattle.rules.specs.declared.terms.Flow.{Flow}
use Rattle.rules.specs.declared.terms.Flow.TheVariants as flow
use Rattle.rules.specs.declared.finding.Finding.{Finding}
use Rattle.rules.specs.declared.refusal.Buffer.{Buffer}
use Rattle.rules.specs.declared.refusal.Buffer.TheVariants.{Enough, Short}
use Rattle.rules.specs.declared.refusal.Timing.{Timing}
use Rattle.rules.specs.declared.refusal.Timing.TheVariants.{InTime, Early}
use Rattle.rules.specs.declared.refusal.Naming.{Naming}
use Rattle.rules.specs.declared.refusal.Naming.TheVariants.{Known, NoParticipant, KeyHeld, NoRoute, Full, KeyNotHeld}
use Rattle.rules.specs.declared.refusal.Permission.{Permission}
use Rattle.rules.specs.declared.refusal.Permission.TheVariants.{Granted, WrongParty, WrongStatus, TooLate, AboveOrder}
use Rattle.rules.specs.declared.refusal.Backing.{Backing}
use Rattle.rules.specs.declared.refusal.Backing.TheVariants.{Backed, TooLittle, NotAsCut, AboveLimit}
use Rattle.rules.specs.declared.Cover.{Cover}

-- 6. Report buffer below 6,528 bytes (544 reports)
abbrev pub least_buffer : ℕ
least_buffer = 6_528

abbrev pub buffer_of : List ℕ → Buffer
buffer_of buffer = cond (ltb (length buffer) least_buffer) Short Enough

abbrev pub buffer_refusal : Buffer → ℕ
buffer_refusal Enough = 0
buffer_refusal Short = 6

-- 11. Time before the clock (DT01)
abbrev pub timing_of : ℕ → ℕ → Timing
timing_of clock time = cond (ltb time clock) Early InTime

abbrev pub timing_refusal : Timing → ℕ
timing_refusal InTime = 0
timing_refusal Early = 11

-- 12. Sender no participant (all but 9 and 11)
abbrev pub refusal12 : Finding → Bool
refusal12 x = names_sender (terms_of x.kind).subject && not (is_some x.sender)

-- 13. Order: TxId already held (AM05). 02, slip 6: the pair of payer and TxId
abbrev pub refusal13 : Finding → Bool
refusal13 x = opens_order (terms_of x.kind).subject && is_some x.order

-- 14. Order: no route row with the payee BIC (PY01)
abbrev pub refusal14 : Finding → Bool
refusal14 x = opens_order (terms_of x.kind).subject && not (is_some x.route)

-- 15. Order: 256 held (TECH)
abbrev pub refusal15 : Finding → Bool
refusal15 x = opens_order (terms_of x.kind).subject && leb most_orders x.count

-- 16. Kinds 4 to 8: TxId not held (AG09, house). 02, slip 6: the pair of payer and TxId
abbrev pub refusal16 : Finding → Bool
refusal16 x = names_order (terms_of x.kind).subject && not (is_some x.order)

abbrev pub naming_of : Finding → Naming
naming_of x =
    cond (refusal12 x) NoParticipant
    (cond (refusal13 x) KeyHeld
    (cond (refusal14 x) NoRoute
    (cond (refusal15 x) Full
    (cond (refusal16 x) KeyNotHeld Known))))

abbrev pub naming_refusal : Naming → ℕ
naming_refusal Known = 0
naming_refusal NoParticipant = 12
naming_refusal KeyHeld = 13
naming_refusal NoRoute = 14
naming_refusal Full = 15
naming_refusal KeyNotHeld = 16

-- 17. Kinds 4 to 8: sender is the wrong party (XT87)
abbrev pub refusal17 : Finding → Bool
refusal17 x =
    names_order (terms_of x.kind).subject && not (eqb (number_of x.sender) (party_of (terms_of x.kind).party x.about))

-- 18. Kinds 4 to 7: status or mark not as the step needs (XT75)
abbrev pub refusal18 : Finding → Bool
refusal18 x = not (meets (terms_of x.kind).needs x.about.status)

-- 26. Recall: 864,000 seconds or more after the settlement (XT86). 02, slip 5: directly after 18 and leaving what 18 leaves
abbrev pub refusal26 : Finding → Bool
refusal26 x = (terms_of x.kind).timely && is_late x.clock x.about.status

-- 19. Return: amount above the order's (XT77). 02, slip 2: a return may be any amount from 1 cent to the order's; 0 is 9's
abbrev pub refusal19 : Finding → Bool
refusal19 x = (terms_of x.kind).within && ltb x.about.amount x.amount

abbrev pub permission_of : Finding → Permission
permission_of x =
    cond (refusal17 x) WrongParty
    (cond (refusal18 x) WrongStatus
    (cond (refusal26 x) TooLate
    (cond (refusal19 x) AboveOrder Granted)))

abbrev pub permission_refusal : Permission → ℕ
permission_refusal Granted = 0
permission_refusal WrongParty = 17
permission_refusal WrongStatus = 18
permission_refusal TooLate = 26
permission_refusal AboveOrder = 19

-- 20. Kinds 2, 3, 6: available of payer or drawer (for 6 the payee) below the amount (AM04): in each case the sender's
abbrev pub refusal20 : Finding → Bool
refusal20 x = draws (terms_of x.kind).flow && ltb x.cover.available x.amount

-- with held, the amount equals it; with open debit, an amount up to it
abbrev pub confirms : Cover → ℕ → Bool
confirms c n = cond (eqb c.held 0) (not (eqb c.debit 0) && leb n c.debit) (eqb n c.held)

-- 21. Cut with held or open debit anywhere; confirm with neither, or an amount its rule excludes
abbrev against_cut : Flow → Finding → Bool
against_cut flow.Nothing x = false
against_cut flow.Brings x = false
against_cut flow.Draws x = false
against_cut flow.Cuts x = x.unconfirmed
against_cut flow.Confirms x = not (confirms x.cover x.amount)

abbrev pub refusal21 : Finding → Bool
refusal21 x = against_cut (terms_of x.kind).flow x

-- a cover in, or a confirmed debit: a confirm with nothing held
abbrev pub brings_cover : Flow → Cover → Bool
brings_cover flow.Nothing c = false
brings_cover flow.Brings c = true
brings_cover flow.Draws c = false
brings_cover flow.Cuts c = false
brings_cover flow.Confirms c = eqb c.held 0

-- 22. Cover in or confirmed debit taking available + reserved + held of all above 10^18
abbrev pub refusal22 : Finding → Bool
refusal22 x = brings_cover (terms_of x.kind).flow x.cover && ltb most_total (x.total + x.amount)

abbrev pub backing_of : Finding → Backing
backing_of x = cond (refusal20 x) TooLittle (cond (refusal21 x) NotAsCut (cond (refusal22 x) AboveLimit Backed))

abbrev pub backing_refusal : Backing → ℕ
backing_refusal Backed = 0
backing_refusal TooLittle = 20
backing_refusal NotAsCut = 21
backing_refusal AboveLimit = 22

-- a later refusal is looked at only when none before it applies
abbrev pub first_of : ℕ → ℕ → ℕ
first_of n later = cond (eqb n 0) later n

abbrev pub first_refusal : Finding → ℕ
first_refusal x =
    first_of (naming_refusal (naming_of x)) (first_of (permission_refusal (permission_of x)) (backing_refusal (backing_of x)))
