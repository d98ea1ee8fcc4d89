-- Checks from 12 on, one by one: when each passes, and the number of each answer. They look at the book after the expiries.
--     sender_check, held_check                          12, 16: who sends, and which order is named
--     new_check, payee_check, space_check                13, 14, 15: whether an order can be opened
--     party_check                                      17
--     waiting_check, unmarked_check, asked_check         18, by the status that a step needs
--     recall_check                                     26
--     sum_check, funds_check                            19, 20
--     cut_check, confirm_check                          21, of a cut and of a confirm
--     limit_check                                      22
--     ..Refusal                                       the number of an answer, 0 where the check passes
-- Assumes nothing.
use Rattle.std.specs.Prelude.{ℕ, ◌+◌, Bool, true, false, ◌&&◌, not, cond, leb, ltb, eqb, Option, Some, None}
use Rattle.dayfile.specs.Route.{reached}
use Rattle.rules.specs.Book.{most_orders}
use Rattle.rules.specs.Cover.{most_total}
use Rattle.rules.specs.Status.{is_waiting, is_unmarked, is_asked, is_late}
use Rattle.rules.specs.declared.decision.Move.{Move}
use Rattle.rules.specs.declared.decision.Move.TheVariants.{Stay, Give, Draw, Reserve, Release, Spend, Credit, Debit}
use Rattle.rules.specs.declared.checks.Sender.{Sender}
use Rattle.rules.specs.declared.checks.Sender.TheVariants.{Is, NoParticipant}
use Rattle.rules.specs.declared.checks.Key.{Key}
use Rattle.rules.specs.declared.checks.Key.TheVariants.{New, AlreadyHeld}
use Rattle.rules.specs.declared.checks.Payee.{Payee}
use Rattle.rules.specs.declared.checks.Payee.TheVariants.{Reached, NoRoute}
use Rattle.rules.specs.declared.checks.Space.{Space}
use Rattle.rules.specs.declared.checks.Space.TheVariants.{Left, Full}
use Rattle.rules.specs.declared.checks.Held.{Held}
use Rattle.rules.specs.declared.checks.Held.TheVariants.{Number, NotHeld}
use Rattle.rules.specs.declared.checks.Party.{Party}
use Rattle.rules.specs.declared.checks.Party.TheVariants.{Right, Wrong}
use Rattle.rules.specs.declared.checks.Standing.{Standing}
use Rattle.rules.specs.declared.checks.Standing.TheVariants.{AsNeeded, NotAsNeeded}
use Rattle.rules.specs.declared.checks.Recalling.{Recalling}
use Rattle.rules.specs.declared.checks.Recalling.TheVariants.{InTime, TooLate}
use Rattle.rules.specs.declared.checks.Sum.{Sum}
use Rattle.rules.specs.declared.checks.Sum.TheVariants.{UpToOrder, AboveOrder}
use Rattle.rules.specs.declared.checks.Funds.{Funds}
use Rattle.rules.specs.declared.checks.Funds.TheVariants.{Enough, TooLittle}
use Rattle.rules.specs.declared.checks.Cutting.{Cutting}
use Rattle.rules.specs.declared.checks.Cutting.TheVariants.{AllConfirmed, Unconfirmed}
use Rattle.rules.specs.declared.checks.Confirming.{Confirming}
use Rattle.rules.specs.declared.checks.Confirming.TheVariants.{By, Excluded}
use Rattle.rules.specs.declared.checks.Limit.{Limit}
use Rattle.rules.specs.declared.checks.Limit.TheVariants.{Within, Above}
use Rattle.rules.specs.declared.Status.{Status}
use Rattle.dayfile.specs.declared.route.Way.{Way}

-- 12. Sender no participant (all but 9 and 11)
abbrev pub sender_check : Option ℕ → Sender
sender_check (Some p) = Is p
sender_check None = NoParticipant

abbrev pub sender_refusal : Sender → ℕ
sender_refusal (Is p) = 0
sender_refusal NoParticipant = 12

-- the participant that sends; of none participant 0, which nothing looks at
abbrev pub sending : Sender → ℕ
sending (Is p) = p
sending NoParticipant = 0

-- 13. Order: TxId already held (AM05). 02, slip 6: the pair of payer and TxId
abbrev pub new_check : Option ℕ → Key
new_check (Some i) = AlreadyHeld
new_check None = New

abbrev pub new_refusal : Key → ℕ
new_refusal New = 0
new_refusal AlreadyHeld = 13

-- 14. Order: no route row with the payee BIC (PY01)
abbrev pub payee_check : Option ℕ → Option Way → Payee
payee_check (Some row) way = Reached (reached way)
payee_check None way = NoRoute

abbrev pub payee_refusal : Payee → ℕ
payee_refusal (Reached p) = 0
payee_refusal NoRoute = 14

-- the participant that the row leads to; of none participant 0, which nothing looks at
abbrev pub receiving : Payee → ℕ
receiving (Reached p) = p
receiving NoRoute = 0

-- 15. Order: 256 held (TECH)
abbrev pub space_check : ℕ → Space
space_check count = cond (leb most_orders count) Full Left

abbrev pub space_refusal : Space → ℕ
space_refusal Left = 0
space_refusal Full = 15

-- 16. Kinds 4 to 8: TxId not held (AG09, house). 02, slip 6: the pair of payer and TxId
abbrev pub held_check : Option ℕ → Held
held_check (Some i) = Number i
held_check None = NotHeld

abbrev pub held_refusal : Held → ℕ
held_refusal (Number i) = 0
held_refusal NotHeld = 16

-- the order that is named; of none order 0, which nothing looks at
abbrev pub named : Held → ℕ
named (Number i) = i
named NotHeld = 0

-- 17. Kinds 4 to 8: sender is the wrong party (XT87)
abbrev pub party_check : ℕ → ℕ → Party
party_check sender answers = cond (eqb sender answers) Right Wrong

abbrev pub party_refusal : Party → ℕ
party_refusal Right = 0
party_refusal Wrong = 17

-- 18. Kinds 4 to 7: status or mark not as the step needs (XT75)
abbrev pub standing : Bool → Standing
standing met = cond met AsNeeded NotAsNeeded

-- Yes and no to Waiting
abbrev pub waiting_check : Status → Standing
waiting_check s = standing (is_waiting s)

-- Recall of Settled with mark none
abbrev pub unmarked_check : Status → Standing
unmarked_check s = standing (is_unmarked s)

-- Return and decline of Settled, asked
abbrev pub asked_check : Status → Standing
asked_check s = standing (is_asked s)

abbrev pub standing_refusal : Standing → ℕ
standing_refusal AsNeeded = 0
standing_refusal NotAsNeeded = 18

-- 26. Recall: 864,000 seconds or more after the settlement (XT86)
abbrev pub recall_check : ℕ → Status → Recalling
recall_check clock s = cond (is_late clock s) TooLate InTime

abbrev pub recalling_refusal : Recalling → ℕ
recalling_refusal InTime = 0
recalling_refusal TooLate = 26

-- 19. Return: amount above the order's (XT77)
abbrev pub sum_check : ℕ → ℕ → Sum
sum_check n amount = cond (ltb amount n) AboveOrder UpToOrder

abbrev pub sum_refusal : Sum → ℕ
sum_refusal UpToOrder = 0
sum_refusal AboveOrder = 19

-- 20. Kinds 2, 3, 6: available of payer or drawer (for 6 the payee) below the amount (AM04)
abbrev pub funds_check : ℕ → ℕ → Funds
funds_check available n = cond (ltb available n) TooLittle Enough

abbrev pub funds_refusal : Funds → ℕ
funds_refusal Enough = 0
funds_refusal TooLittle = 20

-- 21. Cut with held or open debit anywhere
abbrev pub cut_check : Bool → Cutting
cut_check unconfirmed = cond unconfirmed Unconfirmed AllConfirmed

abbrev pub cut_refusal : Cutting → ℕ
cut_refusal AllConfirmed = 0
cut_refusal Unconfirmed = 21

-- 21. Confirm with neither, or an amount its rule excludes. With held, the amount equals it (a confirmed credit); with open debit, an
-- amount up to it (a confirmed debit)
abbrev pub confirm_check : ℕ → ℕ → ℕ → Confirming
confirm_check held debit n =
    cond (eqb held 0)
    (cond (not (eqb debit 0) && leb n debit) (By Debit) Excluded)
    (cond (eqb n held) (By Credit) Excluded)

abbrev pub confirm_refusal : Confirming → ℕ
confirm_refusal (By how) = 0
confirm_refusal Excluded = 21

-- how a confirm moves cover; where it is excluded nothing looks at it
abbrev pub confirming : Confirming → Move
confirming (By how) = how
confirming Excluded = Stay

-- 22. Cover in or confirmed debit taking available + reserved + held of all above 10^18. Of a ticket's own moves these two bring cover
abbrev pub brings : Move → Bool
brings Stay = false
brings Give = true
brings Draw = false
brings Reserve = false
brings Release = false
brings Spend = false
brings Credit = false
brings Debit = true

abbrev pub limit_check : Move → ℕ → ℕ → Limit
limit_check how total n = cond (brings how && ltb most_total (total + n)) Above Within

abbrev pub total_refusal : Limit → ℕ
total_refusal Within = 0
total_refusal Above = 22
