-- Cases of each kind's judgement as rows: on both sides of an edge, and where two refusals apply at once. Assumes nothing.
use Rattle.std.specs.Prelude.{Option, Some, None, ◌++◌}
use Prim.Native.Nat.{ℕ}
use Prim.Native.String.{String}
use mathlib.Core.Path.{refl}
use mathlib.Core.Bool.{true, false}
use mathlib.Core.List.{List, [], ◌∷◌}
use Rattle.fields.proofs.CaseRows.{Row, AllMet, all-met}
use Rattle.dayfile.specs.Route.{way_to}
use Rattle.rules.specs.Status.{settled_at}
use Rattle.rules.specs.declared.Recall.TheVariants as mark
use Rattle.rules.specs.declared.Status.{Status}
use Rattle.rules.specs.declared.Status.TheVariants as status
use Rattle.rules.specs.declared.verdict.About.{About}
use Rattle.rules.specs.declared.verdict.Does.{Does}
use Rattle.rules.specs.declared.verdict.Notice.{Notice}
use Rattle.rules.specs.declared.verdict.Does.TheVariants as does
use Rattle.rules.specs.declared.verdict.Verdict.{Verdict}
use Rattle.verdict.specs.Judgement.{
  cover_in_verdict,
  cover_out_verdict,
  order_verdict,
  yes_verdict,
  no_verdict,
  recall_verdict,
  return_verdict,
  decline_verdict,
  inquiry_verdict,
  cuts_verdict,
  confirm_verdict,
}

-- of a report: to whom and which code, 0 and 0 where there is none
abbrev shown : Option Notice → List ℕ
shown None = 0 ∷ 0 ∷ []
shown (Some a) = a.to ∷ a.code ∷ []

-- of a verdict: the refusal, and the two reports
abbrev seen : Verdict → List ℕ
seen v = v.refusal ∷ shown v.told ++ shown v.also

abbrev answers : String → Verdict → List ℕ → Row
answers shows v due = record { shows = shows; rule = λ s. seen v; given = []; due = due }

-- of a verdict: the amount that moves and that its reports carry
abbrev carries : String → Verdict → ℕ → Row
carries shows v due = record { shows = shows; rule = λ s. v.amount ∷ []; given = []; due = due ∷ [] }

abbrev refuses : String → Verdict → ℕ → Row
refuses shows v n = answers shows v (n ∷ 0 ∷ 0 ∷ 0 ∷ 0 ∷ [])

-- of a verdict: the settlement time that the order keeps then
abbrev time_of : Does → ℕ
time_of does.Nothing = 0
time_of does.Opens = 0
time_of (does.Becomes s) = settled_at s
time_of does.Cuts = 0

abbrev remembers : String → Verdict → ℕ → Row
remembers shows v due = record { shows = shows; rule = λ s. time_of v.does ∷ []; given = []; due = due ∷ [] }

-- an order of 400 from participant 0 to participant 1; where it is settled, at 24
abbrev of : Status → About
of s = record { payer = 0; payee = 1; amount = 400; status = s }

abbrev unmarked : About
unmarked = of (status.Settled mark.None 24)

abbrev asked : About
asked = of (status.Settled mark.Asked 24)

abbrev pub cases : List Row
cases =
    refuses "a cover in up to 10^18" (cover_in_verdict (Some 0) 999_999_999_999_999_999 1) 0
    ∷ refuses "one cent more" (cover_in_verdict (Some 0) 999_999_999_999_999_999 2) 22
    ∷ refuses "the same by no participant" (cover_in_verdict None 999_999_999_999_999_999 2) 12
    ∷ refuses "a cover out of all that is available" (cover_out_verdict (Some 0) 1000 1000) 0
    ∷ refuses "one cent more" (cover_out_verdict (Some 0) 1000 1001) 20
    ∷ refuses "the same by no participant" (cover_out_verdict None 1000 1001) 12
    ∷ answers "an order of all that is available" (order_verdict (Some 0) None (Some 3) (way_to 1 2) 255 1000 1000) (0 ∷ 1 ∷ 1 ∷ 0 ∷ 0 ∷ [])
    ∷ refuses "one cent more" (order_verdict (Some 0) None (Some 3) (way_to 1 2) 255 1000 1001) 20
    ∷ refuses "the 257th order" (order_verdict (Some 0) None (Some 3) (way_to 1 2) 256 1000 1001) 15
    ∷ refuses "no route, and 256 held" (order_verdict (Some 0) None None None 256 1000 1001) 14
    ∷ refuses "a TxId that is held, and no route" (order_verdict (Some 0) (Some 7) None None 256 1000 1001) 13
    ∷ answers "a yes, the payee a bank" (yes_verdict (Some 1) (Some 7) (of status.Waiting) true 24) (0 ∷ 0 ∷ 2 ∷ 1 ∷ 2 ∷ [])
    ∷ answers "a yes, the payee a linked system" (yes_verdict (Some 1) (Some 7) (of status.Waiting) false 24) (0 ∷ 0 ∷ 2 ∷ 0 ∷ 0 ∷ [])
    ∷ remembers "its time is the settlement's" (yes_verdict (Some 1) (Some 7) (of status.Waiting) true 24) 24
    ∷ refuses "yes twice" (yes_verdict (Some 1) (Some 7) unmarked true 24) 18
    ∷ refuses "yes twice, by the payer" (yes_verdict (Some 0) (Some 7) unmarked true 24) 17
    ∷ refuses "a yes to no order" (yes_verdict (Some 0) None unmarked true 24) 16
    ∷ answers "a no is told to the payer only" (no_verdict (Some 1) (Some 7) (of status.Waiting)) (0 ∷ 0 ∷ 3 ∷ 0 ∷ 0 ∷ [])
    ∷ refuses "a no to an expired order" (no_verdict (Some 1) (Some 7) (of status.Expired)) 18
    ∷ refuses "the same by the payer" (no_verdict (Some 0) (Some 7) (of status.Expired)) 17
    ∷ answers "a recall" (recall_verdict (Some 0) (Some 7) unmarked 24) (0 ∷ 1 ∷ 5 ∷ 0 ∷ 0 ∷ [])
    ∷ refuses "a second recall" (recall_verdict (Some 0) (Some 7) asked 24) 18
    ∷ refuses "a recall by the payee" (recall_verdict (Some 1) (Some 7) asked 24) 17
    ∷ answers "a recall 863,999 seconds after the settlement" (recall_verdict (Some 0) (Some 7) unmarked 864_023) (0 ∷ 1 ∷ 5 ∷ 0 ∷ 0 ∷ [])
    ∷ remembers "a recall leaves the settlement's time" (recall_verdict (Some 0) (Some 7) unmarked 864_023) 24
    ∷ refuses "a second later" (recall_verdict (Some 0) (Some 7) unmarked 864_024) 26
    ∷ refuses "then, of an order that is asked" (recall_verdict (Some 0) (Some 7) asked 864_024) 18
    ∷ refuses "then, by the payee" (recall_verdict (Some 1) (Some 7) unmarked 864_024) 17
    ∷ refuses "then, of no order" (recall_verdict (Some 0) None unmarked 864_024) 16
    ∷ refuses "settled at 4,294,103,295, a recall in the last second"
    (recall_verdict (Some 0) (Some 7) (of (status.Settled mark.None 4_294_103_295)) 4_294_967_295) 26
    ∷ answers "settled a second later"
    (recall_verdict (Some 0) (Some 7) (of (status.Settled mark.None 4_294_103_296)) 4_294_967_295) (0 ∷ 1 ∷ 5 ∷ 0 ∷ 0 ∷ [])
    ∷ answers "a return" (return_verdict (Some 1) (Some 7) asked 400 400) (0 ∷ 0 ∷ 6 ∷ 0 ∷ 0 ∷ [])
    ∷ remembers "a return leaves the settlement's time" (return_verdict (Some 1) (Some 7) asked 400 400) 24
    ∷ refuses "a return with a cent too little available" (return_verdict (Some 1) (Some 7) asked 399 400) 20
    ∷ answers "a return of a cent less, of all that is available" (return_verdict (Some 1) (Some 7) asked 399 399) (0 ∷ 0 ∷ 6 ∷ 0 ∷ 0 ∷ [])
    ∷ carries "its report has its own amount" (return_verdict (Some 1) (Some 7) asked 399 399) 399
    ∷ refuses "a return of a cent less, with a cent too little available" (return_verdict (Some 1) (Some 7) asked 398 399) 20
    ∷ refuses "a return of a cent more" (return_verdict (Some 1) (Some 7) asked 401 401) 19
    ∷ refuses "a return of a cent more, with a cent too little available" (return_verdict (Some 1) (Some 7) asked 400 401) 19
    ∷ refuses "a return that was not asked for" (return_verdict (Some 1) (Some 7) unmarked 400 401) 18
    ∷ refuses "a second return" (return_verdict (Some 1) (Some 7) (of (status.Returned 24 399)) 1 1) 18
    ∷ answers "a decline" (decline_verdict (Some 1) (Some 7) asked) (0 ∷ 0 ∷ 7 ∷ 0 ∷ 0 ∷ [])
    ∷ remembers "a decline leaves the settlement's time" (decline_verdict (Some 1) (Some 7) asked) 24
    ∷ refuses "a decline that was not asked for" (decline_verdict (Some 1) (Some 7) unmarked) 18
    ∷ refuses "a decline of no order" (decline_verdict (Some 1) None unmarked) 16
    ∷ answers "an inquiry about an order that waits for a bank"
    (inquiry_verdict (Some 0) (Some 7) (of status.Waiting) true) (0 ∷ 0 ∷ 9 ∷ 0 ∷ 0 ∷ [])
    ∷ answers "for a linked system" (inquiry_verdict (Some 0) (Some 7) (of status.Waiting) false) (0 ∷ 1 ∷ 8 ∷ 0 ∷ 0 ∷ [])
    ∷ answers "about a refused one" (inquiry_verdict (Some 0) (Some 7) (of status.Refused) true) (0 ∷ 0 ∷ 3 ∷ 0 ∷ 0 ∷ [])
    ∷ answers "about an expired one" (inquiry_verdict (Some 0) (Some 7) (of status.Expired) true) (0 ∷ 0 ∷ 4 ∷ 0 ∷ 0 ∷ [])
    ∷ answers "about a returned one" (inquiry_verdict (Some 0) (Some 7) (of (status.Returned 24 399)) true) (0 ∷ 0 ∷ 6 ∷ 0 ∷ 0 ∷ [])
    ∷ carries "with the returned amount" (inquiry_verdict (Some 0) (Some 7) (of (status.Returned 24 399)) true) 399
    ∷ answers "about a settled one" (inquiry_verdict (Some 0) (Some 7) unmarked true) (0 ∷ 0 ∷ 2 ∷ 0 ∷ 0 ∷ [])
    ∷ carries "with the order's amount" (inquiry_verdict (Some 0) (Some 7) unmarked true) 400
    ∷ answers "recalled" (inquiry_verdict (Some 0) (Some 7) asked true) (0 ∷ 0 ∷ 2 ∷ 1 ∷ 8 ∷ [])
    ∷ answers "recalled and declined" (inquiry_verdict (Some 0) (Some 7) (of (status.Settled mark.Declined 24)) true) (0 ∷ 0 ∷ 2 ∷ 0 ∷ 7 ∷ [])
    ∷ refuses "an inquiry by the payee" (inquiry_verdict (Some 1) (Some 7) asked true) 17
    ∷ refuses "about no order" (inquiry_verdict (Some 1) None asked true) 16
    ∷ refuses "a cut" (cuts_verdict false) 0
    ∷ refuses "a cut before all is confirmed" (cuts_verdict true) 21
    ∷ refuses "held 50 confirmed by 50, with 10^18 in all" (confirm_verdict (Some 0) 50 0 1_000_000_000_000_000_000 50) 0
    ∷ refuses "held 50 confirmed by 49" (confirm_verdict (Some 0) 50 0 1000 49) 21
    ∷ refuses "the same by no participant" (confirm_verdict None 50 0 1000 49) 12
    ∷ refuses "confirm 0 of an open debit" (confirm_verdict (Some 0) 0 70 1000 0) 0
    ∷ refuses "all of an open debit" (confirm_verdict (Some 0) 0 70 1000 70) 0
    ∷ refuses "one cent more" (confirm_verdict (Some 0) 0 70 1000 71) 21
    ∷ refuses "a confirmed debit above 10^18" (confirm_verdict (Some 0) 0 70 1_000_000_000_000_000_000 1) 22
    ∷ refuses "confirm with neither" (confirm_verdict (Some 0) 0 0 1000 0) 21
    ∷ []

pub cases-hold : AllMet cases
cases-hold = all-met cases refl
