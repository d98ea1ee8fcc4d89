-- A verdict stands for what `course` judges: `judged-verdict`. Kind by kind the first refusal that applies is that of the chain of checks,
-- and the step's verdict stands for the step's decision. Assumes nothing.
use Rattle.std.specs.Prelude.{Option, Some, None}
use mathlib.Core.Path.{◌≡◌, refl, sym, ◌∙◌, ap}
use mathlib.Core.Bool.{Bool, true, false, ◌&&◌, not, cond}
use Prim.Native.Nat.{ℕ, ◌+◌}
use borrow.Author.Tests.{eqb-true}
use lib.Dec.{eqb, ltb, leb}
use Rattle.ticket.specs.declared.kinds.Kind.{Kind}
use Rattle.ticket.specs.declared.kinds.Kind.TheVariants as kind
use Rattle.dayfile.specs.Route.{reached}
use Rattle.rules.specs.Book.{most_orders}
use Rattle.rules.specs.Cover.{most_total}
use Rattle.rules.specs.Status.{is_waiting, is_unmarked, is_asked, is_late}
use Rattle.rules.specs.Decision.{by, nobody, order_kept, order_becomes, inquiry_answer, decision_of}
use Rattle.rules.specs.Refusal.{naming_refusal, permission_refusal, backing_refusal, first_of, first_refusal}
use Rattle.rules.specs.Checks.{
  space_refusal,
  party_refusal,
  standing,
  standing_refusal,
  recalling_refusal,
  sum_refusal,
  funds_refusal,
  confirm_refusal,
  confirming,
  brings,
  total_refusal,
  cut_check,
  cut_refusal,
}
use Rattle.rules.specs.declared.Recall.TheVariants as mark
use Rattle.rules.specs.declared.Status.{Status}
use Rattle.rules.specs.declared.Status.TheVariants as status
use Rattle.rules.specs.declared.refusal.Naming.TheVariants as naming
use Rattle.rules.specs.declared.refusal.Permission.TheVariants as permission
use Rattle.rules.specs.declared.refusal.Backing.TheVariants as backing
use Rattle.rules.specs.declared.checks.Space.TheVariants as space
use Rattle.rules.specs.declared.checks.Party.TheVariants as party
use Rattle.rules.specs.declared.checks.Recalling.TheVariants as recalling
use Rattle.rules.specs.declared.checks.Sum.TheVariants as sum
use Rattle.rules.specs.declared.checks.Funds.TheVariants as funds
use Rattle.rules.specs.declared.checks.Confirming.{Confirming}
use Rattle.rules.specs.declared.checks.Confirming.TheVariants.{By, Excluded}
use Rattle.rules.specs.declared.checks.Limit.TheVariants as limit
use Rattle.rules.specs.declared.finding.Finding.{Finding}
use Rattle.rules.specs.declared.decision.Move.TheVariants.{Give, Draw, Spend, Debit, Credit}
use Rattle.rules.specs.declared.decision.Told.TheVariants.{Nobody, One, Two}
use Rattle.rules.specs.declared.verdict.About.{About}
use Rattle.rules.specs.declared.verdict.Verdict.{Verdict}
use Rattle.course.specs.Judging.{judged, decided_unless}
use Rattle.course.specs.declared.Judged.{Judged}
use Rattle.verdict.specs.OwnStep.{
  notice,
  unless,
  refused_verdict,
  cover_moved,
  opened,
  settled,
  turned_down,
  recalled,
  declined,
  returned,
  answered,
  cut_verdict,
  answer_told,
  answer_also,
  answer_amount,
}
use Rattle.verdict.specs.Judgement.{
  cover_in_refusal,
  cover_out_refusal,
  order_refusal,
  answer_refusal,
  recall_refusal,
  return_refusal,
  decline_refusal,
  inquiry_refusal,
  verdict_of,
}
use Rattle.verdict.specs.Meaning.{about_of, facts_of, report_by, notices_told, decision_by, judged_by}

-- refused by n, or a step
unless-judged : (x : Finding) (n : ℕ) (v : Verdict) → first_refusal x ≡ n → v.refusal ≡ 0 → decision_of x ≡ decision_by x v
    → judged 0 x ≡ judged_by x (unless n v)
unless-judged x n v refuses accepts stands =
    ap (λ (m : ℕ). record { refusal = m; decision = decided_unless m x }) refuses ∙ go (eqb n 0) refl
  where
    go : (z : Bool) → eqb n 0 ≡ z
        → record { refusal = n; decision = cond z (decision_of x) (order_kept x nobody false Nobody) }
        ≡ judged_by x (cond z v (refused_verdict n))
    go true e = λ i. record { refusal = (eqb-true n 0 e ∙ sym accepts) i; decision = stands i }
    go false e = refl

-- the checks behind 12 to 16, as truth values: whether each finds what it asks for
space-funds : (full short : Bool)
    → first_of (naming_refusal (cond full naming.Full naming.Known)) (backing_refusal (cond short backing.TooLittle backing.Backed))
    ≡ first_of (space_refusal (cond full space.Full space.Left)) (funds_refusal (cond short funds.TooLittle funds.Enough))
space-funds true short = refl
space-funds false true = refl
space-funds false false = refl

party-standing : (right met : Bool)
    → first_of (permission_refusal (cond (not right) permission.WrongParty (cond (not met) permission.WrongStatus permission.Granted))) 0
    ≡ first_of (party_refusal (cond right party.Right party.Wrong)) (standing_refusal (standing met))
party-standing false met = refl
party-standing true false = refl
party-standing true true = refl

recall-checks : (right met late : Bool)
    → first_of
    (permission_refusal
    (cond (not right) permission.WrongParty
    (cond (not met) permission.WrongStatus
    (cond late permission.TooLate permission.Granted)))) 0
    ≡ first_of (party_refusal (cond right party.Right party.Wrong))
    (first_of (standing_refusal (standing met))
    (recalling_refusal (cond late recalling.TooLate recalling.InTime)))
recall-checks false met late = refl
recall-checks true false late = refl
recall-checks true true true = refl
recall-checks true true false = refl

return-checks : (right met above short : Bool)
    → first_of
    (permission_refusal
    (cond (not right) permission.WrongParty
    (cond (not met) permission.WrongStatus
    (cond above permission.AboveOrder permission.Granted))))
    (backing_refusal (cond short backing.TooLittle backing.Backed))
    ≡ first_of (party_refusal (cond right party.Right party.Wrong))
    (first_of (standing_refusal (standing met))
    (first_of (sum_refusal (cond above sum.AboveOrder sum.UpToOrder))
    (funds_refusal (cond short funds.TooLittle funds.Enough))))
return-checks false met above short = refl
return-checks true false above short = refl
return-checks true true true short = refl
return-checks true true false true = refl
return-checks true true false false = refl

party-alone : (right : Bool)
    → first_of (permission_refusal (cond (not right) permission.WrongParty permission.Granted)) 0
    ≡ party_refusal (cond right party.Right party.Wrong)
party-alone true = refl
party-alone false = refl

funds-alone : (short : Bool)
    → backing_refusal (cond short backing.TooLittle backing.Backed) ≡ funds_refusal (cond short funds.TooLittle funds.Enough)
funds-alone true = refl
funds-alone false = refl

limit-alone : (above : Bool)
    → backing_refusal (cond above backing.AboveLimit backing.Backed) ≡ total_refusal (cond above limit.Above limit.Within)
limit-alone true = refl
limit-alone false = refl

cut-alone : (unconfirmed : Bool) → backing_refusal (cond unconfirmed backing.NotAsCut backing.Backed) ≡ cut_refusal (cut_check unconfirmed)
cut-alone true = refl
cut-alone false = refl

-- a confirm: whether nothing is held, whether its amount is within an open debit, whether it is all that is held, whether it goes above
-- the limit
abbrev pub confirmed : Bool → Bool → Bool → Confirming
confirmed no_notice within all = cond no_notice (cond within (By Debit) Excluded) (cond all (By Credit) Excluded)

confirm-checks : (y : Finding) (p n : ℕ) (no_notice within all above : Bool)
    → let m = backing_refusal
    (cond (not (cond no_notice within all)) backing.NotAsCut (cond (no_notice && above) backing.AboveLimit backing.Backed)) in
    let decides = order_kept y (by p (cond no_notice Debit Credit) n) false Nobody in
    let how = confirming (confirmed no_notice within all) in
    record { refusal = m; decision = cond (eqb m 0) decides (order_kept y nobody false Nobody) }
    ≡ judged_by y
    (unless
    (first_of (confirm_refusal (confirmed no_notice within all)) (total_refusal (cond (brings how && above) limit.Above limit.Within)))
    (cover_moved p how n))
confirm-checks y p n true true all true = refl
confirm-checks y p n true true all false = refl
confirm-checks y p n true false all above = refl
confirm-checks y p n false within true above = refl
confirm-checks y p n false within false above = refl

-- who is told of a yes, and of an order that waits: the payee a bank or not
yes-told : (payer payee i n : ℕ) (bank : Bool)
    → cond bank (Two (report_by (notice payer 2) i n) (report_by (notice payee 2) i n)) (One (report_by (notice payer 2) i n))
    ≡ notices_told (Some (notice payer 2)) (cond bank (Some (notice payee 2)) None) i n
yes-told payer payee i n true = refl
yes-told payer payee i n false = refl

waiting-told : (payer payee i n : ℕ) (bank : Bool)
    → One (cond bank (report_by (notice payer 9) i n) (report_by (notice payee 8) i n))
    ≡ notices_told (Some (cond bank (notice payer 9) (notice payee 8))) None i n
waiting-told payer payee i n true = refl
waiting-told payer payee i n false = refl

module _ (x : Finding) where
  abbrev about : About
  about = about_of x.about

  -- of any kind, whatever was found of sender, order and route
  abbrev of : Kind → Option ℕ → Option ℕ → Option ℕ → Finding
  of k sender order route =
      record {
        kind = k;
        amount = x.amount;
        clock = x.clock;
        txid = x.txid;
        sender = sender;
        cover = x.cover;
        order = order;
        about = x.about;
        bank = x.bank;
        route = route;
        way = x.way;
        count = x.count;
        unconfirmed = x.unconfirmed;
        total = x.total;
      }

  abbrev Stands : Finding → Type 0
  Stands y = judged 0 y ≡ judged_by y (verdict_of (facts_of y))

  cover-in : (s o r : Option ℕ) → Stands (of kind.CoverIn s o r)
  cover-in None o r = refl
  cover-in (Some p) o r =
      unless-judged (of kind.CoverIn (Some p) o r) (cover_in_refusal (Some p) x.total x.amount) (cover_moved p Give x.amount)
      (limit-alone (ltb most_total (x.total + x.amount))) refl refl

  cover-out : (s o r : Option ℕ) → Stands (of kind.CoverOut s o r)
  cover-out None o r = refl
  cover-out (Some p) o r =
      unless-judged (of kind.CoverOut (Some p) o r) (cover_out_refusal (Some p) x.cover.available x.amount) (cover_moved p Draw x.amount)
      (funds-alone (ltb x.cover.available x.amount)) refl refl

  order : (s o r : Option ℕ) → Stands (of kind.Order s o r)
  order None o r = refl
  order (Some p) (Some i) r = refl
  order (Some p) None None = refl
  order (Some p) None (Some row) =
      unless-judged (of kind.Order (Some p) None (Some row))
      (order_refusal (Some p) None (Some row) x.way x.count x.cover.available x.amount)
      (opened x.count p (reached x.way) x.amount)
      (space-funds (leb most_orders x.count) (ltb x.cover.available x.amount)) refl refl

  yes : (s o r : Option ℕ) → Stands (of kind.Yes s o r)
  yes None o r = refl
  yes (Some p) None r = refl
  yes (Some p) (Some i) r =
      let y = of kind.Yes (Some p) (Some i) r in
      unless-judged y (answer_refusal (Some p) (Some i) about) (settled i about x.bank x.clock)
      (party-standing (eqb p about.payee) (is_waiting about.status)) refl
      (ap
      (order_becomes y (status.Settled mark.None x.clock) (by about.payer Spend about.amount)
      (by about.payee Give about.amount))
      (yes-told about.payer about.payee i about.amount x.bank))

  no : (s o r : Option ℕ) → Stands (of kind.No s o r)
  no None o r = refl
  no (Some p) None r = refl
  no (Some p) (Some i) r =
      unless-judged (of kind.No (Some p) (Some i) r) (answer_refusal (Some p) (Some i) about) (turned_down i about)
      (party-standing (eqb p about.payee) (is_waiting about.status)) refl refl

  recall : (s o r : Option ℕ) → Stands (of kind.Recall s o r)
  recall None o r = refl
  recall (Some p) None r = refl
  recall (Some p) (Some i) r =
      unless-judged (of kind.Recall (Some p) (Some i) r) (recall_refusal (Some p) (Some i) about x.clock) (recalled i about)
      (recall-checks (eqb p about.payer) (is_unmarked about.status) (is_late x.clock about.status)) refl refl

  return : (s o r : Option ℕ) → Stands (of kind.Return s o r)
  return None o r = refl
  return (Some p) None r = refl
  return (Some p) (Some i) r =
      unless-judged (of kind.Return (Some p) (Some i) r)
      (return_refusal (Some p) (Some i) about x.cover.available x.amount) (returned i about x.amount)
      (return-checks (eqb p about.payee) (is_asked about.status) (ltb about.amount x.amount)
      (ltb x.cover.available x.amount))
      refl refl

  decline : (s o r : Option ℕ) → Stands (of kind.Decline s o r)
  decline None o r = refl
  decline (Some p) None r = refl
  decline (Some p) (Some i) r =
      unless-judged (of kind.Decline (Some p) (Some i) r) (decline_refusal (Some p) (Some i) about) (declined i about)
      (party-standing (eqb p about.payee) (is_asked about.status)) refl refl

  inquiry-told : (p i : ℕ) (r : Option ℕ) (s : Status)
      → inquiry_answer (of kind.Inquiry (Some p) (Some i) r) s
      ≡ notices_told (Some (answer_told about x.bank s)) (answer_also about s) i (answer_amount about s)
  inquiry-told p i r status.Waiting = waiting-told about.payer about.payee i about.amount x.bank
  inquiry-told p i r status.Refused = refl
  inquiry-told p i r status.Expired = refl
  inquiry-told p i r (status.Returned at n) = refl
  inquiry-told p i r (status.Settled mark.None at) = refl
  inquiry-told p i r (status.Settled mark.Asked at) = refl
  inquiry-told p i r (status.Settled mark.Declined at) = refl

  inquiry : (s o r : Option ℕ) → Stands (of kind.Inquiry s o r)
  inquiry None o r = refl
  inquiry (Some p) None r = refl
  inquiry (Some p) (Some i) r =
      let y = of kind.Inquiry (Some p) (Some i) r in
      unless-judged y (inquiry_refusal (Some p) (Some i) about) (answered i about x.bank)
      (party-alone (eqb p about.payer)) refl
      (ap (order_kept y nobody false) (inquiry-told p i r about.status))

  cut : (s o r : Option ℕ) → Stands (of kind.Cut s o r)
  cut s o r = unless-judged (of kind.Cut s o r) (cut_refusal (cut_check x.unconfirmed)) cut_verdict (cut-alone x.unconfirmed) refl refl

  confirm : (s o r : Option ℕ) → Stands (of kind.Confirm s o r)
  confirm None o r = refl
  confirm (Some p) o r =
      let c = x.cover in
      confirm-checks (of kind.Confirm (Some p) o r) p x.amount (eqb c.held 0) (not (eqb c.debit 0) && leb x.amount c.debit)
      (eqb x.amount c.held) (ltb most_total (x.total + x.amount))

  tick : (s o r : Option ℕ) → Stands (of kind.Tick s o r)
  tick s o r = refl

  by_kind : (k : Kind) (s o r : Option ℕ) → Stands (of k s o r)
  by_kind kind.CoverIn = cover-in
  by_kind kind.CoverOut = cover-out
  by_kind kind.Order = order
  by_kind kind.Yes = yes
  by_kind kind.No = no
  by_kind kind.Recall = recall
  by_kind kind.Return = return
  by_kind kind.Decline = decline
  by_kind kind.Inquiry = inquiry
  by_kind kind.Cut = cut
  by_kind kind.Confirm = confirm
  by_kind kind.Tick = tick

  pub judged-verdict : judged 0 x ≡ judged_by x (verdict_of (facts_of x))
  judged-verdict = by_kind x.kind x.sender x.order x.route

  pub refuses-alike : first_refusal x ≡ (verdict_of (facts_of x)).refusal
  refuses-alike = ap (λ (j : Judged). j.refusal) judged-verdict
