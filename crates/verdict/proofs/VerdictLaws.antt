-- What holds of every verdict: the laws by which it can be carried out. Assumes nothing.
--     every               what holds of a refused ticket's verdict and of the step of its kind
--     refused-alone       of a refused ticket all but the refusal is nothing
--     verdict-in-range    who moves and who is told are participants, and the order that is told of is one
--     verdict-gains       the second mover stays or is given
--     cuts-alone          a cut moves no cover by itself, and tells by the cut alone
--     opens-sent          only an order opens one, and it has a sender
use Rattle.std.specs.Prelude.{Option, Some, None, is_some}
use mathlib.Core.Path.{◌≡◌, refl, subst}
use mathlib.Core.Bool.{Bool, true, false, cond}
use Prim.Native.Nat.{ℕ, ◌≤◌, ◌<◌}
use native.Mathlib.Omega.{arith}
use lib.Dec.{eqb}
use Rattle.fields.specs.Search.{number_of}
use Rattle.ticket.specs.declared.kinds.Kind.{Kind}
use Rattle.ticket.specs.declared.kinds.Kind.TheVariants as kind
use Rattle.dayfile.specs.Route.{reached}
use Rattle.rules.specs.Checks.{
  sender_check,
  sending,
  payee_check,
  receiving,
  held_check,
  named,
  cut_refusal,
  cut_check,
  confirm_check,
  confirming,
}
use Rattle.rules.specs.declared.Recall.TheVariants as mark
use Rattle.rules.specs.declared.Status.{Status}
use Rattle.rules.specs.declared.Status.TheVariants as status
use Rattle.rules.specs.declared.decision.Move.TheVariants.{Give, Draw}
use Rattle.rules.specs.declared.verdict.About.{About}
use Rattle.rules.specs.declared.verdict.Facts.{Facts}
use Rattle.rules.specs.declared.verdict.Does.TheVariants.{Opens, Cuts}
use Rattle.rules.specs.declared.verdict.Notice.{Notice}
use Rattle.rules.specs.declared.verdict.Verdict.{Verdict}
use Rattle.verdict.specs.OwnStep.{
  unless,
  refused_verdict,
  nothing,
  cover_moved,
  opened,
  settled,
  turned_down,
  recalled,
  declined,
  returned,
  answered,
  answer_told,
  answer_also,
  cut_verdict,
}
use Rattle.verdict.specs.Meaning.{Gains, ToldBelow}
use Rattle.verdict.specs.Judgement.{
  cover_in_refusal,
  cover_out_refusal,
  order_refusal,
  order_verdict,
  answer_refusal,
  recall_refusal,
  return_refusal,
  decline_refusal,
  inquiry_refusal,
  confirms_refusal,
  verdict_for,
  verdict_of,
}
use Rattle.dayfile.specs.declared.route.Way.{Way}

-- the step of each kind
abbrev pub step_for : Kind → Facts → Verdict
step_for kind.CoverIn x = cover_moved (sending (sender_check x.sender)) Give x.amount
step_for kind.CoverOut x = cover_moved (sending (sender_check x.sender)) Draw x.amount
step_for kind.Order x = opened x.count (sending (sender_check x.sender)) (receiving (payee_check x.route x.way)) x.amount
step_for kind.Yes x = settled (named (held_check x.order)) x.about x.bank x.clock
step_for kind.No x = turned_down (named (held_check x.order)) x.about
step_for kind.Recall x = recalled (named (held_check x.order)) x.about
step_for kind.Return x = returned (named (held_check x.order)) x.about x.amount
step_for kind.Decline x = declined (named (held_check x.order)) x.about
step_for kind.Inquiry x = answered (named (held_check x.order)) x.about x.bank
step_for kind.Cut x = cut_verdict
step_for kind.Confirm x =
    cover_moved (sending (sender_check x.sender)) (confirming (confirm_check x.cover.held x.cover.debit x.amount)) x.amount
step_for kind.Tick x = nothing

module _ (P : Verdict → Type 0) (refused : (n : ℕ) → P (refused_verdict n)) where
  either : (n : ℕ) (v : Verdict) → P v → P (unless n v)
  either n v h = go (eqb n 0)
    where
      go : (z : Bool) → P (cond z v (refused_verdict n))
      go true = h
      go false = refused n

  pub by_kind : (k : Kind) (x : Facts) → P (step_for k x) → P (verdict_for k x)
  by_kind kind.CoverIn x = either (cover_in_refusal x.sender x.total x.amount) (step_for kind.CoverIn x)
  by_kind kind.CoverOut x = either (cover_out_refusal x.sender x.cover.available x.amount) (step_for kind.CoverOut x)
  by_kind kind.Order x =
      either (order_refusal x.sender x.order x.route x.way x.count x.cover.available x.amount) (step_for kind.Order x)
  by_kind kind.Yes x = either (answer_refusal x.sender x.order x.about) (step_for kind.Yes x)
  by_kind kind.No x = either (answer_refusal x.sender x.order x.about) (step_for kind.No x)
  by_kind kind.Recall x = either (recall_refusal x.sender x.order x.about x.clock) (step_for kind.Recall x)
  by_kind kind.Return x =
      either (return_refusal x.sender x.order x.about x.cover.available x.amount) (step_for kind.Return x)
  by_kind kind.Decline x = either (decline_refusal x.sender x.order x.about) (step_for kind.Decline x)
  by_kind kind.Inquiry x = either (inquiry_refusal x.sender x.order x.about) (step_for kind.Inquiry x)
  by_kind kind.Cut x = either (cut_refusal (cut_check x.unconfirmed)) (step_for kind.Cut x)
  by_kind kind.Confirm x =
      either (confirms_refusal x.sender x.cover.held x.cover.debit x.total x.amount) (step_for kind.Confirm x)
  by_kind kind.Tick x = λ (h : P nothing). h

  every : (x : Facts) → P (step_for x.kind x) → P (verdict_of x)
  every x = by_kind x.kind x

-- a step is not refused
step-accepted : (k : Kind) (x : Facts) → (step_for k x).refusal ≡ 0
step-accepted kind.CoverIn x = refl
step-accepted kind.CoverOut x = refl
step-accepted kind.Order x = refl
step-accepted kind.Yes x = refl
step-accepted kind.No x = refl
step-accepted kind.Recall x = refl
step-accepted kind.Return x = refl
step-accepted kind.Decline x = refl
step-accepted kind.Inquiry x = refl
step-accepted kind.Cut x = refl
step-accepted kind.Confirm x = refl
step-accepted kind.Tick x = refl

pub refused-alone : (x : Facts) → ((verdict_of x).refusal ≡ 0 → ⊥) → verdict_of x ≡ refused_verdict (verdict_of x).refusal
refused-alone x =
    every (λ v. (v.refusal ≡ 0 → ⊥) → v ≡ refused_verdict v.refusal) (λ n h. refl) x (λ h. absurd (h (step-accepted x.kind x)))

-- the second mover stays or is given
step-gains : (k : Kind) (x : Facts) → Gains (step_for k x).second.how
step-gains kind.CoverIn x = tt
step-gains kind.CoverOut x = tt
step-gains kind.Order x = tt
step-gains kind.Yes x = tt
step-gains kind.No x = tt
step-gains kind.Recall x = tt
step-gains kind.Return x = tt
step-gains kind.Decline x = tt
step-gains kind.Inquiry x = tt
step-gains kind.Cut x = tt
step-gains kind.Confirm x = tt
step-gains kind.Tick x = tt

pub verdict-gains : (x : Facts) → Gains (verdict_of x).second.how
verdict-gains x = every (λ v. Gains v.second.how) (λ n. tt) x (step-gains x.kind x)

-- the numbers of what was found
pub record Known (size orders : ℕ) (x : Facts) : Type 0 where
  pub sender : number_of x.sender < size
  pub payer : x.about.payer < size
  pub payee : x.about.payee < size
  pub reached : reached x.way < size
  pub order : number_of x.order < orders
  pub count : x.count < orders

-- whoever is told is one of more as well
pub told-below-more : (m n : ℕ) (a : Option Notice) → m ≤ n → ToldBelow m a → ToldBelow n a
told-below-more m n None h l = tt
told-below-more m n (Some a) h l = omega arith

-- the numbers of a verdict
pub record VerdictInRange (size orders : ℕ) (v : Verdict) : Type 0 where
  pub first : v.first.who < size
  pub second : v.second.who < size
  pub told : ToldBelow size v.told
  pub also : ToldBelow size v.also
  pub number : v.number < orders

sends : (f : Option ℕ) (n : ℕ) → number_of f < n → sending (sender_check f) < n
sends (Some p) n h = h
sends None n h = h

names : (f : Option ℕ) (n : ℕ) → number_of f < n → named (held_check f) < n
names (Some i) n h = h
names None n h = h

receives : (f : Option ℕ) (w : Option Way) (n : ℕ) → reached w < n → receiving (payee_check f w) < n
receives (Some row) w n h = h
receives None w n h = omega arith

module _ (size : ℕ) (a : About) (payer : a.payer < size) (payee : a.payee < size) where
  told_below : (bank : Bool) (s : Status) → (answer_told a bank s).to < size
  told_below true status.Waiting = payer
  told_below false status.Waiting = payee
  told_below bank status.Refused = payer
  told_below bank status.Expired = payer
  told_below bank (status.Returned at n) = payer
  told_below bank (status.Settled m at) = payer

  also-below : (s : Status) → ToldBelow size (answer_also a s)
  also-below status.Waiting = tt
  also-below status.Refused = tt
  also-below status.Expired = tt
  also-below (status.Returned at n) = tt
  also-below (status.Settled mark.None at) = tt
  also-below (status.Settled mark.Asked at) = payee
  also-below (status.Settled mark.Declined at) = payer

  payee-below : (i : ℕ) (bank : Bool) (clock : ℕ) → ToldBelow size (settled i a bank clock).also
  payee-below i true clock = payee
  payee-below i false clock = tt

module _ (size orders : ℕ) (x : Facts) (h : Known size orders x) where
  i : named (held_check x.order) < orders
  i = names x.order orders h.order

  p : sending (sender_check x.sender) < size
  p = sends x.sender size h.sender

  nobody-in-range : (n : ℕ) → VerdictInRange size orders (refused_verdict n)
  nobody-in-range n =
      let o = h.order in
      record { first = omega (arith, p); second = omega (arith, p); told = tt; also = tt; number = omega arith }

  moves : (v : Verdict) → v.first.who ≡ sending (sender_check x.sender) → v.second.who ≡ 0 → v.told ≡ None
      → v.also ≡ None → v.number ≡ 0
      → VerdictInRange size orders v
  moves v a b c d e =
      let s = p in
      let o = h.order in
      record { first = omega arith; second = omega arith; told = rw c tt; also = rw d tt; number = omega arith }

  step-in-range : (k : Kind) → VerdictInRange size orders (step_for k x)
  step-in-range kind.CoverIn = moves (step_for kind.CoverIn x) refl refl refl refl refl
  step-in-range kind.CoverOut = moves (step_for kind.CoverOut x) refl refl refl refl refl
  step-in-range kind.Order =
      record {
        first = p;
        second = omega (arith, p);
        told = receives x.route x.way size h.reached;
        also = tt;
        number = h.count;
      }
  step-in-range kind.Yes =
      record {
        first = h.payer;
        second = h.payee;
        told = h.payer;
        also = payee-below size x.about h.payer h.payee (named (held_check x.order)) x.bank x.clock;
        number = i;
      }
  step-in-range kind.No = record { first = h.payer; second = omega (arith, p); told = h.payer; also = tt; number = i }
  step-in-range kind.Recall =
      record { first = omega (arith, p); second = omega (arith, p); told = h.payee; also = tt; number = i }
  step-in-range kind.Return = record { first = h.payee; second = h.payer; told = h.payer; also = tt; number = i }
  step-in-range kind.Decline =
      record { first = omega (arith, p); second = omega (arith, p); told = h.payer; also = tt; number = i }
  step-in-range kind.Inquiry =
      record {
        first = omega (arith, p);
        second = omega (arith, p);
        told = told_below size x.about h.payer h.payee x.bank x.about.status;
        also = also-below size x.about h.payer h.payee x.about.status;
        number = i;
      }
  step-in-range kind.Cut =
      record {
        first = omega (arith, p);
        second = omega (arith, p);
        told = tt;
        also = tt;
        number = omega (arith, i);
      }
  step-in-range kind.Confirm = moves (step_for kind.Confirm x) refl refl refl refl refl
  step-in-range kind.Tick = nobody-in-range 0

  pub verdict-in-range : VerdictInRange size orders (verdict_of x)
  verdict-in-range = every (VerdictInRange size orders) nobody-in-range x (step-in-range x.kind)

-- a cut moves no cover by itself, and tells by the cut alone
step-cuts : (k : Kind) (x : Facts) → (step_for k x).does ≡ Cuts → step_for k x ≡ cut_verdict
step-cuts kind.Cut x e = refl
step-cuts kind.CoverIn x e = cc
step-cuts kind.CoverOut x e = cc
step-cuts kind.Order x e = cc
step-cuts kind.Yes x e = cc
step-cuts kind.No x e = cc
step-cuts kind.Recall x e = cc
step-cuts kind.Return x e = cc
step-cuts kind.Decline x e = cc
step-cuts kind.Inquiry x e = cc
step-cuts kind.Confirm x e = cc
step-cuts kind.Tick x e = cc

pub cuts-alone : (x : Facts) → (verdict_of x).does ≡ Cuts → verdict_of x ≡ cut_verdict
cuts-alone x = every (λ v. v.does ≡ Cuts → v ≡ cut_verdict) (λ n e. cc) x (step-cuts x.kind x)

-- only an order opens one, and it has a sender
step-opens : (k : Kind) (x : Facts) → (step_for k x).does ≡ Opens → k ≡ kind.Order
step-opens kind.Order x e = refl
step-opens kind.CoverIn x e = cc
step-opens kind.CoverOut x e = cc
step-opens kind.Yes x e = cc
step-opens kind.No x e = cc
step-opens kind.Recall x e = cc
step-opens kind.Return x e = cc
step-opens kind.Decline x e = cc
step-opens kind.Inquiry x e = cc
step-opens kind.Cut x e = cc
step-opens kind.Confirm x e = cc
step-opens kind.Tick x e = cc

order-sent : (x : Facts) (sender : Option ℕ)
    → (order_verdict sender x.order x.route x.way x.count x.cover.available x.amount).does ≡ Opens
    → is_some sender ≡ true
order-sent x (Some p) e = refl
order-sent x None e = cc

pub opens-sent : (x : Facts) → (verdict_of x).does ≡ Opens → is_some x.sender ≡ true
opens-sent x e =
    let is = every (λ v. v.does ≡ Opens → x.kind ≡ kind.Order) (λ n e. cc) x (step-opens x.kind x) e in
    order-sent x x.sender (subst (λ (k : Kind). (verdict_for k x).does ≡ Opens) is e)
