-- The reports of a step: each fits its 12 bytes, there are at most 544, and they read back from the buffer. Assumes nothing.
use Rattle.std.specs.Prelude.{None, Option, Some, ℕ}
use mathlib.Core.Path.{◌≡◌, refl}
use mathlib.Core.Bool.{Bool, true, false, cond}
use mathlib.Core.List.{List, [], ◌∷◌, ◌++◌}
use Prim.Native.Nat.{ℕ, zero, suc, ◌+◌, ◌-◌, ◌^◌, ◌≤◌, ◌<◌}
use native.Mathlib.Omega.{arith}
use lib.Dec.{ltb}
use lib.ListN.{length, length-append}
use Rattle.fields.specs.Search.{number_of}
use Rattle.ticket.specs.Form.{most_order}
use Rattle.ticket.specs.declared.Fields.{Fields}
use Rattle.ticket.specs.declared.kinds.Kind.{Kind}
use Rattle.ticket.specs.declared.kinds.Kind.TheVariants as kind
use Rattle.ticket.proofs.TicketTelling.{Tells}
use Rattle.report.specs.ReportLayout.{reports_of, FittingReport, AllFitting}
use Rattle.report.specs.declared.Report.{Report}
use Rattle.report.proofs.ReportLaws.{laid-reads-back}
use Rattle.dayfile.specs.Roster.{participant_of}
use Rattle.dayfile.specs.Guarantee.{OpeningWithin}
use Rattle.rules.specs.Book.{most_orders, order_of, cover_of, is_bank}
use Rattle.rules.specs.Tell.{tell_order, tell_cut, listed}
use Rattle.rules.specs.Tick.{Step, due, expire_told, sweep_to, at_time, tick}
use Rattle.rules.specs.Find.{finding}
use Rattle.rules.specs.Cut.{cut_report, cut_reports_to}
use Rattle.rules.specs.Decision.{to_payer, to_payee, return_report, settled_told, settled_answer, inquiry_answer, decision_of, told_by}
use Rattle.rules.specs.Step.{step_of, handed, outcome}
use Rattle.rules.specs.Sound.{StatusSound, Sound}
use Rattle.rules.specs.declared.finding.Finding.{Finding}
use Rattle.rules.specs.declared.decision.Told.TheVariants.{One, Two}
use Rattle.rules.specs.declared.Recall.{Recall}
use Rattle.rules.specs.declared.Recall.TheVariants as mark
use Rattle.rules.specs.declared.Status.{Status}
use Rattle.rules.specs.declared.Status.TheVariants as status
use Rattle.rules.specs.declared.Order.{Order}
use Rattle.rules.specs.declared.Book.{Book}
use Rattle.rules.proofs.SoundLimits.{available-limited, participant-below, order_below}
use Rattle.rules.proofs.Refusing.{NoRefusal}
use Rattle.rules.proofs.Accepting.{fields_of}
use Rattle.rules.proofs.Accepting as accepting
use Rattle.rules.proofs.SoundKeeping.{later-sound}
use Rattle.rules.proofs.SweepSound.{Swept, swept, tick-swept}
use Rattle.rules.proofs.Courses.{step-goes, handed-goes}

-- reports that fit, and at most so many of them
pub record Few (n : ℕ) (rs : List Report) : Type 0 where
  pub fit : AllFitting rs
  pub few : length rs ≤ n

pub fitting-append : (rs ts : List Report) → AllFitting rs → AllFitting ts → AllFitting (rs ++ ts)
fitting-append [] ts a b = b
fitting-append (r ∷ rs) ts a b = (a.0, fitting-append rs ts a.1 b)

few-append : (m n : ℕ) (rs ts : List Report) → Few m rs → Few n ts → Few (m + n) (rs ++ ts)
few-append m n rs ts a b =
    record {
      fit = fitting-append rs ts a.fit b.fit;
      few = rw (length-append rs ts) (let x = a.few in let y = b.few in omega arith);
    }

few-none : (n : ℕ) → Few n []
few-none n = record { fit = tt; few = omega arith }

few-one : (n : ℕ) (r : Report) → FittingReport r → Few (1 + n) (r ∷ [])
few-one n r f = record { fit = (f, tt); few = omega arith }

few-two : (n : ℕ) (r q : Report) → FittingReport r → FittingReport q → Few (2 + n) (r ∷ q ∷ [])
few-two n r q f g = record { fit = (f, (g, tt)); few = omega arith }

few-more : (m n : ℕ) (rs : List Report) → m ≤ n → Few m rs → Few n rs
few-more m n rs l a = record { fit = a.fit; few = let x = a.few in omega arith }

module _ (b : Book) (s : Sound b) where
  fit-order : (to code i n : ℕ) → to < b.roster.size → code < 12 → i < most_orders → n ≤ most_order
      → FittingReport (record { to = to; code = code; order = i; amount = n })
  fit-order to code i n h c l m =
      record { to = let x = participant-below b s to h in omega arith; code = omega arith; order = omega arith; amount = omega arith }

  fit_cut : (p code n : ℕ) → p < b.roster.size → code < 12 → n < 256 ^ 8 → FittingReport (tell_cut p code n)
  fit_cut p code n h c l =
      record { to = let x = participant-below b s p h in omega arith; code = omega arith; order = omega arith; amount = l }

-- the expiries: two for each order
pub swept-few : (b : Book) → Sound b → (i : ℕ) → i ≤ b.count → Few (i + i) (sweep_to b i).reports
swept-few b s zero h = few-none 0
swept-few b s (suc i) h =
    go (swept b s i (omega arith)) (swept-few b s i (omega arith)) (due w.book.clock o (is_bank w.book.roster o.payee))
  where
    w : Step
    w = sweep_to b i

    o : Order
    o = order_of w.book.orders i

    go : Swept b w → Few (i + i) w.reports → (d : Bool) → Few (suc i + suc i) (cond d (expire_told w i o) w).reports
    go r f true =
        let v = w.book in
        let l : i < v.count = let c = r.count in omega arith in
        let n = order_below v r.sound i l in
        let m = r.sound.orders.most i l in
        few-more (i + i + (2 + 0)) (suc i + suc i) _ (omega arith)
        (few-append (i + i) (2 + 0) w.reports _ f
        (few-two 0 (tell_order o.payer 4 i o) (tell_order o.payee 4 i o)
        (fit-order v r.sound o.payer 4 i o.amount (r.sound.orders.payer i l) (omega arith) n m)
        (fit-order v r.sound o.payee 4 i o.amount (r.sound.orders.payee i l) (omega arith) n m)))
    go r f false = few-more (i + i) (suc i + suc i) _ (omega arith) f

ticked-few : (b : Book) → Sound b → (time : ℕ) → b.clock ≤ time → Few 512 (tick b time).reports
unfolding tick
ticked-few b s time l =
    few-more (b.count + b.count) 512 _ (let c = s.orders.count in omega arith)
    (swept-few (at_time b time) (later-sound b s time l) b.count (omega arith))

module _ (b : Book) (s : Sound b) where
  -- the cut: at most one for each participant
  cut-one-few : (p : ℕ) → p < b.roster.size → (o : Option ℕ) → OpeningWithin o → Few 1 (cut_report p o (cover_of b.covers p))
  cut-one-few p h None i = few-none 1
  cut-one-few p h (Some k) i = go (ltb k a) (ltb a k)
    where
      a : ℕ
      a = (cover_of b.covers p).available

      go : (x y : Bool) → Few 1 (cond x (tell_cut p 11 (a - k) ∷ []) (cond y (tell_cut p 10 (k - a) ∷ []) []))
      go true y = few-one 0 _ (fit_cut b s p 11 (a - k) h (omega arith) (let m = available-limited b s p h in omega arith))
      go false true = few-one 0 _ (fit_cut b s p 10 (k - a) h (omega arith) (omega arith))
      go false false = few-none 1

  cut-few : (p : ℕ) → p ≤ b.roster.size → Few p (cut_reports_to b.roster b.covers p)
  cut-few zero h = few-none 0
  cut-few (suc p) h =
      few-more (p + 1) (suc p) _ (omega arith)
      (few-append p 1 (cut_reports_to b.roster b.covers p) _ (cut-few p (omega arith))
      (cut-one-few p h (participant_of b.roster p).opening (s.roster.opening p h)))

  -- reports about an order that is held
  module _ (n time : ℕ) (t : List ℕ) (k : Kind) (h : accepting.order_number b (fields_of k time n) t < b.count) where
    abbrev x : Finding
    x = finding b (fields_of k time n) t

    fit-payer : (code : ℕ) → code < 12 → FittingReport (to_payer x code)
    fit-payer code c =
        fit-order b s _ code (number_of x.order) x.about.amount (s.orders.payer _ h) c (order_below b s _ h) (s.orders.most _ h)

    fit-payee : (code : ℕ) → code < 12 → FittingReport (to_payee x code)
    fit-payee code c =
        fit-order b s _ code (number_of x.order) x.about.amount (s.orders.payee _ h) c (order_below b s _ h) (s.orders.most _ h)

    settled-few : Few 32 (listed (settled_told x))
    settled-few = go x.bank
      where
        go : (z : Bool) → Few 32 (listed (cond z (Two (to_payer x 2) (to_payee x 2)) (One (to_payer x 2))))
        go true = few-two 30 _ _ (fit-payer 2 (omega arith)) (fit-payee 2 (omega arith))
        go false = few-one 31 _ (fit-payer 2 (omega arith))

    settled-answer-few : (m : Recall) → Few 32 (listed (settled_answer x m))
    settled-answer-few mark.None = few-one 31 _ (fit-payer 2 (omega arith))
    settled-answer-few mark.Asked = few-two 30 _ _ (fit-payer 2 (omega arith)) (fit-payee 8 (omega arith))
    settled-answer-few mark.Declined = few-two 30 _ _ (fit-payer 2 (omega arith)) (fit-payer 7 (omega arith))

    return-few : (m : ℕ) → m ≤ most_order → Few 32 (return_report x m ∷ [])
    return-few m l = few-one 31 _ (fit-order b s _ 6 (number_of x.order) m (s.orders.payer _ h) (omega arith) (order_below b s _ h) l)

    answer-few : (u : Status) → StatusSound x.about.amount x.about.time b.clock u → Few 32 (listed (inquiry_answer x u))
    answer-few status.Waiting w = go x.bank
      where
        go : (z : Bool) → Few 32 (cond z (to_payer x 9) (to_payee x 8) ∷ [])
        go true = few-one 31 _ (fit-payer 9 (omega arith))
        go false = few-one 31 _ (fit-payee 8 (omega arith))
    answer-few status.Refused w = few-one 31 _ (fit-payer 3 (omega arith))
    answer-few status.Expired w = few-one 31 _ (fit-payer 4 (omega arith))
    answer-few (status.Returned at m) w = return-few m (let l = w.3 in let o = s.orders.most _ h in omega arith)
    answer-few (status.Settled m at) w = settled-answer-few m

    payer-few : (code : ℕ) → code < 12 → Few 32 (to_payer x code ∷ [])
    payer-few code c = few-one 31 _ (fit-payer code c)

    payee-few : (code : ℕ) → code < 12 → Few 32 (to_payee x code ∷ [])
    payee-few code c = few-one 31 _ (fit-payee code c)

  module _ (n time : ℕ) (t : List ℕ) where
    -- the ticket's own reports: at most 32
    own-few : (k : Kind) → Tells t (fields_of k time n) → NoRefusal (finding b (fields_of k time n) t)
        → Few 32 (told_by b (decision_of (finding b (fields_of k time n) t)))
    own-few kind.CoverIn tells r = few-none 32
    own-few kind.CoverOut tells r = few-none 32
    own-few kind.Order tells r =
        few-one 31 _
        (fit-order b s _ 1 b.count n (accepting.payee-known b (fields_of kind.Order time n) t s.roster r.r14 refl) (omega arith)
        (accepting.order-room b (fields_of kind.Order time n) t r.r15 refl) tells.most)
    own-few kind.Yes tells r = settled-few n time t kind.Yes (accepting.order-found b (fields_of kind.Yes time n) t r.r16 refl).below
    own-few kind.No tells r =
        payer-few n time t kind.No (accepting.order-found b (fields_of kind.No time n) t r.r16 refl).below 3 (omega arith)
    own-few kind.Recall tells r =
        payee-few n time t kind.Recall (accepting.order-found b (fields_of kind.Recall time n) t r.r16 refl).below 5 (omega arith)
    own-few kind.Return tells r =
        return-few n time t kind.Return (accepting.order-found b (fields_of kind.Return time n) t r.r16 refl).below n tells.most
    own-few kind.Decline tells r =
        payer-few n time t kind.Decline (accepting.order-found b (fields_of kind.Decline time n) t r.r16 refl).below 7 (omega arith)
    own-few kind.Inquiry tells r =
        let f = fields_of kind.Inquiry time n in
        let h = (accepting.order-found b f t r.r16 refl).below in
        answer-few n time t kind.Inquiry h (accepting.the_order b f t).status (s.orders.status _ h)
    own-few kind.Cut tells r = few-more b.roster.size 32 _ s.roster.size (cut-few b.roster.size (omega arith))
    own-few kind.Confirm tells r = few-none 32
    own-few kind.Tick tells r = few-none 32

-- a step's reports fit, and are at most as many as the buffer of refusal 6 holds
module _ (b : Book) (s : Sound b) (t : List ℕ) where
  refused-few : (f : Fields) → Tells t f → b.clock ≤ f.time → (n : ℕ) → 12 ≤ n → Few 544 (tick b f.time).reports
  refused-few f tells l n low = few-more 512 544 _ (omega arith) (ticked-few b s f.time l)

  taken-few : (f : Fields) → Tells t f → b.clock ≤ f.time → NoRefusal (finding (tick b f.time).book f t)
      → Few 544 ((tick b f.time).reports ++ told_by (tick b f.time).book (decision_of (finding (tick b f.time).book f t)))
  taken-few f tells l none =
      few-append 512 32 (tick b f.time).reports _ (ticked-few b s f.time l)
      (own-few (tick b f.time).book (tick-swept b s f.time l).sound f.amount f.time t f.kind tells none)

  pub step-few : Few 544 (step_of b t).reports
  step-few = step-goes b t (λ (w : Step). Few 544 w.reports) (λ n low high. few-none 544) refused-few taken-few

  pub handed-few : (buffer : List ℕ) → Few 544 (handed b t buffer).reports
  handed-few = handed-goes b t (λ (w : Step). Few 544 w.reports) (λ n low high. few-none 544) refused-few taken-few

-- the buffer reads back: the reports read from it are the step's
pub buffer-reads-back : (b : Book) → Sound b → (t buffer : List ℕ)
    → reports_of (outcome b t buffer).reports (outcome b t buffer).buffer ≡ (handed b t buffer).reports
buffer-reads-back b s t buffer = laid-reads-back (handed b t buffer).reports buffer (handed-few b s t buffer).fit
