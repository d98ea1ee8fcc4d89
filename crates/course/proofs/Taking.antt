-- The step as one way for every ticket is the step of the rules. Assumes nothing.
use Rattle.std.specs.Prelude.{Err, Ok, Result, ℕ}
use mathlib.Core.Path.{◌≡◌, refl, sym, ◌∙◌, ap, ap₂}
use mathlib.Core.Bool.{Bool, true, false, cond}
use mathlib.Core.List.{List, ◌++◌, append-nil}
use Prim.Native.Nat.{ℕ}
use native.Mathlib.Omega.{arith}
use borrow.Author.Tests.{eqb-true, ne_eqb}
use lib.Dec.{eqb}
use lib.ListN.{set}
use lib.Seq.{set-get_or}
use Rattle.fields.specs.Search.{number_of}
use Rattle.ticket.specs.TicketReading.{reading}
use Rattle.ticket.specs.declared.Fields.{Fields}
use Rattle.ticket.specs.declared.kinds.Kind.{Kind}
use Rattle.ticket.specs.declared.kinds.Kind.TheVariants as kind
use Rattle.ticket.proofs.Refusals.{refused-number}
use Rattle.rules.specs.Book.{no_order, order_of}
use Rattle.rules.specs.Cover.{transferred}
use Rattle.rules.specs.Tick.{Step, tick}
use Rattle.rules.specs.Find.{finding}
use Rattle.rules.specs.Refusal.{first_of, first_refusal, timing_of}
use Rattle.rules.specs.Decision.{nobody, order_kept, inquiry_answer, decision_of, applied, told_by}
use Rattle.rules.specs.Step.{untouched, ticked, accepted, refused_or, step_timed, step_read, step_of}
use Rattle.rules.specs.declared.decision.Transfer.{Transfer}
use Rattle.rules.specs.declared.decision.Told.{Told}
use Rattle.rules.specs.declared.decision.Told.TheVariants.{Nobody}
use Rattle.rules.specs.declared.decision.Decision.{Decision}
use Rattle.rules.specs.declared.finding.Finding.{Finding}
use Rattle.rules.specs.declared.refusal.Timing.{Timing}
use Rattle.rules.specs.declared.refusal.Timing.TheVariants.{InTime, Early}
use Rattle.rules.specs.declared.Recall.TheVariants as mark
use Rattle.rules.specs.declared.Status.{Status}
use Rattle.rules.specs.declared.Status.TheVariants as status
use Rattle.rules.specs.declared.Order.{Order}
use Rattle.rules.specs.declared.Book.{Book}
use Rattle.rules.proofs.CoverMoving.{nobody-moves}
use Rattle.rules.proofs.Accepting.{fields_of}
use Rattle.course.specs.Entry.{refused_entry, timed_entry, read_entry}
use Rattle.course.specs.Seeking.{sought}
use Rattle.course.specs.Judging.{decided_unless, judged}
use Rattle.course.specs.Taking.{unswept, swept_for, carried_out, taken_as, taken_up}
use Rattle.course.specs.declared.Entry.{Entry}

-- a finding whose order is the book's own
record Own (b : Book) (x : Finding) : Type 0 where
  pub order : x.about ≡ order_of b.orders (number_of x.order)
  pub count : x.count ≡ b.count

module _ (w : Step) where
  abbrev book : Book
  book = w.book

  -- an order that is kept is written back
  write-back : (x : Finding) → Own book x → set book.orders (number_of x.order) x.about ≡ book.orders
  write-back x own = ap (set book.orders (number_of x.order)) own.order ∙ set-get_or book.orders (number_of x.order) no_order

  -- so it makes no difference which
  kept-alike : (x y : Finding) → Own book x → Own book y → (m : Transfer) (cuts : Bool) (told : Told)
      → accepted w (order_kept x m cuts told) ≡ accepted w (order_kept y m cuts told)
  kept-alike x y own own' m cuts told =
      ap₂ (λ (os : List Order) (n : ℕ).
      record {
        refusal = 0;
        reports = w.reports ++ told_by book (order_kept x m cuts told);
        rows = 0;
        book = record {
          clock = book.clock;
          covers = (applied book (order_kept x m cuts told)).covers;
          orders = os;
          count = n;
          roster = book.roster;
        };
      })
      (write-back x own ∙ sym (write-back y own'))
      (own.count ∙ sym own'.count)

  -- a refused ticket is carried out as a decision that keeps all as it is
  refused-carried : (x : Finding) → Own book x → (n : ℕ)
      → carried_out w (record { refusal = n; decision = order_kept x nobody false Nobody }) ≡ ticked w n
  refused-carried x own n =
      λ i. record {
        refusal = n;
        reports = append-nil w.reports i;
        rows = 0;
        book =
            record {
              clock = book.clock;
              covers = (nobody-moves (transferred nobody book.covers) ∙ nobody-moves book.covers) i;
              orders = write-back x own i;
              count = own.count i;
              roster = book.roster;
            };
      }

  -- judged and carried out: refused by n, or accepted
  judged-carried : (x : Finding) → Own book x → (n : ℕ)
      → carried_out w (record { refusal = n; decision = decided_unless n x }) ≡ refused_or n w x
  judged-carried x own n = go (eqb n 0) refl
    where
      go : (z : Bool) → eqb n 0 ≡ z
          → carried_out w (record { refusal = n; decision = cond z (decision_of x) (order_kept x nobody false Nobody) })
          ≡ cond z (accepted w (decision_of x)) (ticked w n)
      go true e = ap (λ (m : ℕ). carried_out w (record { refusal = m; decision = decision_of x })) (eqb-true n 0 e)
      go false e = refused-carried x own n

module _ (w : Step) (t : List ℕ) (r time n : ℕ) where
  abbrev entry : Kind → Entry
  entry k = record { refusal = r; kind = k; time = time; amount = n }

  abbrev x : Kind → Finding
  x k = finding w.book (fields_of k time n) t

  abbrev y : Kind → Finding
  y k = sought w.book (entry k) t

  own_x : (k : Kind) → Own w.book (x k)
  own_x k = record { order = refl; count = refl }

  own-y : (k : Kind) → Own w.book (y k)
  own-y k = record { order = refl; count = refl }

  -- refusals look at what was sought alone
  pub sought-refuses : (k : Kind) → first_refusal (y k) ≡ first_refusal (x k)
  sought-refuses kind.CoverIn = refl
  sought-refuses kind.CoverOut = refl
  sought-refuses kind.Order = refl
  sought-refuses kind.Yes = refl
  sought-refuses kind.No = refl
  sought-refuses kind.Recall = refl
  sought-refuses kind.Return = refl
  sought-refuses kind.Decline = refl
  sought-refuses kind.Inquiry = refl
  sought-refuses kind.Cut = refl
  sought-refuses kind.Confirm = refl
  sought-refuses kind.Tick = refl

  -- an order that is kept, one cover moving
  kept : (k : Kind) (m : Transfer) (cuts : Bool) (told : Told)
      → accepted w (order_kept (y k) m cuts told) ≡ accepted w (order_kept (x k) m cuts told)
  kept k = kept-alike w (y k) (x k) (own-y k) (own_x k)

  answers-alike : (s : Status) → inquiry_answer (y kind.Inquiry) s ≡ inquiry_answer (x kind.Inquiry) s
  answers-alike status.Waiting = refl
  answers-alike status.Refused = refl
  answers-alike status.Expired = refl
  answers-alike (status.Returned at n) = refl
  answers-alike (status.Settled mark.None at) = refl
  answers-alike (status.Settled mark.Asked at) = refl
  answers-alike (status.Settled mark.Declined at) = refl

  -- and so do the steps
  sought-decides : (k : Kind) → accepted w (decision_of (y k)) ≡ accepted w (decision_of (x k))
  sought-decides kind.CoverIn = kept kind.CoverIn (decision_of (x kind.CoverIn)).first false Nobody
  sought-decides kind.CoverOut = kept kind.CoverOut (decision_of (x kind.CoverOut)).first false Nobody
  sought-decides kind.Order = refl
  sought-decides kind.Yes = refl
  sought-decides kind.No = refl
  sought-decides kind.Recall = refl
  sought-decides kind.Return = refl
  sought-decides kind.Decline = refl
  sought-decides kind.Inquiry =
      ap (λ (told : Told). accepted w (order_kept (x kind.Inquiry) nobody false told)) (answers-alike (x kind.Inquiry).about.status)
  sought-decides kind.Cut = kept kind.Cut nobody true Nobody
  sought-decides kind.Confirm = kept kind.Confirm (decision_of (x kind.Confirm)).first false Nobody
  sought-decides kind.Tick = kept kind.Tick nobody false Nobody

  sought-alike : (k : Kind) (m : ℕ) → refused_or m w (y k) ≡ refused_or m w (x k)
  sought-alike k m = ap (λ (a : Step). cond (eqb m 0) a (ticked w m)) (sought-decides k)

  -- past 7 to 11
  passed : (k : Kind) → carried_out w (judged 0 (y k)) ≡ refused_or (first_refusal (x k)) w (x k)
  passed k = judged-carried w (y k) (own-y k) (first_refusal (y k)) ∙ sought-alike k (first_refusal (y k))
      ∙ ap (λ (m : ℕ). refused_or m w (x k)) (sought-refuses k)

-- refused by 7 to 11
module _ (n : ℕ) (refused : eqb n 0 ≡ false) where
  none-swept : (b : Book) → swept_for n b ≡ unswept b
  none-swept b = rw refused

  first-stays : (later : ℕ) → first_of n later ≡ n
  first-stays later = rw refused

  nothing-decided : (x : Finding) → decided_unless n x ≡ order_kept x nobody false Nobody
  nothing-decided x = rw refused

  judged-refused : (x : Finding) → judged n x ≡ record { refusal = n; decision = order_kept x nobody false Nobody }
  judged-refused x =
      ap (λ (m : ℕ). record { refusal = m; decision = decided_unless m x }) (first-stays (first_refusal x))
      ∙ ap (λ (d : Decision). record { refusal = n; decision = d }) (nothing-decided x)

  turned : (b : Book) (t : List ℕ) → taken_as b (refused_entry n b.clock) t ≡ untouched b n
  turned b t =
      let x = sought b (refused_entry n b.clock) t in
      ap (λ (w : Step). carried_out w (judged n (sought w.book (refused_entry n b.clock) t))) (none-swept b)
      ∙ ap (carried_out (unswept b)) (judged-refused x)
      ∙ refused-carried (unswept b) x (record { order = refl; count = refl }) n

step-timed : (b : Book) (t : List ℕ) (f : Fields) (z : Timing) → taken_as b (timed_entry b.clock f z) t ≡ step_timed b t f z
unfolding tick
step-timed b t f InTime = passed (tick b f.time) t 0 f.time f.amount f.kind
step-timed b t f Early = turned 11 refl b t

step-read : (b : Book) (t : List ℕ) (r : Result Fields ℕ) → reading t ≡ r → taken_as b (read_entry b.clock r) t ≡ step_read b t r
step-read b t (Ok f) e = step-timed b t f (timing_of b.clock f.time)
step-read b t (Err n) e = turned n (ne_eqb n 0 (λ z. let h = refused-number t n e in omega arith)) b t

pub step-taken : (b : Book) (t : List ℕ) → step_of b t ≡ taken_up b t
unfolding step_of
step-taken b t = sym (step-read b t (reading t) refl)
