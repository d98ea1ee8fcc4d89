-- One step: where history and book agreed before, they agree after. Assumes nothing.
use mathlib.Core.Path.{◌≡◌, refl, sym, subst, ◌∙◌, ap}
use mathlib.Core.Bool.{Bool, true, false, and-false}
use mathlib.Core.List.{List, [], ◌++◌, append-nil}
use Prim.Native.Nat.{ℕ, ◌≤◌, ◌<◌}
use native.Mathlib.Omega.{arith}
use borrow.Author.Tests.{le-leb, lt-leb, ne_eqb}
use lib.Dec.{leb}
use Rattle.fields.specs.Text.{unpadded}
use Rattle.ticket.specs.declared.Fields.{Fields}
use Rattle.ticket.specs.declared.kinds.Kind.{Kind}
use Rattle.ticket.specs.declared.kinds.Kind.TheVariants as kind
use Rattle.ticket.proofs.TicketTelling.{Tells}
use Rattle.report.specs.declared.Report.{Report}
use Rattle.dayfile.specs.Roster.{participant_of}
use Rattle.dayfile.specs.declared.roster.Roster.{Roster}
use Rattle.rules.specs.Book.{order_of, is_bank}
use Rattle.rules.specs.Tick.{Step, at_time, tick}
use Rattle.rules.specs.Find.{finding}
use Rattle.rules.specs.Decision.{decision_of, applied, told_by}
use Rattle.rules.specs.Step.{untouched, ticked, accepted, handed}
use Rattle.rules.specs.declared.Order.{Order}
use Rattle.rules.specs.declared.Book.{Book}
use Rattle.rules.proofs.Refusing.{NoRefusal}
use Rattle.rules.proofs.SweepSound as sweeping
use Rattle.rules.proofs.Expiring.{due_in, expired_if, Expires, tick-expires, nothing-expires}
use Rattle.rules.proofs.Courses.{handed-goes}
use Rattle.rules.proofs.StepSound.{own-sound}
use Rattle.rules.proofs.Accepting.{fields_of}
use Rattle.audit.specs.History.{Event, History, ◌▹◌}
use Rattle.audit.specs.Orders.{sets_clock, is_for_bank, must_expire}
use Rattle.audit.proofs.Agreeing.{Agrees, waits-in-book}
use Rattle.audit.proofs.Events.{agrees_after}
use Rattle.audit.proofs.Own.{Midway, AcceptedTicket, OwnStepOf}
use Rattle.audit.proofs.Covers.{nothing-own, cover-in-own, cover-out-own, confirm-own, tick-own}
use Rattle.audit.proofs.Cuts.{cut-own}
use Rattle.audit.proofs.OrderOpening.{order-own}
use Rattle.audit.proofs.YesOrNo.{yes-own, no_own}
use Rattle.audit.proofs.Recalls.{recall-own, return-own, decline-own}
use Rattle.audit.proofs.Inquiries.{inquiry-own}

-- the own step of every kind
own-step : {ps : Roster} {h : History} {w : Book} {t : List ℕ} {time n : ℕ} {rs₀ : List Report} (k : Kind)
    → AcceptedTicket ps h w t (fields_of k time n) rs₀ → OwnStepOf ps h w t (fields_of k time n) rs₀
own-step kind.CoverIn k = cover-in-own k
own-step kind.CoverOut k = cover-out-own k
own-step kind.Order k = order-own k
own-step kind.Yes k = yes-own k
own-step kind.No k = no_own k
own-step kind.Recall k = recall-own k
own-step kind.Return k = return-own k
own-step kind.Decline k = decline-own k
own-step kind.Inquiry k = inquiry-own k
own-step kind.Cut k = cut-own k
own-step kind.Confirm k = confirm-own k
own-step kind.Tick k = tick-own k

module _ (ps : Roster) (h : History) (b : Book) (a : Agrees ps h b) (t : List ℕ) where
  -- the event that a step is
  abbrev happens : Step → Event
  happens s = record { ticket = t; refusal = s.refusal; reports = s.reports }

  -- which orders a ticket that sets the clock must let expire
  must-be-due : (f : Fields) → Tells t f → (n : ℕ) (rs : List Report) → sets_clock (record { ticket = t; refusal = n; reports = rs }) ≡ true
      → (i : ℕ) → i < b.count → must_expire ps i (record { ticket = t; refusal = n; reports = rs }) h ≡ due_in (at_time b f.time) i
  must-be-due f tells n rs sets i l =
      let o = a.order i l in
      let bank : is_for_bank ps i h ≡ is_bank b.roster (order_of b.orders i).payee =
      o.bank ∙ ap (λ (r : Roster). is_bank r (order_of b.orders i).payee) (sym a.roster) in
      rw (sets, waits-in-book ps h b a i l, bank, o.time, sym tells.time)

  -- a ticket turned back by 6 to 11 changes nothing
  turned : (n : ℕ) → 6 ≤ n → n ≤ 11 → Agrees ps (happens (untouched b n) ▹ h) b
  turned n low high =
      agrees_after ps h b b b t n [] [] (λ i. false) a (nothing-expires b) a.sound
      (nothing-own ps h b t n [] tt (ne_eqb n 0 (λ e. omega arith)))
      (λ i l. rw (le-leb 6 n low, le-leb n 11 high))

  module _ (f : Fields) (tells : Tells t f) (l : b.clock ≤ f.time) where
    abbrev w : Book
    w = (tick b f.time).book

    abbrev rs₀ : List Report
    rs₀ = (tick b f.time).reports

    swept : sweeping.Swept (at_time b f.time) (tick b f.time)
    swept = sweeping.tick-swept b a.sound f.time l

    expires : Expires (due_in (at_time b f.time)) b w rs₀
    expires = tick-expires b a.sound f.time l

    midway : Midway ps h w
    midway =
        record {
          sound = swept.sound;
          roster = expires.roster ∙ a.roster;
          count = expires.count ∙ a.count;
          bic =
              λ i m.
              let m' : i < b.count = rw (← expires.count) m in
              (a.order i m').bic ∙ ap (λ (p : ℕ). (participant_of ps p).bic)
              (sym
              (ap (λ (o : Order). o.payer) (expires.order i m') ∙ payer-same (due_in (at_time b f.time) i) (order_of b.orders i)));
          txid =
              λ i m.
              let m' : i < b.count = rw (← expires.count) m in
              (a.order i m').txid ∙ ap unpadded
              (sym (ap (λ (o : Order). o.txid) (expires.order i m') ∙ same (due_in (at_time b f.time) i) (order_of b.orders i)));
          held = λ p m. rw (expires.cover p (rw a.roster m)).held (a.cover p m).held;
          debit = λ p m. rw (expires.cover p (rw a.roster m)).debit (a.cover p m).debit;
        }
      where
        payer-same : (d : Bool) (o : Order) → (expired_if d o).payer ≡ o.payer
        payer-same true o = refl
        payer-same false o = refl

        same : (d : Bool) (o : Order) → (expired_if d o).txid ≡ o.txid
        same true o = refl
        same false o = refl

    -- a ticket refused by 12 or more leaves what a tick leaves
    refused : (n : ℕ) → 12 ≤ n → Agrees ps (happens (ticked (tick b f.time) n) ▹ h) w
    refused n low =
        subst (λ (rs : List Report). Agrees ps (record { ticket = t; refusal = n; reports = rs } ▹ h) w) (append-nil rs₀)
        (agrees_after ps h b w w t n rs₀ [] (due_in (at_time b f.time)) a expires swept.sound
        (nothing-own ps h w t n rs₀ expires.code (ne_eqb n 0 (λ e. omega arith)))
        (must-be-due f tells n (rs₀ ++ []) (rw (lt-leb n 11 low, and-false (leb 6 n)))))

    -- an accepted ticket
    pub the-ticket : NoRefusal (finding w f t) → AcceptedTicket ps h w t f rs₀
    the-ticket passed = record { midway = midway; tells = tells; clock = swept.clock; passed = passed; code = expires.code }

    taken : NoRefusal (finding w f t)
        → Agrees ps (happens (accepted (tick b f.time) (decision_of (finding w f t))) ▹ h) (applied w (decision_of (finding w f t)))
    taken passed =
        agrees_after ps h b w (applied w (decision_of (finding w f t))) t 0 rs₀ (told_by w (decision_of (finding w f t)))
        (due_in (at_time b f.time)) a expires
        (own-sound w swept.sound f.amount f.time t f.kind tells passed)
        (own-step f.kind (the-ticket passed))
        (must-be-due f tells 0 (rs₀ ++ told_by w (decision_of (finding w f t))) refl)

  pub step-agrees : (buffer : List ℕ) → Agrees ps (happens (handed b t buffer) ▹ h) (handed b t buffer).book
  step-agrees buffer =
      handed-goes b t (λ (s : Step). Agrees ps (happens s ▹ h) s.book) turned
      (λ f tells l n low. refused f tells l n low)
      (λ f tells l passed. taken f tells l passed)
      buffer
