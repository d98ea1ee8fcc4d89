-- The own steps of a yes and a no: the order stops waiting, and all are told the same. Assumes nothing.
use mathlib.Core.Path.{◌≡◌, refl, ◌∙◌}
use mathlib.Core.Bool.{Bool, true, false, cond, and-false}
use mathlib.Core.List.{List, [], ◌∷◌, ◌++◌}
use Prim.Native.Nat.{ℕ, ◌<◌}
use native.Mathlib.Omega.{arith}
use borrow.Author.Tests.{eq-eqb}
use Rattle.ticket.specs.TicketLayout.{flag_byte}
use Rattle.ticket.specs.declared.Fields.{Fields}
use Rattle.ticket.specs.declared.kinds.Kind.TheVariants as kind
use Rattle.ticket.proofs.TicketTelling.{tells-bytes}
use Rattle.report.specs.Ending.{endings_in}
use Rattle.report.specs.declared.Report.{Report}
use Rattle.dayfile.specs.declared.roster.Roster.{Roster}
use Rattle.rules.specs.Book.{cover_of}
use Rattle.rules.specs.Status.{is_waiting, with_status}
use Rattle.rules.specs.Cover.{transferred}
use Rattle.rules.specs.Tell.{listed}
use Rattle.rules.specs.Tick.{freed}
use Rattle.rules.specs.Find.{finding}
use Rattle.rules.specs.Decision.{by, nobody, to_payer, to_payee, decision_of, applied, told_by}
use Rattle.rules.specs.declared.finding.Finding.{Finding}
use Rattle.rules.specs.declared.decision.Move.TheVariants.{Give, Spend}
use Rattle.rules.specs.declared.decision.Told.TheVariants.{One, Two}
use Rattle.rules.specs.declared.Recall.TheVariants as mark
use Rattle.rules.specs.declared.Status.TheVariants as status
use Rattle.rules.specs.declared.Order.{Order}
use Rattle.rules.specs.declared.Book.{Book}
use Rattle.rules.proofs.CoverMoving.{for-none}
use Rattle.rules.proofs.SoundLimits.{waiting-reserved}
use Rattle.rules.proofs.Accepting.{fields_of}
use Rattle.rules.proofs.Accepting as accepting
use Rattle.audit.specs.History.{History}
use Rattle.audit.specs.Sums.{first_with}
use Rattle.audit.specs.Orders.{asks_about}
use Rattle.audit.specs.Claim.{AllCarry}
use Rattle.audit.proofs.Fates.{Fate}
use Rattle.audit.proofs.Events.{OwnOrder, OwnCover, OwnStep}
use Rattle.audit.proofs.ReportTelling.{NoCuts, first-after}
use Rattle.audit.proofs.Own.{AcceptedTicket, taken_event, OwnStepOf, kind-is, sent, sender-below}
use Rattle.audit.proofs.About.{AllAbout, status-same, order-held, about-own, two-covers}

module _ {ps : Roster} {h : History} {w : Book} {t : List ℕ} {time n : ℕ} {rs₀ : List Report} where
  -- yes: the payer's report, and perhaps more
  module _ (k : AcceptedTicket ps h w t (fields_of kind.Yes time n) rs₀) where
    abbrev f : Fields
    f = fields_of kind.Yes time n

    abbrev x : Finding
    x = finding w f t

    abbrev j : ℕ
    j = accepting.order_number w f t

    abbrev o : Order
    o = accepting.the_order w f t

    pub yes_flag : flag_byte t ≡ 1
    yes_flag = let b = tells-bytes t f k.tells in let l = b.low in let m = b.high in omega arith

    yes-waits : is_waiting o.status ≡ true
    yes-waits = accepting.status-meets w f t k.passed.r18

    yes-party : accepting.sender_number w f t ≡ o.payee
    yes-party = accepting.right-party w f t k.passed.r17 refl

    module _ (more : List Report) (about : AllAbout j more) (carry : AllCarry 2 o.amount more) (quiet : NoCuts more)
        (ends : endings_in j more ≡ more) where
      abbrev rs : List Report
      rs = to_payer x 2 ∷ more

      all-ends : endings_in j rs ≡ rs
      all-ends = simp (eq-eqb j j refl, ends)

      yes-order : OwnOrder (asks_about j (taken_event t rs₀ rs) h) j o (with_status o (status.Settled mark.None w.clock)) rs
      yes-order =
          record {
            fate = Fate.ended yes-waits refl (to_payer x 2) more all-ends (refl, refl, carry) (rw (kind-is k) (omega arith));
            same = status-same o (status.Settled mark.None w.clock);
            quiet = rw all-ends (and-false (is_waiting o.status));
          }

      first-told : first_with 2 (rs₀ ++ rs) ≡ to_payer x 2 ∷ []
      first-told = first-after 2 rs₀ rs k.code refl

      yes-cover : (p : ℕ) → p < ps.size
          → OwnCover ps h (taken_event t rs₀ rs) p (cover_of w.covers p)
          (cover_of (transferred (by o.payee Give o.amount) (transferred (by o.payer Spend o.amount) w.covers)) p)
      yes-cover p l =
          let s = k.midway.sound in
          let held = order-held k rs refl in
          two-covers k rs (refl, quiet) (by o.payer Spend o.amount) (by o.payee Give o.amount) (s.orders.payer j held)
          (s.orders.payee j held)
          (waiting-reserved w s j held yes-waits) tt refl refl refl refl p
          (rw (kind-is k, yes_flag, first-told) (let z = for-none o.payee p in omega arith))
          (rw (kind-is k, yes_flag, first-told, sent k refl p l, yes-party) (let z = for-none o.payer p in omega arith))

      yes-with : OwnStep ps h (taken_event t rs₀ rs) w (applied w (decision_of x)) rs
      yes-with =
          about-own k rs (with_status o (status.Settled mark.None w.clock))
          (transferred (by o.payee Give o.amount) (transferred (by o.payer Spend o.amount) w.covers))
          refl (rw (kind-is k)) (refl, about) yes-order yes-cover

    -- the first report 2 goes to the payer, whether or not the payee is told
    pub yes-told : first_with 2 (rs₀ ++ told_by w (decision_of x)) ≡ to_payer x 2 ∷ []
    yes-told = first-after 2 rs₀ (told_by w (decision_of x)) k.code refl ∙ go x.bank
      where
        go : (z : Bool) → first_with 2 (listed (cond z (Two (to_payer x 2) (to_payee x 2)) (One (to_payer x 2)))) ≡ to_payer x 2 ∷ []
        go true = refl
        go false = refl

    -- the payee is told too if it is a bank
    pub yes-own : OwnStepOf ps h w t (fields_of kind.Yes time n) rs₀
    yes-own = go x.bank
      where
        go : (z : Bool) → let rs = listed (cond z (Two (to_payer x 2) (to_payee x 2)) (One (to_payer x 2))) in
            OwnStep ps h (taken_event t rs₀ rs) w (applied w (decision_of x)) rs
        go true = yes-with (to_payee x 2 ∷ []) (refl, tt) (refl, refl, tt) (refl, tt) (simp (eq-eqb j j refl))
        go false = yes-with [] tt tt tt refl

  -- no: report 3 to payer only
  module _ (k : AcceptedTicket ps h w t (fields_of kind.No time n) rs₀) where
    pub no_flag : flag_byte t ≡ 2
    no_flag = let b = tells-bytes t (fields_of kind.No time n) k.tells in let l = b.low in let m = b.high in omega arith

    pub no_own : OwnStepOf ps h w t (fields_of kind.No time n) rs₀
    no_own =
        let f = fields_of kind.No time n in
        let j = accepting.order_number w f t in
        let o = accepting.the_order w f t in
        let r = to_payer (finding w f t) 3 in
        let waits = accepting.status-meets w f t k.passed.r18 in
        let s = k.midway.sound in
        let held = order-held k (r ∷ []) refl in
        about-own k (r ∷ []) (with_status o status.Refused) (transferred nobody (transferred (freed o) w.covers)) refl
        (rw (kind-is k)) (refl, tt)
        (record {
          fate = Fate.ended waits refl r [] (simp (eq-eqb j j refl)) (refl, refl, tt) (rw (kind-is k) (omega arith));
          same = status-same o status.Refused;
          quiet = simp (eq-eqb j j refl, and-false);
        })
        (λ p l.
        two-covers k (r ∷ []) (refl, tt) (freed o) nobody (s.orders.payer j held) (let b = sender-below k refl in omega arith)
        (waiting-reserved w s j held waits) tt refl refl refl refl p
        (rw (kind-is k, no_flag) (let z = for-none o.payer p in let v = for-none 0 p in omega arith))
        (rw (kind-is k, no_flag) (let z = for-none o.payer p in let v = for-none 0 p in omega arith)))
