-- The own steps of a recall, a return and a decline: how the order ended stays as it was told. Assumes nothing.
use mathlib.Core.Path.{◌≡◌, refl, sym, ◌∙◌}
use mathlib.Core.Bool.{Bool, true, false, and-false}
use mathlib.Core.List.{List, [], ◌∷◌, ◌++◌}
use Prim.Native.Nat.{ℕ, ◌≤◌, ◌<◌}
use native.Mathlib.Omega.{arith}
use lib.Dec.{eqb}
use Rattle.ticket.specs.declared.Fields.{Fields}
use Rattle.ticket.specs.declared.kinds.Kind.TheVariants as kind
use Rattle.report.specs.Ending.{is_ending}
use Rattle.report.specs.declared.Report.{Report}
use Rattle.dayfile.specs.declared.roster.Roster.{Roster}
use Rattle.rules.specs.Book.{cover_of}
use Rattle.rules.specs.Status.{is_waiting, is_unmarked, is_asked, settled_at, with_status}
use Rattle.rules.specs.Cover.{transferred}
use Rattle.rules.specs.Find.{finding}
use Rattle.rules.specs.Terms.{terms_of, names_sender, names_order}
use Rattle.rules.specs.Decision.{by, nobody, to_payer, to_payee, order_becomes, applied}
use Rattle.rules.specs.declared.decision.Move.TheVariants.{Give, Draw}
use Rattle.rules.specs.declared.decision.Told.TheVariants.{One}
use Rattle.rules.specs.declared.Recall.TheVariants as mark
use Rattle.rules.specs.declared.Status.{Status}
use Rattle.rules.specs.declared.Status.TheVariants as status
use Rattle.rules.specs.declared.Order.{Order}
use Rattle.rules.specs.declared.Book.{Book}
use Rattle.rules.proofs.CoverMoving.{for-none}
use Rattle.rules.proofs.Accepting.{fields_of}
use Rattle.rules.proofs.Accepting as accepting
use Rattle.rules.proofs.StepSound.{unmarked-not-waiting, asked-not-waiting}
use Rattle.audit.specs.History.{History}
use Rattle.audit.specs.Sums.{first_with, goes_out, comes_in}
use Rattle.audit.specs.Orders.{is_order, asks_about, end_code}
use Rattle.audit.proofs.Fates.{Fate}
use Rattle.audit.proofs.Events.{OwnOrder, OwnStep}
use Rattle.audit.proofs.ReportTelling.{is_cut, first-after}
use Rattle.audit.proofs.Own.{AcceptedTicket, taken_event, OwnStepOf, kind-is, amount-is, sent, sender-below}
use Rattle.audit.proofs.About.{status-same, order-held, about-own, two-covers}

-- a settled order was told 2
unmarked-code : (s : Status) → is_unmarked s ≡ true → end_code s ≡ 2
unmarked-code status.Waiting e = let z : ◌≡◌ {A = ℕ} 0 1 = cc in absurd (omega arith)
unmarked-code status.Refused e = let z : ◌≡◌ {A = ℕ} 0 1 = cc in absurd (omega arith)
unmarked-code status.Expired e = let z : ◌≡◌ {A = ℕ} 0 1 = cc in absurd (omega arith)
unmarked-code (status.Returned at n) e = refl
unmarked-code (status.Settled m at) e = refl

asked-code : (s : Status) → is_asked s ≡ true → end_code s ≡ 2
asked-code status.Waiting e = let z : ◌≡◌ {A = ℕ} 0 1 = cc in absurd (omega arith)
asked-code status.Refused e = let z : ◌≡◌ {A = ℕ} 0 1 = cc in absurd (omega arith)
asked-code status.Expired e = let z : ◌≡◌ {A = ℕ} 0 1 = cc in absurd (omega arith)
asked-code (status.Returned at n) e = refl
asked-code (status.Settled m at) e = refl

-- one report that is no ending, and a status with the same end
marked-order : (asks : Bool) (i : ℕ) (o : Order) (s : Status) (r : Report) → is_ending i r ≡ false → is_waiting s ≡ false
    → is_waiting o.status ≡ false
    → end_code s ≡ end_code o.status → OwnOrder asks i o (with_status o s) (r ∷ [])
marked-order asks i o s r isnt w' w c =
    record { fate = Fate.kept (rw isnt) (w' ∙ sym w) c; same = status-same o s; quiet = rw (isnt, w) }

module _ {ps : Roster} {h : History} {w : Book} {t : List ℕ} {f : Fields} {rs₀ : List Report} (k : AcceptedTicket ps h w t f rs₀)
    (named : names_order (terms_of f.kind).subject ≡ true) (sends : names_sender (terms_of f.kind).subject ≡ true) where
  -- the order's mark changes, one report that is no ending is told, and no cover moves
  mark-own : (s : Status) (r : Report) → r.order ≡ accepting.order_number w f t
      → is_ending (accepting.order_number w f t) r ≡ false → is_cut r ≡ false
      → is_waiting s ≡ false → is_waiting (accepting.the_order w f t).status ≡ false → end_code s ≡ end_code (accepting.the_order w f t).status
      → is_order (taken_event t rs₀ (r ∷ [])) ≡ false
      → ((p : ℕ) → goes_out ps p (taken_event t rs₀ (r ∷ [])) h ≡ 0) → ((p : ℕ) → comes_in ps p (taken_event t rs₀ (r ∷ [])) h ≡ 0)
      → OwnStep ps h (taken_event t rs₀ (r ∷ [])) w (applied w (order_becomes (finding w f t) s nobody nobody (One r))) (r ∷ [])
  mark-own s r about isnt quiet w' ended same no-order out in' =
      let o = accepting.the_order w f t in
      let j = accepting.order_number w f t in
      let someone : 0 < w.roster.size = let b = sender-below k sends in omega arith in
      about-own k (r ∷ []) (with_status o s) (transferred nobody (transferred nobody w.covers)) named no-order (about, tt)
      (marked-order (asks_about j (taken_event t rs₀ (r ∷ [])) h) j o s r isnt w' ended same)
      (λ p l.
      two-covers k (r ∷ []) (quiet, tt) nobody nobody someone someone tt tt refl refl refl refl p
      (let z = for-none 0 p in let a = out p in omega arith) (let z = for-none 0 p in let a = in' p in omega arith))

module _ {ps : Roster} {h : History} {w : Book} {t : List ℕ} {time n : ℕ} {rs₀ : List Report} where
  pub recall-own : AcceptedTicket ps h w t (fields_of kind.Recall time n) rs₀
      → OwnStepOf ps h w t (fields_of kind.Recall time n) rs₀
  recall-own k =
      let f : Fields = fields_of kind.Recall time n in
      let j = accepting.order_number w f t in
      let o = accepting.the_order w f t in
      let right = accepting.status-meets w f t k.passed.r18 in
      mark-own k refl refl (status.Settled mark.Asked (settled_at o.status)) (to_payee (finding w f t) 5) refl (and-false (eqb j j))
      refl refl
      (unmarked-not-waiting o.status right) (sym (unmarked-code o.status right)) (rw (kind-is k))
      (λ p. rw (kind-is k)) (λ p. rw (kind-is k))

  pub decline-own : AcceptedTicket ps h w t (fields_of kind.Decline time n) rs₀
      → OwnStepOf ps h w t (fields_of kind.Decline time n) rs₀
  decline-own k =
      let f : Fields = fields_of kind.Decline time n in
      let j = accepting.order_number w f t in
      let o = accepting.the_order w f t in
      let right = accepting.status-meets w f t k.passed.r18 in
      mark-own k refl refl (status.Settled mark.Declined (settled_at o.status)) (to_payer (finding w f t) 7) refl (and-false (eqb j j))
      refl refl
      (asked-not-waiting o.status right) (sym (asked-code o.status right)) (rw (kind-is k))
      (λ p. rw (kind-is k)) (λ p. rw (kind-is k))

  -- the payee's available falls, the payer's rises, as told by report 6
  pub return-own : AcceptedTicket ps h w t (fields_of kind.Return time n) rs₀
      → OwnStepOf ps h w t (fields_of kind.Return time n) rs₀
  return-own k =
      let right = accepting.status-meets w f t k.passed.r18 in
      let party : accepting.sender_number w f t ≡ o.payee = accepting.right-party w f t k.passed.r17 refl in
      let enough : n ≤ (cover_of w.covers o.payee).available = rw (← party) (accepting.cover-there w f t k.passed.r20 refl) in
      let s = k.midway.sound in
      let held = order-held k (r ∷ []) refl in
      let first : first_with 6 (rs₀ ++ (r ∷ [])) ≡ r ∷ [] = first-after 6 rs₀ (r ∷ []) k.code refl in
      about-own k (r ∷ []) (with_status o (status.Returned (settled_at o.status) n))
      (transferred (by o.payer Give n) (transferred (by o.payee Draw n) w.covers)) refl (rw (kind-is k)) (refl, tt)
      (marked-order _ j o (status.Returned (settled_at o.status) n) r (and-false (eqb j j)) refl (asked-not-waiting o.status right)
      (sym (asked-code o.status right)))
      (λ p l.
      two-covers k (r ∷ []) (refl, tt) (by o.payee Draw n) (by o.payer Give n) (s.orders.payee j held) (s.orders.payer j held)
      enough tt refl refl refl refl p
      (rw (kind-is k, sent k refl p l, party, amount-is k) (let z = for-none o.payer p in omega arith))
      (rw (kind-is k, first, amount-is k) (let z = for-none o.payee p in omega arith)))
    where
      f : Fields
      f = fields_of kind.Return time n

      j : ℕ
      j = accepting.order_number w f t

      o : Order
      o = accepting.the_order w f t

      r : Report
      r = record { to = o.payer; code = 6; order = j; amount = n }
