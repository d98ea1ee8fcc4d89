-- Cover that settles or is returned stays with the participants: what an event takes from one it brings to another. Assumes nothing.
use mathlib.Core.Path.{◌≡◌, refl, sym, subst, ◌∙◌}
use mathlib.Core.Bool.{true, false}
use mathlib.Core.List.{List, [], ◌++◌}
use Prim.Native.Nat.{ℕ, ◌<◌}
use native.Mathlib.Omega.{arith}
use Rattle.fields.specs.UpTo.{sum_to}
use Rattle.fields.proofs.UpTo.{sum_same, sum-zero, sum-change}
use Rattle.ticket.specs.declared.Fields.{Fields}
use Rattle.ticket.specs.declared.kinds.Kind.{Kind}
use Rattle.ticket.specs.declared.kinds.Kind.TheVariants as kind
use Rattle.report.specs.declared.Report.{Report}
use Rattle.dayfile.specs.declared.roster.Roster.{Roster}
use Rattle.rules.specs.Find.{finding}
use Rattle.rules.specs.Terms.{terms_of, names_order}
use Rattle.rules.specs.Decision.{decision_of, told_by}
use Rattle.rules.specs.declared.finding.Finding.{Finding}
use Rattle.rules.specs.declared.Order.{Order}
use Rattle.rules.specs.declared.Book.{Book}
use Rattle.rules.proofs.CoverMoving.{only_for, for-who, for-others}
use Rattle.rules.proofs.Accepting.{fields_of}
use Rattle.rules.proofs.Accepting as accepting
use Rattle.audit.specs.History.{Event, History, is_kind, is_yes}
use Rattle.audit.specs.Sums.{first_with, settled_to, settled_from, return_by, return_to}
use Rattle.audit.proofs.ReportTelling.{first-after}
use Rattle.audit.proofs.Own.{AcceptedTicket, taken_event, kind-is, amount-is, sent, sender-known}
use Rattle.audit.proofs.About.{order-held}
use Rattle.audit.proofs.YesOrNo.{yes_flag, yes-told, no_flag}

pub record Balanced (ps : Roster) (e : Event) : Type 0 where
  pub settled : sum_to (λ p. settled_from p e) ps.size ≡ sum_to (λ p. settled_to ps p e) ps.size
  pub returned : sum_to (λ p. return_by ps p e) ps.size ≡ sum_to (λ p. return_to p e) ps.size

-- what counts for one of them alone is the sum
only_sum : (who n size : ℕ) → who < size → sum_to (λ p. only_for who p n) size ≡ n
only_sum who n size l =
    let e = sum-change (λ p. 0) (λ p. only_for who p n) size who l (λ p b k. sym (for-others who p n k)) in
    let z = sum-zero (λ p. 0) size (λ p b. refl) in
    let w = for-who who who n refl in
    omega arith

-- an event that is no yes and no return
pub unmoved : (ps : Roster) (e : Event) → is_yes e ≡ false → is_kind 6 e ≡ false → Balanced ps e
unmoved ps e no-yes no_return =
    record {
      settled =
          sum-zero (λ p. settled_from p e) ps.size (λ p l. rw no-yes)
          ∙ sym (sum-zero (λ p. settled_to ps p e) ps.size (λ p l. rw no-yes));
      returned =
          sum-zero (λ p. return_by ps p e) ps.size (λ p l. rw no_return)
          ∙ sym (sum-zero (λ p. return_to p e) ps.size (λ p l. rw no_return));
    }

module _ {ps : Roster} {h : History} {w : Book} {t : List ℕ} {f : Fields} {rs₀ : List Report} (k : AcceptedTicket ps h w t f rs₀)
    (named : names_order (terms_of f.kind).subject ≡ true) where
  -- the parties of the order that a ticket is about
  pub payer-known : (accepting.the_order w f t).payer < ps.size
  payer-known =
      subst (λ (r : Roster). (accepting.the_order w f t).payer < r.size) k.midway.roster
      (k.midway.sound.orders.payer (accepting.order_number w f t) (order-held k [] named))

  payee-known : (accepting.the_order w f t).payee < ps.size
  payee-known =
      subst (λ (r : Roster). (accepting.the_order w f t).payee < r.size) k.midway.roster
      (k.midway.sound.orders.payee (accepting.order_number w f t) (order-held k [] named))

module _ {ps : Roster} {h : History} {w : Book} {t : List ℕ} {time n : ℕ} {rs₀ : List Report} where
  -- a yes: from the payer to the payee
  yes-balanced : AcceptedTicket ps h w t (fields_of kind.Yes time n) rs₀
      → Balanced ps (taken_event t rs₀ (told_by w (decision_of (finding w (fields_of kind.Yes time n) t))))
  yes-balanced k =
      let party : accepting.sender_number w f t ≡ o.payee = accepting.right-party w f t k.passed.r17 refl in
      record {
        settled =
            sum_same (λ p. settled_from p (taken_event t rs₀ rs)) (λ p. only_for o.payer p o.amount) ps.size
            (λ p l. rw (kind-is k, yes_flag k, yes-told k))
            ∙ only_sum o.payer o.amount ps.size (payer-known k refl)
            ∙ sym
            (sum_same (λ p. settled_to ps p (taken_event t rs₀ rs)) (λ p. only_for o.payee p o.amount) ps.size
            (λ p l. rw (kind-is k, yes_flag k, yes-told k, sent k refl p l, party))
            ∙ only_sum o.payee o.amount ps.size (payee-known k refl));
        returned =
            sum-zero (λ p. return_by ps p (taken_event t rs₀ rs)) ps.size (λ p l. rw (kind-is k))
            ∙ sym (sum-zero (λ p. return_to p (taken_event t rs₀ rs)) ps.size (λ p l. rw (kind-is k)));
      }
    where
      f : Fields
      f = fields_of kind.Yes time n

      x : Finding
      x = finding w f t

      o : Order
      o = accepting.the_order w f t

      rs : List Report
      rs = told_by w (decision_of x)

  -- a return: from the payee to the payer
  return-balanced : AcceptedTicket ps h w t (fields_of kind.Return time n) rs₀
      → Balanced ps (taken_event t rs₀ (told_by w (decision_of (finding w (fields_of kind.Return time n) t))))
  return-balanced k =
      let first : first_with 6 (rs₀ ++ rs) ≡ rs = first-after 6 rs₀ rs k.code refl in
      record {
        settled =
            sum-zero (λ p. settled_from p (taken_event t rs₀ rs)) ps.size (λ p l. rw (kind-is k))
            ∙ sym (sum-zero (λ p. settled_to ps p (taken_event t rs₀ rs)) ps.size (λ p l. rw (kind-is k)));
        returned =
            sum_same (λ p. return_by ps p (taken_event t rs₀ rs)) (λ p. only_for (accepting.sender_number w f t) p n) ps.size
            (λ p l. rw (kind-is k, sent k refl p l, amount-is k))
            ∙ only_sum (accepting.sender_number w f t) n ps.size (sender-known k refl)
            ∙ sym
            (sum_same (λ p. return_to p (taken_event t rs₀ rs)) (λ p. only_for o.payer p n) ps.size
            (λ p l. rw (kind-is k, first, amount-is k))
            ∙ only_sum o.payer n ps.size (payer-known k refl));
      }
    where
      f : Fields
      f = fields_of kind.Return time n

      o : Order
      o = accepting.the_order w f t

      rs : List Report
      rs = told_by w (decision_of (finding w f t))

  no-balanced : AcceptedTicket ps h w t (fields_of kind.No time n) rs₀
      → Balanced ps (taken_event t rs₀ (told_by w (decision_of (finding w (fields_of kind.No time n) t))))
  no-balanced k =
      unmoved ps (taken_event t rs₀ (told_by w (decision_of (finding w (fields_of kind.No time n) t))))
      (rw (kind-is k, no_flag k)) (rw (kind-is k))

  pub own-balanced : (j : Kind) → AcceptedTicket ps h w t (fields_of j time n) rs₀
      → Balanced ps (taken_event t rs₀ (told_by w (decision_of (finding w (fields_of j time n) t))))
  own-balanced kind.CoverIn k = unmoved ps _ (rw (kind-is k)) (rw (kind-is k))
  own-balanced kind.CoverOut k = unmoved ps _ (rw (kind-is k)) (rw (kind-is k))
  own-balanced kind.Order k = unmoved ps _ (rw (kind-is k)) (rw (kind-is k))
  own-balanced kind.Yes k = yes-balanced k
  own-balanced kind.No k = no-balanced k
  own-balanced kind.Recall k = unmoved ps _ (rw (kind-is k)) (rw (kind-is k))
  own-balanced kind.Return k = return-balanced k
  own-balanced kind.Decline k = unmoved ps _ (rw (kind-is k)) (rw (kind-is k))
  own-balanced kind.Inquiry k = unmoved ps _ (rw (kind-is k)) (rw (kind-is k))
  own-balanced kind.Cut k = unmoved ps _ (rw (kind-is k)) (rw (kind-is k))
  own-balanced kind.Confirm k = unmoved ps _ (rw (kind-is k)) (rw (kind-is k))
  own-balanced kind.Tick k = unmoved ps _ (rw (kind-is k)) (rw (kind-is k))
