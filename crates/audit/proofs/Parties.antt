-- An accepted order, yes and return tells a participant: the reports that sums and orders go by are there. Assumes nothing.
use mathlib.Core.Path.{◌≡◌, refl}
use mathlib.Core.Bool.{true}
use mathlib.Core.List.{List, [], ◌∷◌}
use Prim.Native.Nat.{ℕ}
use native.Mathlib.Omega.{arith}
use borrow.Author.Tests.{lt-ltb, ne_eqb}
use Rattle.ticket.specs.declared.kinds.Kind.{Kind}
use Rattle.ticket.specs.declared.kinds.Kind.TheVariants as kind
use Rattle.report.specs.declared.Report.{Report}
use Rattle.dayfile.specs.declared.roster.Roster.{Roster}
use Rattle.rules.specs.Tick.{Step}
use Rattle.rules.specs.Tell.{tell_order}
use Rattle.rules.specs.Find.{finding}
use Rattle.rules.specs.Decision.{new_order, decision_of, told_by}
use Rattle.rules.specs.Step.{handed}
use Rattle.rules.specs.declared.Book.{Book}
use Rattle.rules.proofs.Accepting.{fields_of}
use Rattle.rules.proofs.Accepting as accepting
use Rattle.rules.proofs.Courses.{handed-goes}
use Rattle.audit.specs.History.{History}
use Rattle.audit.specs.Orders.{tells_parties}
use Rattle.audit.proofs.Agreeing.{Agrees}
use Rattle.audit.proofs.ReportTelling.{first-after}
use Rattle.audit.proofs.Own.{AcceptedTicket, taken_event, kind-is}
use Rattle.audit.proofs.OrderOpening.{order-payee}
use Rattle.audit.proofs.YesOrNo.{yes_flag, yes-told, no_flag}
use Rattle.audit.proofs.Balance.{payer-known}
use Rattle.audit.proofs.OneStep.{the-ticket}

module _ {ps : Roster} {h : History} {w : Book} {t : List ℕ} {time n : ℕ} {rs₀ : List Report} where
  own-parties : (j : Kind) → AcceptedTicket ps h w t (fields_of j time n) rs₀
      → tells_parties ps (taken_event t rs₀ (told_by w (decision_of (finding w (fields_of j time n) t)))) ≡ true
  own-parties kind.CoverIn k = rw (kind-is k)
  own-parties kind.CoverOut k = rw (kind-is k)
  own-parties kind.Order k =
      let o = new_order (finding w (fields_of kind.Order time n) t) in
      rw (
        kind-is k,
        first-after 1 rs₀ (tell_order o.payee 1 w.count o ∷ []) k.code refl,
        lt-ltb o.payee ps.size (order-payee k),
      )
  own-parties kind.Yes k =
      let o = accepting.the_order w (fields_of kind.Yes time n) t in
      rw (kind-is k, yes_flag k, yes-told k, lt-ltb o.payer ps.size (payer-known k refl))
  own-parties kind.No k = rw (kind-is k, no_flag k)
  own-parties kind.Recall k = rw (kind-is k)
  own-parties kind.Return k =
      let o = accepting.the_order w (fields_of kind.Return time n) t in
      let rs = told_by w (decision_of (finding w (fields_of kind.Return time n) t)) in
      rw (kind-is k, first-after 6 rs₀ rs k.code refl, lt-ltb o.payer ps.size (payer-known k refl))
  own-parties kind.Decline k = rw (kind-is k)
  own-parties kind.Inquiry k = rw (kind-is k)
  own-parties kind.Cut k = rw (kind-is k)
  own-parties kind.Confirm k = rw (kind-is k)
  own-parties kind.Tick k = rw (kind-is k)

pub step-parties : (ps : Roster) (h : History) (b : Book) → Agrees ps h b → (t buffer : List ℕ)
    → tells_parties ps (record { ticket = t; refusal = (handed b t buffer).refusal; reports = (handed b t buffer).reports }) ≡ true
step-parties ps h b a t buffer =
    handed-goes b t (λ (s : Step). tells_parties ps (record { ticket = t; refusal = s.refusal; reports = s.reports }) ≡ true)
    (λ n low high. rw (ne_eqb n 0 (λ e. omega arith)))
    (λ f tells l n low. rw (ne_eqb n 0 (λ e. omega arith)))
    (λ f tells l passed. own-parties f.kind (the-ticket ps h b a t f tells l passed))
    buffer
