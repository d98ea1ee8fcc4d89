-- The own steps of a cover in, a cover out, a confirm and a tick; and a refused ticket, which has none. Assumes nothing.
use mathlib.Core.Path.{◌≡◌, refl, sym, ◌∙◌, ap}
use mathlib.Core.Bool.{Bool, true, false, ◌&&◌, not, cond}
use mathlib.Core.List.{List, [], ◌++◌}
use mathlib.Core.Logic.{◌⊎◌, inl, inr, ⊎_elim}
use Prim.Native.Nat.{ℕ, ◌<◌}
use native.Mathlib.Omega.{arith}
use borrow.Author.Tests.{eqb-true, eqb-false, not-true, not-false, eq-eqb, ne_eqb}
use lib.Dec.{leb, eqb}
use Rattle.fields.proofs.Tests.{and_left}
use Rattle.ticket.specs.declared.kinds.Kind.TheVariants as kind
use Rattle.report.specs.declared.Report.{Report}
use Rattle.dayfile.specs.declared.roster.Roster.{Roster}
use Rattle.rules.specs.Book.{order_of, cover_of}
use Rattle.rules.specs.Cover.{transferred}
use Rattle.rules.specs.Find.{finding}
use Rattle.rules.specs.Refusal.{confirms}
use Rattle.rules.specs.Decision.{by, nobody, order_kept, applied}
use Rattle.rules.specs.declared.decision.Move.TheVariants.{Give, Draw, Credit, Debit}
use Rattle.rules.specs.declared.decision.Told.{Told}
use Rattle.rules.specs.declared.Cover.{Cover}
use Rattle.rules.specs.declared.Book.{Book}
use Rattle.fields.proofs.Compared.{same_or_not}
use Rattle.rules.proofs.CoverMoving.{only_for, for-none, nobody-moves}
use Rattle.rules.proofs.Accepting.{fields_of}
use Rattle.rules.proofs.Accepting as accepting
use Rattle.rules.proofs.Expiring.{AllCode}
use Rattle.audit.specs.History.{Event, History}
use Rattle.audit.specs.Sums.{last_cut, goes_out, comes_in}
use Rattle.audit.specs.Orders.{asks_about}
use Rattle.audit.proofs.Events.{Growth, OwnStep}
use Rattle.audit.proofs.ReportTelling.{cut-after}
use Rattle.audit.proofs.Own.{
  order-left,
  cover-goes,
  AcceptedTicket,
  taken_event,
  OwnStepOf,
  kind-is,
  amount-is,
  sent,
  sender-below,
  sender-known,
  steady,
  orders-kept,
  uncut,
  moved-own,
}

-- a refused ticket does nothing of its own
pub nothing-own : (ps : Roster) (h : History) (w : Book) (t : List ℕ) (n : ℕ) (rs₀ : List Report) → AllCode 4 rs₀ → eqb n 0 ≡ false
    → OwnStep ps h (record { ticket = t; refusal = n; reports = rs₀ ++ [] }) w w []
nothing-own ps h w t n rs₀ c₀ refused =
    record {
      roster = refl;
      growth = Growth.keeps (rw refused) refl;
      order = λ i l. order-left (asks_about i e h) i (order_of w.orders i) (order_of w.orders i) [] refl refl;
      none = λ i l. refl;
      cover = λ p l. cover-goes ps h e p (cover_of w.covers p) (cover_of w.covers p) (rw refused)
          (cut-after p (last_cut p h) rs₀ [] c₀ tt) (inr refl) (inr refl);
    }
  where
    e : Event
    e = record { ticket = t; refusal = n; reports = rs₀ ++ [] }

-- what counts for who under a condition counts for who alone
only_if : (who p n : ℕ) (test : ℕ → Bool) → cond (eqb who p && test p) n 0 ≡ only_for who p (cond (test who) n 0)
only_if who p n test =
    ⊎_elim
    (λ (i : p ≡ who). rw i (simp (eq-eqb who who refl)))
    (λ (k : p ≡ who → ⊥). simp (ne_eqb who p (λ q. k (sym q))))
    (same_or_not p who)

module _ {ps : Roster} {h : History} {w : Book} {t : List ℕ} {time n : ℕ} {rs₀ : List Report} where
  pub cover-in-own : AcceptedTicket ps h w t (fields_of kind.CoverIn time n) rs₀
      → OwnStepOf ps h w t (fields_of kind.CoverIn time n) rs₀
  cover-in-own k =
      let who = accepting.sender_number w (fields_of kind.CoverIn time n) t in
      moved-own k (by who Give n) (sender-below k refl) tt (rw (kind-is k)) (inr refl) (inr refl)
      (λ p l. rw (kind-is k) (sym (for-none who p)))
      (λ p l. rw (kind-is k, sent k refl p l, amount-is k) (omega arith))

  pub cover-out-own : AcceptedTicket ps h w t (fields_of kind.CoverOut time n) rs₀
      → OwnStepOf ps h w t (fields_of kind.CoverOut time n) rs₀
  cover-out-own k =
      let who = accepting.sender_number w (fields_of kind.CoverOut time n) t in
      moved-own k (by who Draw n) (sender-below k refl) (accepting.cover-there w (fields_of kind.CoverOut time n) t k.passed.r20 refl)
      (rw (kind-is k)) (inr refl) (inr refl)
      (λ p l. rw (kind-is k, sent k refl p l, amount-is k) (omega arith))
      (λ p l. rw (kind-is k) (sym (for-none who p)))

  -- with held, a credit; with open debit, a debit: the last cut report tells
  pub confirm-own : AcceptedTicket ps h w t (fields_of kind.Confirm time n) rs₀
      → OwnStepOf ps h w t (fields_of kind.Confirm time n) rs₀
  confirm-own k = go (eqb c.held 0) refl (not-false _ k.passed.r21)
    where
      who : ℕ
      who = accepting.sender_number w (fields_of kind.Confirm time n) t

      c : Cover
      c = cover_of w.covers who

      -- what is told of the last cut decides which of the two it is
      comes : (x : Bool) → eqb (last_cut who h) 10 ≡ x → (p : ℕ) → p < ps.size
          → comes_in ps p (taken_event t rs₀ []) h ≡ only_for who p (cond x n 0)
      comes x e p l =
          rw (kind-is k, sent k refl p l, amount-is k)
          (let o = only_if who p n (λ q. eqb (last_cut q h) 10) in
          let same : only_for who p (cond (eqb (last_cut who h) 10) n 0) ≡ only_for who p (cond x n 0) = rw e in
          omega arith)

      goes : (x : Bool) → eqb (last_cut who h) 11 ≡ x → (p : ℕ) → p < ps.size
          → goes_out ps p (taken_event t rs₀ []) h ≡ only_for who p (cond x n 0)
      goes x e p l =
          rw (kind-is k, sent k refl p l, amount-is k)
          (let o = only_if who p n (λ q. eqb (last_cut q h) 11) in
          let same : only_for who p (cond (eqb (last_cut who h) 11) n 0) ≡ only_for who p (cond x n 0) = rw e in
          omega arith)

      -- what is not nothing is what was told
      told : (held code : ℕ) → eqb held 0 ≡ false → (held ≡ 0) ⊎ (last_cut who h ≡ code) → last_cut who h ≡ code
      told held code e (inl nothing) = absurd (eqb-false held 0 e nothing)
      told held code e (inr was) = was

      go : (z : Bool) → eqb c.held 0 ≡ z → confirms c n ≡ true
          → OwnStep ps h (taken_event t rs₀ []) w
          (applied w (order_kept (finding w (fields_of kind.Confirm time n) t) (by who (cond z Debit Credit) n) false Told.Nobody)) []
      go true e right =
          let both : (not (eqb c.debit 0) && leb n c.debit) ≡ true = rw e at right in
          let was = told c.debit 10 (not-true _ (and_left (not (eqb c.debit 0)) (leb n c.debit) both))
          (k.midway.debit who (sender-known k refl)) in
          moved-own k (by who Debit n) (sender-below k refl) tt (rw (kind-is k)) (inr refl) (inl refl)
          (goes false (rw was)) (comes true (rw was))
      go false e right =
          let all : n ≡ c.held = eqb-true n c.held (rw e at right) in
          let was = told c.held 11 e (k.midway.held who (sender-known k refl)) in
          moved-own k (by who Credit n) (sender-below k refl) tt (rw (kind-is k)) (inl refl) (inr refl)
          (λ p l. goes true (rw was) p l ∙ ap (only_for who p) all) (comes false (rw was))

  pub tick-own : AcceptedTicket ps h w t (fields_of kind.Tick time n) rs₀
      → OwnStepOf ps h w t (fields_of kind.Tick time n) rs₀
  tick-own k =
      steady k (applied w (order_kept (finding w (fields_of kind.Tick time n) t) nobody false Told.Nobody)) [] refl refl (orders-kept k)
      (rw (kind-is k)) (λ i. refl)
      (λ p l.
      rw (nobody-moves (transferred nobody w.covers), nobody-moves w.covers)
      (cover-goes ps h (taken_event t rs₀ []) p (cover_of w.covers p) (cover_of w.covers p) (rw (kind-is k))
      (uncut k [] tt p) (inr refl) (inr refl)))
