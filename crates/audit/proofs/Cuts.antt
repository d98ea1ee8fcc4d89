-- The own step of a cut: it tells no ending, and what is held or open after it is what it told. Assumes nothing.
use Rattle.std.specs.Prelude.{None, Option, Some, ℕ}
use mathlib.Core.Path.{◌≡◌, refl, ◌∙◌, ap, ap₂}
use mathlib.Core.Bool.{Bool, true, false, cond, and-false}
use mathlib.Core.List.{List, [], ◌∷◌, ◌++◌}
use mathlib.Core.Logic.{◌⊎◌, inl, inr, ⊎_elim}
use Prim.Native.Nat.{ℕ, zero, suc, ◌+◌, ◌-◌, ◌≤◌, ◌<◌}
use native.Mathlib.Nat.{not-suc-le-zero}
use native.Mathlib.Omega.{arith}
use borrow.Author.Tests.{eq-eqb, ne_eqb}
use lib.Dec.{ltb}
use Rattle.ticket.specs.declared.kinds.Kind.TheVariants as kind
use Rattle.report.specs.Ending.{endings_in}
use Rattle.report.specs.declared.Report.{Report}
use Rattle.report.proofs.Ending.{endings-append}
use Rattle.dayfile.specs.Roster.{participant_of}
use Rattle.dayfile.specs.declared.roster.Roster.{Roster}
use Rattle.rules.specs.Book.{cover_of}
use Rattle.rules.specs.Cover.{transferred}
use Rattle.rules.specs.Tell.{tell_cut}
use Rattle.rules.specs.Find.{finding}
use Rattle.rules.specs.Cut.{with_held, with_debit, cut_cover, cut_report, cut_to, cut_reports_to}
use Rattle.rules.specs.Decision.{nobody, order_kept, applied}
use Rattle.rules.specs.declared.decision.Told.{Told}
use Rattle.rules.specs.declared.Cover.{Cover}
use Rattle.rules.specs.declared.Book.{Book}
use Rattle.fields.proofs.Compared.{same_or_not, below_or_not}
use Rattle.rules.proofs.CoverMoving.{nobody-moves}
use Rattle.rules.proofs.Cutting.{Closed, cut_right, cut-each}
use Rattle.rules.proofs.StepSound.{all_closed}
use Rattle.rules.proofs.Accepting.{fields_of}
use Rattle.audit.specs.History.{History, ◌▹◌}
use Rattle.audit.specs.Sums.{last_cut_in, last_cut}
use Rattle.audit.proofs.Events.{OwnCover}
use Rattle.audit.proofs.ReportTelling.{cuts-append, fours-no-cuts, no-cuts}
use Rattle.audit.proofs.Own.{AcceptedTicket, taken_event, OwnStepOf, kind-is, steady, orders-kept}

-- what a participant is told is no ending
one-no-ending : (i p : ℕ) (o : Option ℕ) (c : Cover) → endings_in i (cut_report p o c) ≡ []
one-no-ending i p None c = refl
one-no-ending i p (Some n) c = go (ltb n c.available) (ltb c.available n)
  where
    go : (x y : Bool) → endings_in i (cond x (tell_cut p 11 (c.available - n) ∷ []) (cond y (tell_cut p 10 (n - c.available) ∷ []) [])) ≡ []
    go true y = simp and-false
    go false true = simp and-false
    go false false = refl

no-ending : (i : ℕ) (r : Roster) (cs : List Cover) (n : ℕ) → endings_in i (cut_reports_to r cs n) ≡ []
no-ending i r cs zero = refl
no-ending i r cs (suc p) =
    endings-append i (cut_reports_to r cs p) (cut_report p (participant_of r p).opening (cover_of cs p))
    ∙ ap₂ ◌++◌ (no-ending i r cs p) (one-no-ending i p (participant_of r p).opening (cover_of cs p))

-- what another is told says nothing of p
other-told : (q p told : ℕ) (o : Option ℕ) (c : Cover) → (q ≡ p → ⊥) → last_cut_in p told (cut_report q o c) ≡ told
other-told q p told None c differs = refl
other-told q p told (Some n) c differs = go (ltb n c.available) (ltb c.available n)
  where
    go : (x y : Bool)
        → last_cut_in p told (cond x (tell_cut q 11 (c.available - n) ∷ []) (cond y (tell_cut q 10 (n - c.available) ∷ []) [])) ≡ told
    go true y = simp (ne_eqb q p differs)
    go false true = simp (ne_eqb q p differs)
    go false false = refl

module _ (r : Roster) (cs : List Cover) (p told : ℕ) where
  abbrev own : ℕ → ℕ
  own x = last_cut_in p x (cut_report p (participant_of r p).opening (cover_of cs p))

  not-yet-told : (n : ℕ) → n ≤ p → last_cut_in p told (cut_reports_to r cs n) ≡ told
  not-yet-told zero h = refl
  not-yet-told (suc q) h =
      cuts-append p told (cut_reports_to r cs q) (cut_report q (participant_of r q).opening (cover_of cs q))
      ∙ other-told q p (last_cut_in p told (cut_reports_to r cs q)) (participant_of r q).opening (cover_of cs q) (λ e. omega arith)
      ∙ not-yet-told q (omega arith)

  all_told : (n : ℕ) → p < n → last_cut_in p told (cut_reports_to r cs n) ≡ own told
  all_told zero h = absurd (not-suc-le-zero h)
  all_told (suc q) h =
      cuts-append p told (cut_reports_to r cs q) (cut_report q (participant_of r q).opening (cover_of cs q))
      ∙ ⊎_elim
      (λ (e : q ≡ p). rw e (ap own (not-yet-told p (omega arith))))
      (λ (differs : q ≡ p → ⊥).
      other-told q p (last_cut_in p told (cut_reports_to r cs q)) (participant_of r q).opening (cover_of cs q) differs
      ∙ all_told q (below differs (below_or_not p q)))
      (same_or_not q p)
    where
      below : (q ≡ p → ⊥) → (p < q) ⊎ (q ≤ p) → p < q
      below differs (inl l) = l
      below differs (inr l) = absurd (differs (omega arith))

-- what is held or open is what the reports tell p
record Marked (p told : ℕ) (c : Cover) (rs : List Report) : Type 0 where
  held : (c.held ≡ 0) ⊎ (last_cut_in p told rs ≡ 11)
  debit : (c.debit ≡ 0) ⊎ (last_cut_in p told rs ≡ 10)

marks-told : (p told : ℕ) (o : Option ℕ) (c : Cover) → Closed c → Marked p told (cut_cover o c) (cut_report p o c)
marks-told p told None c z = record { held = inl z.held; debit = inl z.debit }
marks-told p told (Some n) c z = go (ltb n c.available) (ltb c.available n)
  where
    go : (x y : Bool)
        → Marked p told (cond x (with_held (c.available - n) c) (cond y (with_debit (n - c.available) c) c))
        (cond x (tell_cut p 11 (c.available - n) ∷ []) (cond y (tell_cut p 10 (n - c.available) ∷ []) []))
    go true y = record { held = inr (simp (eq-eqb p p refl)); debit = inl z.debit }
    go false true = record { held = inl z.held; debit = inr (simp (eq-eqb p p refl)) }
    go false false = record { held = inl z.held; debit = inl z.debit }

module _ {ps : Roster} {h : History} {w : Book} {t : List ℕ} {time n : ℕ} {rs₀ : List Report}
    (k : AcceptedTicket ps h w t (fields_of kind.Cut time n) rs₀) where
  abbrev rs : List Report
  rs = cut_reports_to w.roster w.covers w.roster.size

  cut-cover : (p : ℕ) → p < w.roster.size
      → OwnCover ps h (taken_event t rs₀ rs) p (cover_of w.covers p) (cover_of (cut_to w.roster w.covers w.roster.size) p)
  cut-cover p l =
      let o = (participant_of w.roster p).opening in
      let c = cover_of w.covers p in
      let z = all_closed w k.passed.r21 p l in
      let m = marks-told p (last_cut p h) o c z in
      let told : last_cut p (taken_event t rs₀ rs ▹ h) ≡ last_cut_in p (last_cut p h) (cut_report p o c) =
      cuts-append p (last_cut p h) rs₀ rs
      ∙ ap (λ (x : ℕ). last_cut_in p x rs) (no-cuts p (last_cut p h) rs₀ (fours-no-cuts rs₀ k.code))
      ∙ all_told w.roster w.covers p (last_cut p h) w.roster.size l in
      rw (cut-each w.roster w.covers w.roster.size (rw k.midway.sound.covers.long k.midway.sound.roster.size) p l)
      (record {
        adds = rw (kind-is k) (ap (λ (x : ℕ). x + 0) (cut_right o c z).whole);
        held = λ before. rw told m.held;
        debit = λ before. rw told m.debit;
      })

  pub cut-own : OwnStepOf ps h w t (fields_of kind.Cut time n) rs₀
  cut-own =
      steady k (applied w (order_kept (finding w (fields_of kind.Cut time n) t) nobody true Told.Nobody)) rs refl refl (orders-kept k)
      (rw (kind-is k)) (λ i. no-ending i w.roster w.covers w.roster.size)
      (λ p l. rw (nobody-moves (transferred nobody w.covers), nobody-moves w.covers) (cut-cover p (rw k.midway.roster l)))
