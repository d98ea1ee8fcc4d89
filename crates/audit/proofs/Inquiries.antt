-- The own step of an inquiry: it repeats how the order ended, if it did, and changes nothing. Assumes nothing.
use mathlib.Core.Path.{◌≡◌, refl, sym, ◌∙◌, ap, ap₂}
use mathlib.Core.Bool.{Bool, true, false, ◌&&◌, cond, and-false}
use mathlib.Core.List.{List, [], ◌∷◌}
use Prim.Native.Nat.{ℕ, ◌<◌}
use native.Mathlib.Omega.{arith}
use borrow.Author.Tests.{eq-eqb, lt-ltb}
use lib.Dec.{ltb}
use Rattle.fields.specs.Text.{same, unpadded}
use Rattle.fields.proofs.Same.{same_refl, same_true}
use Rattle.fields.proofs.Tests.{and_left, and_right}
use Rattle.ticket.specs.TicketLayout.{payer_of, txid_field}
use Rattle.ticket.specs.declared.Fields.{Fields}
use Rattle.ticket.specs.declared.kinds.Kind.TheVariants as kind
use Rattle.report.specs.Ending.{endings_in}
use Rattle.report.specs.declared.Report.{Report}
use Rattle.dayfile.specs.Roster.{participant_of}
use Rattle.dayfile.specs.declared.roster.Roster.{Roster}
use Rattle.rules.specs.Status.{is_waiting}
use Rattle.rules.specs.Cover.{transferred}
use Rattle.rules.specs.Tell.{listed}
use Rattle.rules.specs.Find.{finding}
use Rattle.rules.specs.Decision.{nobody, to_payer, to_payee, return_report, settled_answer, inquiry_answer, order_kept, applied}
use Rattle.rules.specs.declared.finding.Finding.{Finding}
use Rattle.rules.specs.declared.decision.Told.{Told}
use Rattle.rules.specs.declared.Recall.{Recall}
use Rattle.rules.specs.declared.Recall.TheVariants as mark
use Rattle.rules.specs.declared.Status.{Status}
use Rattle.rules.specs.declared.Status.TheVariants as status
use Rattle.rules.specs.declared.Order.{Order}
use Rattle.rules.specs.declared.Book.{Book}
use Rattle.rules.proofs.CoverMoving.{for-none}
use Rattle.rules.proofs.Accepting.{fields_of}
use Rattle.rules.proofs.Accepting as accepting
use Rattle.audit.specs.History.{History, is_kind}
use Rattle.audit.specs.Orders.{order_count, order_txid, order_payer, asks_about, end_code}
use Rattle.audit.proofs.Fates.{Fate, SameOrder}
use Rattle.audit.proofs.Events.{OwnOrder, OwnStep}
use Rattle.audit.proofs.ReportTelling.{NoCuts}
use Rattle.audit.proofs.Own.{AcceptedTicket, taken_event, OwnStepOf, kind-is, sender-below}
use Rattle.audit.proofs.About.{AllAbout, about-own, two-covers}

module _ {ps : Roster} {h : History} {w : Book} {t : List ℕ} {time n : ℕ} {rs₀ : List Report}
    (k : AcceptedTicket ps h w t (fields_of kind.Inquiry time n) rs₀) where
  abbrev f : Fields
  f = fields_of kind.Inquiry time n

  abbrev x : Finding
  x = finding w f t

  abbrev j : ℕ
  j = accepting.order_number w f t

  abbrev o : Order
  o = accepting.the_order w f t

  -- it asks about the order that was found
  asks : (rs : List Report) → asks_about j (taken_event t rs₀ rs) h ≡ true
  asks rs =
      let found = accepting.order-found w f t k.passed.r16 refl in
      let held : j < order_count h = rw (← k.midway.count) found.below in
      let of-payer = same (participant_of w.roster o.payer).bic (payer_of t) in
      let of-txid = same o.txid (txid_field t) in
      let payer : order_payer j h ≡ payer_of t = k.midway.bic j found.below
      ∙ ap (λ (r : Roster). (participant_of r o.payer).bic) (sym k.midway.roster)
      ∙ same_true _ (payer_of t) (and_left of-payer of-txid found.passes) in
      let txid : order_txid j h ≡ unpadded (txid_field t) = k.midway.txid j found.below
      ∙ ap unpadded (same_true o.txid (txid_field t) (and_right of-payer of-txid found.passes)) in
      let inquires : (is_kind 8 (taken_event t rs₀ rs) && ltb j (order_count h)) ≡ true = rw (kind-is k, lt-ltb j (order_count h) held) in
      ap₂ ◌&&◌ (ap₂ ◌&&◌ inquires (ap (λ (s : List ℕ). same s (payer_of t)) payer ∙ same_refl (payer_of t)))
      (ap (λ (s : List ℕ). same s (unpadded (txid_field t))) txid ∙ same_refl (unpadded (txid_field t)))

  -- an order that is as it was
  abbrev alike : SameOrder o o
  alike = record { amount = refl; time = refl; txid = refl; payer = refl; payee = refl }

  answered : (rs : List Report) → AllAbout j rs → NoCuts rs → OwnOrder (asks_about j (taken_event t rs₀ rs) h) j o o rs
      → OwnStep ps h (taken_event t rs₀ rs) w (applied w (order_kept x nobody false Told.Nobody)) rs
  answered rs about quiet this =
      let someone : 0 < w.roster.size = let b = sender-below k refl in omega arith in
      about-own k rs o (transferred nobody (transferred nobody w.covers)) refl (rw (kind-is k)) about this
      (λ p l. two-covers k rs quiet nobody nobody someone someone tt tt refl refl refl refl p
      (rw (kind-is k) (let z = for-none 0 p in omega arith)) (rw (kind-is k) (let z = for-none 0 p in omega arith)))

  -- nothing is repeated
  quiet-order : (rs : List Report) → endings_in j rs ≡ [] → OwnOrder (asks_about j (taken_event t rs₀ rs) h) j o o rs
  quiet-order rs none = record { fate = Fate.kept none refl refl; same = alike; quiet = rw none (and-false (is_waiting o.status)) }

  -- the end is repeated
  repeat-order : (r : Report) (rs : List Report) → is_waiting o.status ≡ false → endings_in j (r ∷ rs) ≡ r ∷ []
      → r.code ≡ end_code o.status → r.amount ≡ o.amount
      → OwnOrder (asks_about j (taken_event t rs₀ (r ∷ rs)) h) j o o (r ∷ rs)
  repeat-order r rs w' is code amount =
      record { fate = Fate.repeated (asks (r ∷ rs)) w' w' refl r is (code, amount, tt); same = alike; quiet = rw w' }

  settled : (m : Recall) (at : ℕ) → o.status ≡ status.Settled m at → let rs = listed (settled_answer x m) in
      OwnStep ps h (taken_event t rs₀ rs) w (applied w (order_kept x nobody false Told.Nobody)) rs
  settled m at e =
      go m (ap is_waiting e) (sym (ap end_code e))
    where
      go : (m : Recall) → is_waiting o.status ≡ false → ◌≡◌ {A = ℕ} 2 (end_code o.status)
          → let rs = listed (settled_answer x m) in
          OwnStep ps h (taken_event t rs₀ rs) w (applied w (order_kept x nobody false Told.Nobody)) rs
      go mark.None w' c = answered _ (refl, tt) (refl, tt) (repeat-order (to_payer x 2) [] w' (simp (eq-eqb j j refl)) c refl)
      go mark.Asked w' c = answered _ (refl, (refl, tt)) (refl, (refl, tt))
          (repeat-order (to_payer x 2) (to_payee x 8 ∷ []) w' (simp (eq-eqb j j refl)) c refl)
      go mark.Declined w' c = answered _ (refl, (refl, tt)) (refl, (refl, tt))
          (repeat-order (to_payer x 2) (to_payer x 7 ∷ []) w' (simp (eq-eqb j j refl)) c refl)

  by-status : (s : Status) → o.status ≡ s → let rs = listed (inquiry_answer x s) in
      OwnStep ps h (taken_event t rs₀ rs) w (applied w (order_kept x nobody false Told.Nobody)) rs
  by-status status.Waiting e = go x.bank
    where
      go : (z : Bool) → let rs = cond z (to_payer x 9) (to_payee x 8) ∷ [] in
          OwnStep ps h (taken_event t rs₀ rs) w (applied w (order_kept x nobody false Told.Nobody)) rs
      go true = answered _ (refl, tt) (refl, tt) (quiet-order (to_payer x 9 ∷ []) (simp and-false))
      go false = answered _ (refl, tt) (refl, tt) (quiet-order (to_payee x 8 ∷ []) (simp and-false))
  by-status status.Refused e =
      answered _ (refl, tt) (refl, tt) (repeat-order (to_payer x 3) [] (ap is_waiting e) (simp (eq-eqb j j refl)) (sym (ap end_code e)) refl)
  by-status status.Expired e =
      answered _ (refl, tt) (refl, tt) (repeat-order (to_payer x 4) [] (ap is_waiting e) (simp (eq-eqb j j refl)) (sym (ap end_code e)) refl)
  by-status (status.Returned at m) e = answered _ (refl, tt) (refl, tt) (quiet-order (return_report x m ∷ []) (simp and-false))
  by-status (status.Settled m at) e = settled m at e

  pub inquiry-own : OwnStepOf ps h w t (fields_of kind.Inquiry time n) rs₀
  inquiry-own = by-status o.status refl
