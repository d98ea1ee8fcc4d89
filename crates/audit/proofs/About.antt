-- The own step of a ticket about an order that is held: that order has another status, the others are as they were. Assumes nothing.
use mathlib.Core.Path.{◌≡◌, refl, sym, ◌∙◌}
use mathlib.Core.Bool.{true, false}
use mathlib.Core.List.{List, [], ◌∷◌}
use mathlib.Core.Logic.{inr, ⊎_elim}
use Prim.Native.Nat.{ℕ, ◌+◌, ◌<◌}
use native.Mathlib.Omega.{arith}
use lib.ListN.{set}
use lib.Seq.{get_or-set_same, get_or-set_other}
use Rattle.ticket.specs.declared.Fields.{Fields}
use Rattle.report.specs.Ending.{endings_in}
use Rattle.report.specs.declared.Report.{Report}
use Rattle.report.proofs.Ending.{ending-other-order, endings-without}
use Rattle.dayfile.specs.declared.roster.Roster.{Roster}
use Rattle.rules.specs.Book.{no_order, order_of, cover_of}
use Rattle.rules.specs.Status.{with_status}
use Rattle.rules.specs.Cover.{Enough, moved, transferred}
use Rattle.rules.specs.Terms.{terms_of, names_order}
use Rattle.rules.specs.declared.decision.Transfer.{Transfer}
use Rattle.rules.specs.declared.Status.{Status}
use Rattle.rules.specs.declared.Order.{Order}
use Rattle.rules.specs.declared.Cover.{Cover}
use Rattle.rules.specs.declared.Book.{Book}
use Rattle.fields.proofs.Compared.{same_or_not}
use Rattle.rules.proofs.CoverMoving.{gain, loss, only_for, Fitted, fitted, transfer-fitted, transfer-whole, transfer-leaves}
use Rattle.rules.proofs.Accepting as accepting
use Rattle.audit.specs.History.{History}
use Rattle.audit.specs.Sums.{goes_out, comes_in}
use Rattle.audit.specs.Orders.{is_order, asks_about}
use Rattle.audit.proofs.Fates.{SameOrder}
use Rattle.audit.proofs.Events.{OwnOrder, OwnCover, Growth, OwnStep}
use Rattle.audit.proofs.ReportTelling.{NoCuts}
use Rattle.audit.proofs.Own.{AcceptedTicket, taken_event, order-left, cover-goes, uncut}

-- all reports are about order j
abbrev pub AllAbout : ℕ → List Report → Type 0
AllAbout j [] = Unit {0}
AllAbout j (r ∷ rs) = (r.order ≡ j) × AllAbout j rs

others-quiet : (i j : ℕ) (rs : List Report) → AllAbout j rs → (i ≡ j → ⊥) → endings_in i rs ≡ []
others-quiet i j [] a differs = refl
others-quiet i j (r ∷ rs) a differs =
    endings-without i r rs (ending-other-order i r (λ e. differs (sym e ∙ a.0))) ∙ others-quiet i j rs a.1 differs

-- another status changes nothing else of an order
pub status-same : (o : Order) (s : Status) → SameOrder o (with_status o s)
status-same o s = record { amount = refl; time = refl; txid = refl; payer = refl; payee = refl }

module _ {ps : Roster} {h : History} {w : Book} {t : List ℕ} {f : Fields} {rs₀ : List Report}
    (k : AcceptedTicket ps h w t f rs₀) (rs : List Report) where
  pub order-held : names_order (terms_of f.kind).subject ≡ true → accepting.order_number w f t < w.count
  order-held named = (accepting.order-found w f t k.passed.r16 named).below

  pub about-own : (o' : Order) (cs : List Cover) → names_order (terms_of f.kind).subject ≡ true → is_order (taken_event t rs₀ rs) ≡ false
      → AllAbout (accepting.order_number w f t) rs
      → OwnOrder (asks_about (accepting.order_number w f t) (taken_event t rs₀ rs) h) (accepting.order_number w f t)
      (accepting.the_order w f t) o' rs
      → ((p : ℕ) → p < ps.size → OwnCover ps h (taken_event t rs₀ rs) p (cover_of w.covers p) (cover_of cs p))
      → OwnStep ps h (taken_event t rs₀ rs) w
      (record {
        clock = w.clock;
        covers = cs;
        orders = set w.orders (accepting.order_number w f t) o';
        count = w.count;
        roster = w.roster;
      }) rs
  about-own o' cs named isnt about this covers =
      record {
        roster = refl;
        growth = Growth.keeps isnt refl;
        order =
            λ i l.
            ⊎_elim
            (λ (e : i ≡ j). rw (e, here) this)
            (λ (differs : i ≡ j → ⊥).
            order-left (asks_about i (taken_event t rs₀ rs) h) i (order_of w.orders i) (order_of (set w.orders j o') i) rs
            (get_or-set_other w.orders j i o' no_order differs) (others-quiet i j rs about differs))
            (same_or_not i j);
        none = λ i l. others-quiet i j rs about (λ e. let b = order-held named in omega arith);
        cover = covers;
      }
    where
      j : ℕ
      j = accepting.order_number w f t

      here : order_of (set w.orders j o') j ≡ o'
      here =
          get_or-set_same w.orders j o' no_order
          (rw k.midway.sound.orders.long (let b = order-held named in let c = k.midway.sound.orders.count in omega arith))

  -- two covers move, one after the other; who is nobody stays
  pub two-covers : NoCuts rs → (v u : Transfer) → v.who < w.roster.size → u.who < w.roster.size
      → Enough v.how v.amount (cover_of w.covers v.who)
      → Enough u.how u.amount (cover_of (transferred v w.covers) u.who)
      → (moved v.how v.amount (cover_of w.covers v.who)).held ≡ (cover_of w.covers v.who).held
      → (moved v.how v.amount (cover_of w.covers v.who)).debit ≡ (cover_of w.covers v.who).debit
      → (moved u.how u.amount (cover_of (transferred v w.covers) u.who)).held ≡ (cover_of (transferred v w.covers) u.who).held
      → (moved u.how u.amount (cover_of (transferred v w.covers) u.who)).debit
      ≡ (cover_of (transferred v w.covers) u.who).debit
      → (p : ℕ)
      → goes_out ps p (taken_event t rs₀ rs) h ≡ only_for v.who p (loss v.how v.amount (cover_of w.covers v.who))
      + only_for u.who p (loss u.how u.amount (cover_of (transferred v w.covers) u.who))
      → comes_in ps p (taken_event t rs₀ rs) h ≡ only_for v.who p (gain v.how v.amount)
      + only_for u.who p (gain u.how u.amount)
      → OwnCover ps h (taken_event t rs₀ rs) p (cover_of w.covers p) (cover_of (transferred u (transferred v w.covers)) p)
  two-covers quiet v u hv hu ev eu heldv debitv heldu debitu p out in' =
      cover-goes ps h (taken_event t rs₀ rs) p (cover_of w.covers p) (cover_of (transferred u (transferred v w.covers)) p)
      (let a = transfer-whole fit v hv ev p in let b = transfer-whole (transfer-fitted fit v) u hu eu p in omega arith)
      (uncut k rs quiet p)
      (inr (transfer-leaves (transfer-fitted fit v) u hu (λ (c : Cover). c.held) heldu p
      ∙ transfer-leaves fit v hv (λ (c : Cover). c.held) heldv p))
      (inr (transfer-leaves (transfer-fitted fit v) u hu (λ (c : Cover). c.debit) debitu p
      ∙ transfer-leaves fit v hv (λ (c : Cover). c.debit) debitv p))
    where
      fit : Fitted w.roster.size w.covers
      fit = fitted k.midway.sound.roster.size k.midway.sound.covers
