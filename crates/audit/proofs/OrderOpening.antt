-- The own step of an order: one order more, which waits. Assumes nothing.
use mathlib.Core.Path.{◌≡◌, refl, sym, subst, ◌∙◌, ap}
use mathlib.Core.Bool.{Bool, ◌&&◌, and-false}
use mathlib.Core.List.{List, [], ◌∷◌}
use Prim.Native.Nat.{ℕ, ◌<◌}
use native.Mathlib.Omega.{arith}
use borrow.Author.Tests.{lt-ltb}
use lib.ListN.{set}
use lib.Seq.{get_or-set_same, get_or-set_other}
use Rattle.ticket.specs.declared.Fields.{Fields}
use Rattle.ticket.specs.declared.kinds.Kind.TheVariants as kind
use Rattle.report.specs.Ending.{endings_in}
use Rattle.report.specs.declared.Report.{Report}
use Rattle.dayfile.specs.declared.roster.Roster.{Roster}
use Rattle.rules.specs.Book.{no_order, order_of, is_bank}
use Rattle.rules.specs.Tell.{tell_order}
use Rattle.rules.specs.Find.{finding}
use Rattle.rules.specs.Decision.{by, nobody, new_order}
use Rattle.rules.specs.declared.decision.Move.TheVariants.{Reserve}
use Rattle.rules.specs.declared.Order.{Order}
use Rattle.rules.specs.declared.Book.{Book}
use Rattle.rules.proofs.CoverMoving.{for-none}
use Rattle.rules.proofs.Accepting.{fields_of}
use Rattle.rules.proofs.Accepting as accepting
use Rattle.audit.specs.History.{History}
use Rattle.audit.specs.Orders.{to_bank, asks_about}
use Rattle.audit.proofs.Events.{Opened, Growth}
use Rattle.audit.proofs.ReportTelling.{first-after}
use Rattle.audit.proofs.Own.{AcceptedTicket, taken_event, OwnStepOf, order-left, kind-is, amount-is, sent, sender-bic, sender-below}
use Rattle.audit.proofs.About.{two-covers}

module _ {ps : Roster} {h : History} {w : Book} {t : List ℕ} {time n : ℕ} {rs₀ : List Report}
    (k : AcceptedTicket ps h w t (fields_of kind.Order time n) rs₀) where
  abbrev f : Fields
  f = fields_of kind.Order time n

  abbrev o : Order
  o = new_order (finding w f t)

  abbrev rs : List Report
  rs = tell_order o.payee 1 w.count o ∷ []

  -- report 1 is no ending
  no-ending : (i : ℕ) → endings_in i rs ≡ []
  no-ending i = simp and-false

  last : order_of (set w.orders w.count o) w.count ≡ o
  last = get_or-set_same w.orders w.count o no_order
      (rw k.midway.sound.orders.long (accepting.order-room w f t k.passed.r15 refl))

  pub order-payee : o.payee < ps.size
  order-payee = subst (λ (r : Roster). o.payee < r.size) k.midway.roster
      (accepting.payee-known w f t k.midway.sound.roster k.passed.r14 refl)

  opened : Opened ps (taken_event t rs₀ rs) o
  opened =
      record {
        amount = amount-is k;
        time = sym k.tells.time ∙ sym k.clock;
        bic = sender-bic k refl;
        txid = refl;
        bank =
            ap (to_bank ps) (first-after 1 rs₀ rs k.code refl)
            ∙ ap (λ (x : Bool). x && is_bank ps o.payee) (lt-ltb o.payee ps.size order-payee);
        payer = λ p l. sent k refl p l;
        waiting = refl;
      }

  pub order-own : OwnStepOf ps h w t (fields_of kind.Order time n) rs₀
  order-own =
      let sender = sender-below k refl in
      record {
        roster = refl;
        growth = Growth.gains (rw (kind-is k)) refl (rw last opened);
        order =
            λ i l.
            order-left (asks_about i (taken_event t rs₀ rs) h) i (order_of w.orders i) (order_of (set w.orders w.count o) i) rs
            (get_or-set_other w.orders w.count i o no_order (λ e. omega arith)) (no-ending i);
        none = λ i l. no-ending i;
        cover =
            λ p l.
            two-covers k rs (refl, tt) (by o.payer Reserve n) nobody sender (omega arith)
            (accepting.cover-there w f t k.passed.r20 refl) tt refl refl refl refl p
            (rw (kind-is k) (let z = for-none o.payer p in let v = for-none 0 p in omega arith))
            (rw (kind-is k) (let z = for-none o.payer p in let v = for-none 0 p in omega arith));
      }
