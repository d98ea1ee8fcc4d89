-- What the own step of an accepted ticket starts from, and what steps share that leave every order as it is. Assumes nothing.
use mathlib.Core.Path.{◌≡◌, refl, sym, subst, ◌∙◌, ap}
use mathlib.Core.Bool.{Bool, true, false, and-false}
use mathlib.Core.List.{List, [], ◌++◌}
use mathlib.Core.Logic.{◌⊎◌, inl, inr, ⊎_elim}
use Prim.Native.Nat.{ℕ, ◌+◌, ◌<◌}
use native.Mathlib.Omega.{arith}
use lib.Dec.{eqb}
use lib.ListN.{set}
use lib.Seq.{set-get_or}
use Rattle.fields.specs.Text.{same, unpadded}
use Rattle.ticket.specs.TicketLayout.{kind_byte, amount_of, sender_of}
use Rattle.ticket.specs.Kind.{kind_number}
use Rattle.ticket.specs.declared.Fields.{Fields}
use Rattle.ticket.proofs.TicketTelling.{Tells, tells-bytes}
use Rattle.report.specs.Ending.{endings_in}
use Rattle.report.specs.declared.Report.{Report}
use Rattle.dayfile.specs.Roster.{participant_of}
use Rattle.dayfile.specs.declared.roster.Roster.{Roster}
use Rattle.rules.specs.Book.{no_order, order_of, cover_of}
use Rattle.rules.specs.Status.{is_waiting}
use Rattle.rules.specs.Cover.{Enough, moved, transferred, whole}
use Rattle.rules.specs.Find.{finding}
use Rattle.rules.specs.Terms.{terms_of, names_sender}
use Rattle.rules.specs.Decision.{order_kept, decision_of, applied, told_by}
use Rattle.rules.specs.Sound.{Sound}
use Rattle.rules.specs.declared.decision.Transfer.{Transfer}
use Rattle.rules.specs.declared.decision.Told.{Told}
use Rattle.rules.specs.declared.Order.{Order}
use Rattle.rules.specs.declared.Cover.{Cover}
use Rattle.rules.specs.declared.Book.{Book}
use Rattle.rules.proofs.CoverMoving.{
  gain,
  loss,
  only_for,
  Fitted,
  fitted,
  set_here,
  set_there,
  nobody-moves,
  transfer-whole,
  transfer-leaves,
}
use Rattle.fields.proofs.Compared.{same_or_not}
use Rattle.rules.proofs.Refusing.{NoRefusal}
use Rattle.rules.proofs.Accepting as accepting
use Rattle.fields.proofs.Same.{same_true}
use Rattle.rules.proofs.Senders.{who-sends}
use Rattle.rules.proofs.Expiring.{AllCode}
use Rattle.audit.specs.History.{Event, History, ◌▹◌}
use Rattle.audit.specs.Sums.{last_cut, goes_out, comes_in}
use Rattle.audit.specs.Orders.{is_order, order_count, order_txid, order_payer, asks_about, end_code}
use Rattle.audit.proofs.Fates.{Fate}
use Rattle.audit.proofs.Events.{OwnOrder, OwnCover, Growth, OwnStep}
use Rattle.audit.proofs.ReportTelling.{NoCuts, cut-after}

-- what is known of the book after the expiries
pub record Midway (ps : Roster) (h : History) (w : Book) : Type 0 where
  pub sound : Sound w
  pub roster : w.roster ≡ ps
  pub count : w.count ≡ order_count h
  pub bic : (i : ℕ) → i < w.count → order_payer i h ≡ (participant_of ps (order_of w.orders i).payer).bic
  pub txid : (i : ℕ) → i < w.count → order_txid i h ≡ unpadded (order_of w.orders i).txid
  pub held : (p : ℕ) → p < ps.size → ((cover_of w.covers p).held ≡ 0) ⊎ (last_cut p h ≡ 11)
  pub debit : (p : ℕ) → p < ps.size → ((cover_of w.covers p).debit ≡ 0) ⊎ (last_cut p h ≡ 10)

-- an order that is as it was, and that nothing is told of
pub order-left : (asks : Bool) (i : ℕ) (o o' : Order) (rs : List Report) → o' ≡ o → endings_in i rs ≡ [] → OwnOrder asks i o o' rs
order-left asks i o o' rs same quiet =
    record {
      fate = Fate.kept quiet (ap (λ (x : Order). is_waiting x.status) same) (ap (λ (x : Order). end_code x.status) same);
      same =
          record {
            amount = ap (λ (x : Order). x.amount) same;
            time = ap (λ (x : Order). x.time) same;
            txid = ap (λ (x : Order). x.txid) same;
            payer = ap (λ (x : Order). x.payer) same;
            payee = ap (λ (x : Order). x.payee) same;
          };
      quiet = rw quiet (and-false (is_waiting o.status));
    }

-- held and open debit are as they were, or nothing; no cut is told
pub cover-goes : (ps : Roster) (h : History) (e : Event) (p : ℕ) (c c' : Cover)
    → whole c' + goes_out ps p e h ≡ whole c + comes_in ps p e h → last_cut p (e ▹ h) ≡ last_cut p h
    → (c'.held ≡ 0) ⊎ (c'.held ≡ c.held) → (c'.debit ≡ 0) ⊎ (c'.debit ≡ c.debit) → OwnCover ps h e p c c'
cover-goes ps h e p c c' adds told held debit =
    record { adds = adds; held = mark 11 c.held c'.held held; debit = mark 10 c.debit c'.debit debit }
  where
    mark : (code n n' : ℕ) → (n' ≡ 0) ⊎ (n' ≡ n) → (n ≡ 0) ⊎ (last_cut p h ≡ code) → (n' ≡ 0) ⊎ (last_cut p (e ▹ h) ≡ code)
    mark code n n' (inl nothing) before = inl nothing
    mark code n n' (inr same) (inl nothing) = inl (same ∙ nothing)
    mark code n n' (inr same) (inr was) = inr (told ∙ was)

-- a ticket with fields f that no refusal applies to, after the expiries with reports rs₀
pub record AcceptedTicket (ps : Roster) (h : History) (w : Book) (t : List ℕ) (f : Fields) (rs₀ : List Report) : Type 0 where
  pub midway : Midway ps h w
  pub tells : Tells t f
  pub clock : w.clock ≡ f.time
  pub passed : NoRefusal (finding w f t)
  pub code : AllCode 4 rs₀

-- its event, with its own reports
abbrev pub taken_event : List ℕ → List Report → List Report → Event
taken_event t rs₀ rs = record { ticket = t; refusal = 0; reports = rs₀ ++ rs }

-- its own step
abbrev pub OwnStepOf : Roster → History → Book → List ℕ → Fields → List Report → Type 0
OwnStepOf ps h w t f rs₀ =
    let d = decision_of (finding w f t) in
    OwnStep ps h (taken_event t rs₀ (told_by w d)) w (applied w d) (told_by w d)

module _ {ps : Roster} {h : History} {w : Book} {t : List ℕ} {f : Fields} {rs₀ : List Report} (k : AcceptedTicket ps h w t f rs₀) where
  pub kind-is : kind_byte t ≡ kind_number f.kind
  kind-is = (tells-bytes t f k.tells).number

  pub amount-is : amount_of t ≡ f.amount
  amount-is = sym k.tells.amount

  -- its sender
  pub sent : names_sender (terms_of f.kind).subject ≡ true → (p : ℕ) → p < ps.size
      → same (participant_of ps p).bic (sender_of t) ≡ eqb (accepting.sender_number w f t) p
  sent named p l =
      ap (λ (r : Roster). same (participant_of r p).bic (sender_of t)) (sym k.midway.roster)
      ∙ who-sends w.roster k.midway.sound.roster (sender_of t) (accepting.sender_number w f t)
      (accepting.sender-found w f t k.passed.r12 named) p
      (rw k.midway.roster l)

  pub sender-bic : names_sender (terms_of f.kind).subject ≡ true → sender_of t ≡ (participant_of ps (accepting.sender_number w f t)).bic
  sender-bic named =
      sym (same_true _ _ (accepting.sender-found w f t k.passed.r12 named).passes)
      ∙ ap (λ (r : Roster). (participant_of r (accepting.sender_number w f t)).bic) k.midway.roster

  pub sender-below : names_sender (terms_of f.kind).subject ≡ true → accepting.sender_number w f t < w.roster.size
  sender-below named = (accepting.sender-found w f t k.passed.r12 named).below

  pub sender-known : names_sender (terms_of f.kind).subject ≡ true → accepting.sender_number w f t < ps.size
  sender-known named = subst (λ (r : Roster). accepting.sender_number w f t < r.size) k.midway.roster (sender-below named)

  -- a step that leaves every order as it is, and tells no ending
  pub steady : (b' : Book) (rs : List Report) → b'.roster ≡ w.roster → b'.count ≡ w.count
      → ((i : ℕ) → order_of b'.orders i ≡ order_of w.orders i)
      → is_order (taken_event t rs₀ rs) ≡ false → ((i : ℕ) → endings_in i rs ≡ [])
      → ((p : ℕ) → p < ps.size → OwnCover ps h (taken_event t rs₀ rs) p (cover_of w.covers p) (cover_of b'.covers p))
      → OwnStep ps h (taken_event t rs₀ rs) w b' rs
  steady b' rs roster count orders isnt quiet covers =
      record {
        roster = roster;
        growth = Growth.keeps isnt count;
        order = λ i l. order-left (asks_about i (taken_event t rs₀ rs) h) i (order_of w.orders i)
            (order_of b'.orders i) rs (orders i) (quiet i);
        none = λ i l. quiet i;
        cover = covers;
      }

  -- a decision that keeps the order leaves all as they are
  pub orders-kept : (i : ℕ) → order_of (set w.orders (accepting.order_number w f t) (order_of w.orders (accepting.order_number w f t))) i
      ≡ order_of w.orders i
  orders-kept i = ap (λ (os : List Order). order_of os i) (set-get_or w.orders (accepting.order_number w f t) no_order)

  -- no cut is told
  pub uncut : (rs : List Report) → NoCuts rs → (p : ℕ) → last_cut p (taken_event t rs₀ rs ▹ h) ≡ last_cut p h
  uncut rs n p = cut-after p (last_cut p h) rs₀ rs k.code n

  -- one cover moves, and nothing is told
  pub moved-own : (v : Transfer) → v.who < w.roster.size → Enough v.how v.amount (cover_of w.covers v.who)
      → is_order (taken_event t rs₀ []) ≡ false
      → ((moved v.how v.amount (cover_of w.covers v.who)).held ≡ 0)
      ⊎ ((moved v.how v.amount (cover_of w.covers v.who)).held ≡ (cover_of w.covers v.who).held)
      → ((moved v.how v.amount (cover_of w.covers v.who)).debit ≡ 0)
      ⊎ ((moved v.how v.amount (cover_of w.covers v.who)).debit ≡ (cover_of w.covers v.who).debit)
      → ((p : ℕ) → p < ps.size
      → goes_out ps p (taken_event t rs₀ []) h ≡ only_for v.who p (loss v.how v.amount (cover_of w.covers v.who)))
      → ((p : ℕ) → p < ps.size → comes_in ps p (taken_event t rs₀ []) h ≡ only_for v.who p (gain v.how v.amount))
      → OwnStep ps h (taken_event t rs₀ []) w (applied w (order_kept (finding w f t) v false Told.Nobody)) []
  moved-own v who enough isnt held debit out in' =
      steady (applied w (order_kept (finding w f t) v false Told.Nobody)) [] refl refl orders-kept isnt (λ i. refl)
      (λ p l.
      rw (nobody-moves (transferred v w.covers))
      (cover-goes ps h (taken_event t rs₀ []) p (cover_of w.covers p) (cover_of (transferred v w.covers) p)
      (let e = transfer-whole fit v who enough p in let o = out p l in let i = in' p l in omega arith)
      (uncut [] tt p)
      (mark (λ (c : Cover). c.held) held p)
      (mark (λ (c : Cover). c.debit) debit p)))
    where
      fit : Fitted w.roster.size w.covers
      fit = fitted k.midway.sound.roster.size k.midway.sound.covers

      -- what is nothing or as it was of the one that moves is so of all
      mark : (g : Cover → ℕ)
          → (g (moved v.how v.amount (cover_of w.covers v.who)) ≡ 0)
          ⊎ (g (moved v.how v.amount (cover_of w.covers v.who)) ≡ g (cover_of w.covers v.who))
          → (p : ℕ) → (g (cover_of (transferred v w.covers) p) ≡ 0)
          ⊎ (g (cover_of (transferred v w.covers) p) ≡ g (cover_of w.covers p))
      mark g (inr same) p = inr (transfer-leaves fit v who g same p)
      mark g (inl nothing) p =
          ⊎_elim
          (λ (i : p ≡ v.who). inl (rw i (ap g (set_here fit v.who who _) ∙ nothing)))
          (λ (n : p ≡ v.who → ⊥). inr (ap g (set_there fit v.who who _ p n)))
          (same_or_not p v.who)
