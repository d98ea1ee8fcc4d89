-- How a history and a book agree: what is carried along a list of tickets, and that the claim follows from it. Assumes nothing.
use mathlib.Core.Path.{◌≡◌, refl, sym, subst, ◌∙◌, ap}
use mathlib.Core.Bool.{Bool, true, ◌&&◌, cond}
use mathlib.Core.List.{List, [], ◌∷◌}
use mathlib.Core.Logic.{◌⊎◌}
use Prim.Native.Nat.{ℕ, ◌+◌, ◌≤◌, ◌<◌}
use borrow.Author.Tests.{lt-ltb}
use lib.Dec.{eqb}
use Rattle.fields.specs.Text.{unpadded}
use Rattle.fields.specs.UpTo.{sum_to}
use Rattle.fields.proofs.UpTo.{sum_same}
use Rattle.report.specs.Ending.{endings_in}
use Rattle.report.specs.declared.Report.{Report}
use Rattle.dayfile.specs.Roster.{participant_of}
use Rattle.dayfile.specs.declared.roster.Roster.{Roster}
use Rattle.rules.specs.Book.{order_of, cover_of, is_bank}
use Rattle.rules.specs.Status.{is_waiting}
use Rattle.rules.specs.Cover.{whole}
use Rattle.rules.specs.Sound.{waiting_amount, Sound}
use Rattle.rules.specs.declared.Order.{Order}
use Rattle.rules.specs.declared.Cover.{Cover}
use Rattle.rules.specs.declared.Book.{Book}
use Rattle.audit.specs.History.{History, participants, Each}
use Rattle.audit.specs.Sums.{last_cut, outgoing, incoming}
use Rattle.audit.specs.Orders.{
  order_count,
  order_amount,
  order_time,
  order_txid,
  order_payer,
  is_paid_by,
  is_for_bank,
  end_code,
  is_none,
  waits,
  waiting_part,
  waiting_total,
  lets_expire,
  must_expire,
  ending_tickets,
  all_endings,
  tells_parties,
}
use Rattle.audit.specs.Claim.{AllCarry, code_of, Claim}

-- order i as it is seen, and as the book has it
pub record OrderAgrees (ps : Roster) (h : History) (i : ℕ) (o : Order) : Type 0 where
  pub amount : order_amount i h ≡ o.amount
  pub time : order_time i h ≡ o.time
  pub bic : order_payer i h ≡ (participant_of ps o.payer).bic
  pub txid : order_txid i h ≡ unpadded o.txid
  pub bank : is_for_bank ps i h ≡ is_bank ps o.payee
  pub payer : (p : ℕ) → p < ps.size → is_paid_by ps p i h ≡ eqb o.payer p
  pub waiting : is_none (all_endings i h) ≡ is_waiting o.status
  pub once : ending_tickets i h ≡ cond (is_waiting o.status) 0 1
  pub alike : AllCarry (end_code o.status) o.amount (all_endings i h)

-- participant p's cover
pub record CoverAgrees (ps : Roster) (h : History) (p : ℕ) (c : Cover) : Type 0 where
  pub adds : whole c + outgoing ps p h ≡ incoming ps p h
  -- what is held or open is what the last cut told
  pub held : (c.held ≡ 0) ⊎ (last_cut p h ≡ 11)
  pub debit : (c.debit ≡ 0) ⊎ (last_cut p h ≡ 10)

pub record Agrees (ps : Roster) (h : History) (b : Book) : Type 0 where
  pub sound : Sound b
  pub roster : b.roster ≡ ps
  pub count : b.count ≡ order_count h
  pub order : (i : ℕ) → i < b.count → OrderAgrees ps h i (order_of b.orders i)
  pub none : (i : ℕ) → b.count ≤ i → all_endings i h ≡ []
  pub cover : (p : ℕ) → p < ps.size → CoverAgrees ps h p (cover_of b.covers p)
  pub expiry : Each (λ e before. (i : ℕ) → lets_expire i e before ≡ must_expire ps i e before) h
  pub known : Each (λ e before. (i : ℕ) → order_count before ≤ i → endings_in i e.reports ≡ []) h

-- what carries one code carries that of the first
carry-first : (code amount : ℕ) (rs : List Report) → AllCarry code amount rs → AllCarry (code_of rs) amount rs
carry-first code amount [] c = tt
carry-first code amount (r ∷ rs) c = (refl, c.1, subst (λ (k : ℕ). AllCarry k amount rs) (sym c.0) c.2)

module _ (ps : Roster) (h : History) (b : Book) (a : Agrees ps h b) where
  -- an order waits as seen exactly if it is Waiting in the book
  pub waits-in-book : (i : ℕ) → i < b.count → waits i h ≡ is_waiting (order_of b.orders i).status
  waits-in-book i l =
      let seen : i < order_count h = rw (← a.count) l in
      ap (λ (x : Bool). x && is_none (all_endings i h)) (lt-ltb i (order_count h) seen) ∙ (a.order i l).waiting

  part-in-book : (p : ℕ) → p < ps.size → (i : ℕ) → i < b.count → waiting_amount p (order_of b.orders i) ≡ waiting_part ps p h i
  part-in-book p k i l = let o = a.order i l in sym (simp (waits-in-book i l, o.payer p k, o.amount))

  reserved-seen : (p : ℕ) → p < ps.size → (cover_of b.covers p).reserved ≡ waiting_total ps p h
  reserved-seen p k =
      a.sound.covers.reserved p (rw a.roster k)
      ∙ sum_same (λ i. waiting_amount p (order_of b.orders i)) (waiting_part ps p h) b.count (part-in-book p k)
      ∙ ap (λ (n : ℕ). sum_to (waiting_part ps p h) n) a.count

pub claim-follows : (h : History) (b : Book) → Agrees (participants h) h b
    → Each (λ e before. tells_parties (participants h) e ≡ true) h → Claim h b
claim-follows h b a told =
    record {
      told = told;
      cover = λ p k. (a.cover p k).adds;
      reserved = reserved-seen (participants h) h b a;
      held = a.count;
      waiting = λ i l. sym (waits-in-book (participants h) h b a i (held i l));
      expiry = a.expiry;
      known = a.known;
      once = λ i l. (a.order i (held i l)).once ∙ ap (λ (x : Bool). cond x 0 1) (sym (waits-in-book (participants h) h b a i (held i l)));
      alike =
          λ i l.
          let o = a.order i (held i l) in
          carry-first (end_code (order_of b.orders i).status) (order_amount i h) (all_endings i h) (rw o.amount o.alike);
    }
  where
    held : (i : ℕ) → i < order_count h → i < b.count
    held i l = rw a.count l
