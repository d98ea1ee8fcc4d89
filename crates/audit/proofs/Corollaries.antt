-- What a member or an auditor would quote from demand 3, of every sound book and list of inputs. Assumes nothing.
--     adds-up               a participant's cover adds up from what was seen
--     cover-from-outside    all participants together: cover only comes in by cover-ins and confirmed debits, and only goes out by
--                           cover-outs and confirmed credits
--     ended-once            no more than one ticket ends an order's wait
--     ended-as-told         an order that waits no longer has the status that all were told
--     goes_on               from the book that any inputs left the claim holds again
--     beginnings            what is seen of a list is what is seen of its beginning, and then of the rest from the book that this left
use mathlib.Core.Path.{◌≡◌, refl, subst, ap, ◌∙◌}
use mathlib.Core.Bool.{Bool, true, false, cond}
use mathlib.Core.List.{List, [], ◌∷◌, ◌++◌}
use Prim.Native.Nat.{ℕ, ◌+◌, ◌≤◌, ◌<◌}
use native.Mathlib.Omega.{arith}
use Rattle.fields.specs.UpTo.{sum_to}
use Rattle.fields.proofs.UpTo.{sum_same, sum-add}
use Rattle.report.specs.declared.Report.{Report}
use Rattle.dayfile.specs.declared.roster.Roster.{Roster}
use Rattle.rules.specs.Book.{order_of, cover_of}
use Rattle.rules.specs.Status.{is_waiting}
use Rattle.rules.specs.Cover.{whole}
use Rattle.rules.specs.Inputs.{Input, Seen, seen_from, book_from}
use Rattle.rules.specs.Sound.{Sound}
use Rattle.rules.specs.declared.Book.{Book}
use Rattle.rules.proofs.Inputs.{seen-append, inputs-sound}
use Rattle.audit.specs.History.{History, from, ◌▹◌, participants, Each, sum_over}
use Rattle.audit.specs.Sums.{cover_in, cover_out, debit, credit, settled_to, settled_from, return_by, return_to, outgoing, incoming}
use Rattle.audit.specs.Orders.{order_count, is_none, waits, ending_tickets, all_endings, end_code}
use Rattle.audit.specs.Claim.{AllCarry, code_of}
use Rattle.audit.specs.Run.{event_of, events_on, history_of}
use Rattle.audit.specs.Demand3.{Holds}
use Rattle.audit.proofs.Balance.{Balanced}
use Rattle.audit.proofs.AlongInputs.{Carried, carried-start, carried-inputs}
use Rattle.audit.proofs.Theorem.{holds}

-- what was there at the start
abbrev pub start_cover : ℕ → History → ℕ
start_cover p (from b) = whole (cover_of b.covers p)
start_cover p (e ▹ before) = start_cover p before

-- events more leave the start as it is
pub start-on : (p : ℕ) (h : History) (ss : List Seen) → start_cover p (events_on h ss) ≡ start_cover p h
start-on p h [] = refl
start-on p h (s ∷ ss) = start-on p (event_of s ▹ h) ss

participants-on : (h : History) (ss : List Seen) → participants (events_on h ss) ≡ participants h
participants-on h [] = refl
participants-on h (s ∷ ss) = participants-on (event_of s ▹ h) ss

-- what comes from outside and goes outside, and what stays among the participants
abbrev pub from_outside : Roster → ℕ → History → ℕ
from_outside ps p h = sum_over (λ b. 0) (λ e before. cover_in ps p e + debit ps p e before) h

abbrev pub to_outside : Roster → ℕ → History → ℕ
to_outside ps p h = sum_over (λ b. 0) (λ e before. cover_out ps p e + credit ps p e before) h

abbrev among_out : Roster → ℕ → History → ℕ
among_out ps p h = sum_over (λ b. 0) (λ e before. settled_from p e + return_by ps p e) h

abbrev among_in : Roster → ℕ → History → ℕ
among_in ps p h = sum_over (λ b. 0) (λ e before. settled_to ps p e + return_to p e) h

out-parts : (ps : Roster) (p : ℕ) (h : History) → outgoing ps p h ≡ to_outside ps p h + among_out ps p h
out-parts ps p (from b) = refl
out-parts ps p (e ▹ h) = let i = out-parts ps p h in omega arith

in_parts : (ps : Roster) (p : ℕ) (h : History) → incoming ps p h ≡ (start_cover p h + from_outside ps p h) + among_in ps p h
in_parts ps p (from b) = omega arith
in_parts ps p (e ▹ h) = let i = in_parts ps p h in omega arith

-- what stays among the participants falls away
among : (ps : Roster) (h : History) → Each (λ e before. Balanced ps e) h
    → sum_to (λ p. among_out ps p h) ps.size ≡ sum_to (λ p. among_in ps p h) ps.size
among ps (from b) c = refl
among ps (e ▹ h) c =
    let n = ps.size in
    let o₁ = sum-add (λ p. settled_from p e + return_by ps p e) (λ p. among_out ps p h) n in
    let o₂ = sum-add (λ p. settled_from p e) (λ p. return_by ps p e) n in
    let i₁ = sum-add (λ p. settled_to ps p e + return_to p e) (λ p. among_in ps p h) n in
    let i₂ = sum-add (λ p. settled_to ps p e) (λ p. return_to p e) n in
    let rest = among ps h c.1 in
    let s = c.0.settled in
    let r = c.0.returned in
    omega arith

module _ (b : Book) (s : Sound b) (inputs : List Input) where
  abbrev h : History
  h = history_of b inputs

  abbrev end : Book
  end = book_from b inputs

  abbrev ps : Roster
  ps = b.roster

  carried : Carried h end
  carried = carried-inputs (carried-start b s) inputs

  same-participants : participants h ≡ ps
  same-participants = participants-on (from b) (seen_from b inputs)

  pub adds-up : (p : ℕ) → p < ps.size → whole (cover_of end.covers p) + outgoing ps p h ≡ incoming ps p h
  adds-up =
      subst (λ (r : Roster). (p : ℕ) → p < r.size → whole (cover_of end.covers p) + outgoing r p h ≡ incoming r p h) same-participants
      (holds b s inputs).cover

  pub cover-from-outside : sum_to (λ p. whole (cover_of end.covers p)) ps.size + sum_to (λ p. to_outside ps p h) ps.size
      ≡ sum_to (λ p. whole (cover_of b.covers p)) ps.size + sum_to (λ p. from_outside ps p h) ps.size
  cover-from-outside =
      let n = ps.size in
      let each = sum_same (λ p. whole (cover_of end.covers p) + outgoing ps p h) (λ p. incoming ps p h) n adds-up in
      let left = sum-add (λ p. whole (cover_of end.covers p)) (λ p. outgoing ps p h) n in
      let out = sum_same (λ p. outgoing ps p h) (λ p. to_outside ps p h + among_out ps p h) n (λ p l. out-parts ps p h) in
      let out₂ = sum-add (λ p. to_outside ps p h) (λ p. among_out ps p h) n in
      let in₁ = sum_same (λ p. incoming ps p h) (λ p. (start_cover p h + from_outside ps p h) + among_in ps p h) n (λ p l. in_parts ps p h) in
      let in₂ = sum-add (λ p. start_cover p h + from_outside ps p h) (λ p. among_in ps p h) n in
      let in₃ = sum-add (λ p. start_cover p h) (λ p. from_outside ps p h) n in
      let first = sum_same (λ p. start_cover p h) (λ p. whole (cover_of b.covers p)) n (λ p l. start-on p (from b) (seen_from b inputs)) in
      let stays = among ps h (subst (λ (r : Roster). Each (λ e before. Balanced r e) h) same-participants carried.balanced) in
      omega arith

  pub ended-once : (i : ℕ) → i < order_count h → ending_tickets i h ≤ 1
  ended-once i l = go (waits i h) ((holds b s inputs).once i l)
    where
      go : (x : Bool) → ending_tickets i h ≡ cond x 0 1 → ending_tickets i h ≤ 1
      go true e = omega arith
      go false e = omega arith

  pub ended-as-told : (i : ℕ) → i < order_count h → is_waiting (order_of end.orders i).status ≡ false
      → code_of (all_endings i h) ≡ end_code (order_of end.orders i).status
  ended-as-told i l ended =
      let a = carried.agrees in
      let o = a.order i (rw a.count l) in
      first (end_code (order_of end.orders i).status) (order_of end.orders i).amount (all_endings i h) (o.waiting ∙ ended) o.alike
    where
      first : (code amount : ℕ) (rs : List Report) → is_none rs ≡ false → AllCarry code amount rs → code_of rs ≡ code
      first code amount [] e c = let z : ◌≡◌ {A = ℕ} 0 1 = cc in absurd (omega arith)
      first code amount (r ∷ rs) e c = c.0

pub goes_on : (b : Book) → Sound b → (inputs : List Input) → Holds (book_from b inputs)
goes_on b s inputs = holds (book_from b inputs) (inputs-sound b s inputs)

on-append : (h : History) (ss ts : List Seen) → events_on h (ss ++ ts) ≡ events_on (events_on h ss) ts
on-append h [] ts = refl
on-append h (s ∷ ss) ts = on-append (event_of s ▹ h) ss ts

pub beginnings : (b : Book) (earlier later : List Input)
    → history_of b (earlier ++ later) ≡ events_on (history_of b earlier) (seen_from (book_from b earlier) later)
beginnings b earlier later =
    ap (events_on (from b)) (seen-append b earlier later) ∙ on-append (from b) (seen_from b earlier) (seen_from (book_from b earlier) later)
