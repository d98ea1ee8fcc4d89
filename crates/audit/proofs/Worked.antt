-- The claim at work: a member's position at the end of the busy day, explained line by line from what was seen. Assumes nothing.
--     Line                  a ticket that moved a participant's cover: its number, what went out and what came in
--     statement_of           the participant's lines, oldest first
--     statement-adds        they are all that went out and all that came in
--     position-explained    so what is there now is what was there at the start and what the lines leave
use mathlib.Core.Path.{◌≡◌, refl, ap}
use mathlib.Core.Bool.{Bool, true, false, ◌&&◌, cond}
use mathlib.Core.List.{List, [], ◌∷◌, ◌++◌}
use Prim.Native.Nat.{ℕ, suc, ◌+◌, ◌<◌}
use native.Mathlib.Omega.{arith}
use borrow.Author.Tests.{eqb-true}
use lib.Dec.{eqb, lit<}
use Rattle.fields.proofs.Tests.{and_left, and_right}
use Rattle.codes.specs.Bic.{is_bic}
use Rattle.iban.specs.Iban.{is_iban}
use Rattle.codes.specs.Txid.{is_txid}
use Rattle.ticket.specs.TicketReading.{reading}
use Rattle.dayfile.specs.DayFile.{day_file}
use Rattle.dayfile.specs.Route.{followed}
use Rattle.dayfile.specs.declared.roster.Roster.{Roster}
use Rattle.rules.specs.Book.{cover_of}
use Rattle.rules.specs.Cover.{whole, total}
use Rattle.rules.specs.Tick.{tick}
use Rattle.rules.specs.Find.{sender_in, order_in, route_in, way_in, any_open}
use Rattle.rules.specs.Step.{step_of, handed}
use Rattle.rules.specs.Inputs.{Input, seen_from, book_from}
use Rattle.rules.specs.Sound.{Sound}
use Rattle.rules.specs.declared.Book.{Book}
use Rattle.rules.proofs.StepSound.{file-sound}
use Rattle.audit.specs.History.{History, from, ◌▹◌}
use Rattle.audit.specs.Sums.{goes_out, comes_in, outgoing, incoming}
use Rattle.audit.specs.Run.{history_of}
use Rattle.audit.proofs.HistoryRows.{inputs, seen_on, book_on}
use Rattle.audit.proofs.Days.{busy_file, busy_day}
use Rattle.audit.proofs.Corollaries.{start_cover, start-on, adds-up}

pub record Line : Type 0 where
  pub ticket : ℕ
  pub goes : ℕ
  pub comes : ℕ

-- a line, unless nothing moved
abbrev line_of : ℕ → ℕ → ℕ → List Line
line_of k out in' = cond (eqb out 0 && eqb in' 0) [] (record { ticket = k; goes = out; comes = in' } ∷ [])

-- how many tickets there were
abbrev ticket_count : History → ℕ
ticket_count (from b) = 0
ticket_count (e ▹ before) = suc (ticket_count before)

abbrev pub statement_of : Roster → ℕ → History → List Line
statement_of ps p (from b) = []
statement_of ps p (e ▹ before) = statement_of ps p before ++ line_of (ticket_count before) (goes_out ps p e before) (comes_in ps p e before)

abbrev pub all_goes : List Line → ℕ
all_goes [] = 0
all_goes (l ∷ ls) = l.goes + all_goes ls

abbrev pub all_comes : List Line → ℕ
all_comes [] = 0
all_comes (l ∷ ls) = l.comes + all_comes ls

goes-append : (ls ms : List Line) → all_goes (ls ++ ms) ≡ all_goes ls + all_goes ms
goes-append [] ms = omega arith
goes-append (l ∷ ls) ms = let e = goes-append ls ms in omega arith

comes-append : (ls ms : List Line) → all_comes (ls ++ ms) ≡ all_comes ls + all_comes ms
comes-append [] ms = omega arith
comes-append (l ∷ ls) ms = let e = comes-append ls ms in omega arith

line-goes : (k out in' : ℕ) → all_goes (line_of k out in') ≡ out
line-goes k out in' = go (eqb out 0 && eqb in' 0) refl
  where
    go : (x : Bool) → (eqb out 0 && eqb in' 0) ≡ x → all_goes (cond x [] (record { ticket = k; goes = out; comes = in' } ∷ [])) ≡ out
    go true e = let z = eqb-true out 0 (and_left (eqb out 0) (eqb in' 0) e) in omega arith
    go false e = omega arith

line-comes : (k out in' : ℕ) → all_comes (line_of k out in') ≡ in'
line-comes k out in' = go (eqb out 0 && eqb in' 0) refl
  where
    go : (x : Bool) → (eqb out 0 && eqb in' 0) ≡ x → all_comes (cond x [] (record { ticket = k; goes = out; comes = in' } ∷ [])) ≡ in'
    go true e = let z = eqb-true in' 0 (and_right (eqb out 0) (eqb in' 0) e) in omega arith
    go false e = omega arith

-- all that went out, and with what was there at the start all that came in
pub statement-adds : (ps : Roster) (p : ℕ) (h : History)
    → (all_goes (statement_of ps p h) ≡ outgoing ps p h) × (start_cover p h + all_comes (statement_of ps p h) ≡ incoming ps p h)
statement-adds ps p (from b) = (refl, omega arith)
statement-adds ps p (e ▹ h) =
    let both = statement-adds ps p h in
    let line = line_of (ticket_count h) (goes_out ps p e h) (comes_in ps p e h) in
    let a = both.0 in
    let b = both.1 in
    let out = line-goes (ticket_count h) (goes_out ps p e h) (comes_in ps p e h) in
    let in' = line-comes (ticket_count h) (goes_out ps p e h) (comes_in ps p e h) in
    (let g = goes-append (statement_of ps p h) line in omega arith, let c = comes-append (statement_of ps p h) line in omega arith)

-- of every sound book, list of inputs and participant
module _ (b : Book) (s : Sound b) (inputs : List Input) (p : ℕ) (l : p < b.roster.size) where
  abbrev h : History
  h = history_of b inputs

  pub position-explained : let lines = statement_of b.roster p h in
      whole (cover_of (book_from b inputs).covers p) + all_goes lines ≡ whole (cover_of b.covers p) + all_comes lines
  position-explained =
      let adds = statement-adds b.roster p h in
      let out = adds.0 in
      let in' = adds.1 in
      let first = start-on p (from b) (seen_from b inputs) in
      let c = adds-up b s inputs p l in
      omega arith

-- Bank A on the busy day, lines as tickets counted from 0: cover in, an order of 400 settled and returned, orders of 70 and 50 settled,
-- an excess of 380 confirmed after the cut
abbrev pub bank_a : List Line
bank_a =
    record { ticket = 0; goes = 0; comes = 1000 }
    ∷ record { ticket = 10; goes = 400; comes = 0 }
    ∷ record { ticket = 15; goes = 0; comes = 400 }
    ∷ record { ticket = 21; goes = 70; comes = 0 }
    ∷ record { ticket = 26; goes = 50; comes = 0 }
    ∷ record { ticket = 29; goes = 380; comes = 0 }
    ∷ []

pub bank_a-lines : statement_of busy_day.start.roster 0 (seen_on busy_day) ≡ bank_a
unfolding is_bic is_iban is_txid reading day_file followed sender_in order_in route_in way_in any_open total tick step_of handed
bank_a-lines = refl

four-participants : busy_day.start.roster.size ≡ 4
unfolding is_bic day_file
four-participants = refl

-- what is left
leaves : (there out in' : ℕ) → there + out ≡ 0 + in' → out ≡ 900 → in' ≡ 1400 → there ≡ 500
leaves there out in' adds a b = omega arith

-- 900 went out and 1400 came in, from nothing at the start: by demand 3, 500 are there
pub bank_a-position : whole (cover_of (book_on busy_day).covers 0) ≡ 500
bank_a-position =
    let lines = statement_of busy_day.start.roster 0 (seen_on busy_day) in
    leaves (whole (cover_of (book_on busy_day).covers 0)) (all_goes lines) (all_comes lines)
    (position-explained busy_day.start (file-sound busy_file) (inputs busy_day.tickets) 0 (rw four-participants (lit< tt)))
    (ap all_goes bank_a-lines)
    (ap all_comes bank_a-lines)
