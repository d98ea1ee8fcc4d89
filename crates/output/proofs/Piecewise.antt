-- A day is printed piece by piece: its start, a batch of tickets, the participants, a refused day file. Assumes nothing.
use Rattle.std.specs.Prelude.{◌≡◌, ℕ, zero, suc, ◌+◌, ◌-◌, ◌*◌, ◌<◌, ◌≤◌, Bool, true, false, cond, List, [], ◌∷◌, ◌++◌, length, drop}
use mathlib.Core.Path.{refl, sym, ◌∙◌, ap, ap₂, subst}
use mathlib.Core.List.{append-nil, append_assoc}
use mathlib.Core.Logic.{⊎_elim}
use native.Mathlib.Nat.{sub-zero}
use native.Mathlib.Omega.{arith}
use borrow.Author.Tests.{eq-eqb, ne_eqb, lt-ltb, le-ltb}
use lib.ListN.{length-drop}
use Rattle.fields.specs.Text.{joined}
use Rattle.ticket.specs.TicketLayout.{ticket_length}
use Rattle.dayfile.specs.DayFile.{day_file}
use Rattle.dayfile.proofs.Accepted.{file-guaranteed}
use Rattle.rules.specs.Tick.{Step}
use Rattle.rules.specs.Step.{steps_of, book_after}
use Rattle.rules.specs.Program.{refusal_line, lines_from, cover_lines, tickets_from, output}
use Rattle.rules.specs.Sound.{Sound}
use Rattle.rules.specs.declared.Book.{Book}
use Rattle.fields.proofs.Compared.{same_or_not, below_or_not}
use Rattle.rules.proofs.StepSound.{file-sound}
use Rattle.course.specs.Running.{ran}
use Rattle.course.proofs.PrintedBatches.{ran-sound, takes_one, Split, ran-splits, lines-append, after-append}
use Rattle.lines.specs.Lines.{covers_to}
use Rattle.lines.specs.Written.{Written}
use Rattle.lines.proofs.ProgramText.{covers-are}
use Rattle.output.specs.Batch.{batch, Batched}
use Rattle.output.specs.Pieces.{
  begun,
  Under,
  steps_left,
  lines_left,
  to_print,
  next_batch,
  piece_text,
  advanced,
  ended_day,
  day_after,
  turns_left,
  pieces_to,
  PieceOf,
}
use Rattle.output.specs.declared.piece.Day.{Day}

pub begun-under : (file : List ℕ) → Under file (begun file)
begun-under file =
    record {
      sound = file-sound file;
      first = refl;
      taken = omega arith;
      tickets = λ z. (file-guaranteed file z).tickets;
      end = λ z. (file-guaranteed file z).end;
    }

pub begun-prints : (file : List ℕ) → to_print file (begun file) ≡ output file
unfolding to_print output
begun-prints file = rw (sub-zero (day_file file).tickets)

-- of a day that has ended nothing is left
pub ended-prints : (file : List ℕ) (d : Day) → d.ended ≡ true → to_print file d ≡ []
unfolding to_print
ended-prints file d e = rw e

-- what is left of a day whose tickets were not refused
left-taken : (file : List ℕ) (d : Day) → d.ended ≡ false → d.refusal ≡ 0 → to_print file d ≡ lines_left d (steps_left file d)
unfolding to_print
left-taken file d going accepted = rw (going, eq-eqb d.refusal 0 accepted)

refused-left : (file : List ℕ) (d : Day) → d.ended ≡ false → (d.refusal ≡ 0 → ⊥) → to_print file d ≡ refusal_line d.refusal
unfolding to_print
refused-left file d going refused = rw (going, ne_eqb d.refusal 0 refused)

turns-going : (d : Day) → d.ended ≡ false → turns_left d ≡ suc (d.tickets - d.taken)
turns-going d going = rw going

-- which piece is next
module _ (file : List ℕ) (d : Day) where
  module _ (accepted : d.refusal ≡ 0) where
    batch-text : d.taken < d.tickets → piece_text file d ≡ lines_from d.taken (next_batch file d)
    unfolding piece_text
    batch-text more = rw (eq-eqb d.refusal 0 accepted, lt-ltb d.taken d.tickets more)

    batch-day : d.taken < d.tickets → day_after file d ≡ advanced d (book_after d.book (next_batch file d)) (length (next_batch file d))
    unfolding day_after
    batch-day more = rw (eq-eqb d.refusal 0 accepted, lt-ltb d.taken d.tickets more)

    covers-text : d.tickets ≤ d.taken → piece_text file d ≡ cover_lines d.book d.book.roster.size
    unfolding piece_text
    covers-text none = rw (eq-eqb d.refusal 0 accepted, le-ltb d.taken d.tickets none)

    covers-day : d.tickets ≤ d.taken → day_after file d ≡ ended_day d
    unfolding day_after
    covers-day none = rw (eq-eqb d.refusal 0 accepted, le-ltb d.taken d.tickets none)

  module _ (refused : d.refusal ≡ 0 → ⊥) where
    refusal-text : piece_text file d ≡ refusal_line d.refusal
    unfolding piece_text
    refusal-text = rw (ne_eqb d.refusal 0 refused)

    refusal-day : day_after file d ≡ ended_day d
    unfolding day_after
    refusal-day = rw (ne_eqb d.refusal 0 refused)

module _ (file : List ℕ) (d : Day) (u : Under file d) where
  ended-under : Under file (ended_day d)
  ended-under = record { sound = u.sound; first = u.first; taken = u.taken; tickets = u.tickets; end = u.end }

  -- a batch of the tickets that are left
  module _ (accepted : d.refusal ≡ 0) where
    splits : Split file d.book d.taken (d.tickets - d.taken) (next_batch file d)
    unfolding batch
    splits =
        subst (λ (n : ℕ). Split file d.book d.taken (d.tickets - d.taken)
        (ran d.book (drop (n + ticket_length * d.taken) file) 2048 12288))
        (sym u.first)
        (ran-splits file d.book d.taken (d.tickets - d.taken) 2048 12288
        (let e = u.end accepted in let f = u.first in let l = u.taken in omega arith))

    batch-sound : Sound (book_after d.book (next_batch file d))
    unfolding batch
    batch-sound = ran-sound d.book u.sound (drop (d.first + ticket_length * d.taken) file) 2048 12288

    pub batch-within : length (next_batch file d) ≤ d.tickets - d.taken
    batch-within = splits.within

    some : d.taken < d.tickets → 1 ≤ length (next_batch file d)
    unfolding batch
    some more =
        let place = d.first + ticket_length * d.taken in
        let e = u.end accepted in
        takes_one d.book (drop place file) 2048 12288 (rw (length-drop place file) (omega arith)) (omega arith) (omega arith)

    -- its lines come first
    module _ (going : d.ended ≡ false) where
      abbrev ss : List Step
      ss = next_batch file d

      abbrev after : Day
      after = advanced d (book_after d.book ss) (length ss)

      batch-first : to_print file d ≡ lines_from d.taken ss ++ to_print file after
      batch-first =
          left-taken file d going accepted
          ∙ ap (lines_left d) splits.steps
          ∙ ap₂ (λ (t : List ℕ) (c : Book). t ++ cover_lines c c.roster.size) (lines-append d.taken ss rest)
          (after-append d.book ss rest)
          ∙ append_assoc (lines_from d.taken ss) (lines_from (d.taken + length ss) rest) _
          ∙ ap (λ (ts : List Step). lines_from d.taken ss ++ lines_left after ts) same
          ∙ ap (λ (t : List ℕ). lines_from d.taken ss ++ t) (sym (left-taken file after refl accepted))
        where
          rest : List Step
          rest = steps_of (book_after d.book ss) (tickets_from file (d.taken + length ss) (d.tickets - d.taken - length ss))

          same : rest ≡ steps_left file after
          same =
              let e : d.tickets - d.taken - length ss ≡ d.tickets - (d.taken + length ss) = omega arith in
              ap (λ (n : ℕ). steps_of (book_after d.book ss) (tickets_from file (d.taken + length ss) n)) e

      covers-left : d.tickets ≤ d.taken → to_print file d ≡ cover_lines d.book d.book.roster.size
      covers-left none =
          let e : d.tickets - d.taken ≡ 0 = omega arith in
          left-taken file d going accepted ∙ ap (λ (n : ℕ). lines_left d (steps_of d.book (tickets_from file d.taken n))) e

    pub batch-piece : d.taken < d.tickets → {c : Book} {n end : ℕ} {text₀ text' : List ℕ}
        → Batched d.book (drop (d.first + ticket_length * d.taken) file) d.taken text₀ c n text' end
        → PieceOf file d text₀ end (advanced d c n) text'
    batch-piece more {c} {n} {end} {text₀} {text'} h =
        record {
          day = ap₂ (advanced d) h.book h.taken ∙ sym (batch-day file d accepted more);
          text = subst (λ (t : List ℕ). Written text₀ text' 0 t end) (sym (batch-text file d accepted more)) h.lines;
          within = h.within;
          under =
              record {
                sound = h.sound;
                first = u.first;
                taken = let w = batch-within in let e = h.taken in omega arith;
                tickets = u.tickets;
                end = u.end;
              };
        }

    pub covers-piece : d.tickets ≤ d.taken → {text₀ text' : List ℕ} {end : ℕ}
        → Written text₀ text' 0 (covers_to d.book.covers d.book.roster.size) end → end ≤ length text₀
        → PieceOf file d text₀ end (ended_day d) text'
    covers-piece none {text₀} {text'} {end} w within =
        record {
          day = sym (covers-day file d accepted none);
          text =
              subst (λ (t : List ℕ). Written text₀ text' 0 t end)
              (covers-are d.book d.book.roster.size ∙ sym (covers-text file d accepted none)) w;
          within = within;
          under = ended-under;
        }

  pub refusal-piece : (d.refusal ≡ 0 → ⊥) → {text₀ text' : List ℕ} {end : ℕ}
      → Written text₀ text' 0 (refusal_line d.refusal) end → end ≤ length text₀
      → PieceOf file d text₀ end (ended_day d) text'
  refusal-piece refused {text₀} {text'} {end} w within =
      record {
        day = sym (refusal-day file d refused);
        text = subst (λ (t : List ℕ). Written text₀ text' 0 t end) (sym (refusal-text file d refused)) w;
        within = within;
        under = ended-under;
      }

  -- the next piece, and what it leaves
  pub record Next (e : Day) : Type 0 where
    pub under : Under file e
    pub less : turns_left e < turns_left d
    pub prints : to_print file d ≡ piece_text file d ++ to_print file e

  last : d.ended ≡ false → piece_text file d ≡ to_print file d → Next (ended_day d)
  unfolding to_print
  last going all =
      record {
        under = ended-under;
        less = let t = turns-going d going in omega arith;
        prints = sym all ∙ sym (append-nil (piece_text file d));
      }

  module _ (going : d.ended ≡ false) where
    next-accepted : d.refusal ≡ 0 → Next (day_after file d)
    next-accepted accepted = ⊎_elim batch-next covers-next (below_or_not d.taken d.tickets)
      where
        batch-next : d.taken < d.tickets → Next (day_after file d)
        batch-next more =
            subst Next (sym (batch-day file d accepted more))
            (record {
              under =
                  record {
                    sound = batch-sound accepted;
                    first = u.first;
                    taken = let w = batch-within accepted in omega arith;
                    tickets = u.tickets;
                    end = u.end;
                  };
              less = let s = some accepted more in let t = turns-going d going in omega arith;
              prints = batch-first accepted going
                  ∙ ap (λ (t : List ℕ). t ++ to_print file (after accepted going)) (sym (batch-text file d accepted more));
            })

        covers-next : d.tickets ≤ d.taken → Next (day_after file d)
        covers-next none =
            subst Next (sym (covers-day file d accepted none))
            (last going (covers-text file d accepted none ∙ sym (covers-left accepted going none)))

    next-refused : (d.refusal ≡ 0 → ⊥) → Next (day_after file d)
    next-refused refused =
        subst Next (sym (refusal-day file d refused)) (last going (refusal-text file d refused ∙ sym (refused-left file d going refused)))

    pub piece-goes-on : Next (day_after file d)
    piece-goes-on = ⊎_elim next-accepted next-refused (same_or_not d.refusal 0)

-- all pieces one after the other are what is left; from the start of a day on, the program's output
pieces-print : (n : ℕ) (file : List ℕ) (d : Day) → Under file d → turns_left d ≤ n → joined (pieces_to n file d) ≡ to_print file d
pieces-print zero file d u few = go d.ended refl
  where
    go : (z : Bool) → d.ended ≡ z → [] ≡ to_print file d
    go true e = sym (ended-prints file d e)
    go false e = let t = turns-going d e in absurd (omega arith)
pieces-print (suc n) file d u few = go d.ended refl
    (λ (x : Next file d u (day_after file d)). pieces-print n file (day_after file d) x.under (let l = x.less in omega arith))
  where
    go : (z : Bool) → d.ended ≡ z
        → (Next file d u (day_after file d) → joined (pieces_to n file (day_after file d)) ≡ to_print file (day_after file d))
        → joined (cond z [] (piece_text file d ∷ pieces_to n file (day_after file d))) ≡ to_print file d
    go true e on = sym (ended-prints file d e)
    go false e on =
        let x = piece-goes-on file d u e in
        ap (λ (t : List ℕ). piece_text file d ++ t) (on x) ∙ sym x.prints

pub day-printed : (file : List ℕ) (n : ℕ) → (day_file file).tickets < n → joined (pieces_to n file (begun file)) ≡ output file
day-printed file n few = pieces-print n file (begun file) (begun-under file) (omega arith) ∙ begun-prints file
