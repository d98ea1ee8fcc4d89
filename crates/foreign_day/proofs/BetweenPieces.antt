-- Between two pieces of a day: what was printed so far is in the buffer, and what is left makes it whole. Assumes nothing.
use mathlib.Core.Path.{◌≡◌, refl, sym, ◌∙◌, ap, ap₂}
use mathlib.Core.Bool.{true, false}
use mathlib.Core.List.{List, [], ◌++◌, append-nil, append_assoc}
use mathlib.Core.Logic.{⊎_elim}
use Prim.Native.Nat.{ℕ, ◌+◌, ◌*◌, ◌≤◌, ◌<◌}
use native.Mathlib.Nat.{zero-add}
use native.Mathlib.Omega.{arith}
use lib.ListN.{length, take, drop, length-append}
use Rattle.fields.proofs.Stores.{sets-part}
use Rattle.dayfile.specs.DayFile.{day_file}
use Rattle.dayfile.proofs.Accepted.{file-guaranteed, with-tickets}
use Rattle.rules.specs.Program.{output}
use Rattle.fields.proofs.Compared.{below_or_not}
use Rattle.output.specs.Batch.{most_text}
use Rattle.output.specs.Pieces.{begun, Under, to_print, piece_text, day_after, turns_left, PieceOf}
use Rattle.output.specs.declared.piece.Day.{Day}
use Rattle.output.proofs.Piecewise.{begun-under, begun-prints, ended-prints, Next, piece-goes-on}
use Rattle.foreign_day.specs.LentText.{lent}
use Rattle.foreign_day.proofs.LentText.{lent-more}

-- a piece fits `most_text`, and there are at most 513
pub record BetweenPieces (file buffer text : List ℕ) (d : Day) (at : ℕ) : Type 0 where
  pub printed : List ℕ
  pub under : Under file d
  pub has : text ≡ lent printed buffer
  pub end : at ≡ length printed
  pub whole : printed ++ to_print file d ≡ output file
  pub room : at + most_text * turns_left d ≤ most_text * 513

module _ (file buffer : List ℕ) where
  few : (day_file file).tickets ≤ 512
  few =
      ⊎_elim
      (λ (h : 512 < (day_file file).tickets). (file-guaranteed file (with-tickets file 512 h)).tickets)
      (λ (h : (day_file file).tickets ≤ 512). h)
      (below_or_not 512 (day_file file).tickets)

  pub before-pieces : BetweenPieces file buffer buffer (begun file) 0
  before-pieces =
      record {
        printed = [];
        under = begun-under file;
        has = refl;
        end = refl;
        whole = begun-prints file;
        room = let n = few in omega arith;
      }

  module _ (text : List ℕ) (d : Day) (at : ℕ) (g : BetweenPieces file buffer text d at) where
    -- a piece more, behind what is there
    module _ (going : d.ended ≡ false) where
      abbrev piece : List ℕ
      piece = piece_text file d

      next : Next file d g.under (day_after file d)
      next = piece-goes-on file d g.under going

      -- as the piece was left in its own buffer
      module _ (spare₀ spare : List ℕ) (n : ℕ) (d' : Day) (q : PieceOf file d spare₀ n d' spare) (room : length spare₀ ≡ most_text) where
        long : n ≡ length piece
        long = q.text.end ∙ zero-add (length piece)

        piece-left : take n spare ≡ piece
        piece-left =
            ap₂ {C = List ℕ} take long q.text.text ∙ sets-part piece spare₀ 0 (let l = long in let w = q.within in omega arith)

        pub piece-fits : at + n ≤ most_text * 513
        piece-fits = let r = g.room in let l = next.less in let w = q.within in omega arith

        pub piece-more : (text' : List ℕ) → text' ≡ take at text ++ lent (take n spare) (drop at text)
            → BetweenPieces file buffer text' d' (at + n)
        piece-more text' e =
            record {
              printed = g.printed ++ piece;
              under = q.under;
              has =
                  e
                  ∙ ap (λ (x : List ℕ). take at text ++ lent x (drop at text)) piece-left
                  ∙ ap₂ (λ (n : ℕ) (t : List ℕ). take n t ++ lent piece (drop n t)) g.end g.has
                  ∙ lent-more g.printed piece buffer;
              end = ap₂ (λ (m n : ℕ). m + n) g.end long ∙ sym (length-append g.printed piece);
              whole =
                  ap (λ (e : Day). (g.printed ++ piece) ++ to_print file e) q.day
                  ∙ append_assoc g.printed piece (to_print file (day_after file d))
                  ∙ ap (λ (t : List ℕ). g.printed ++ t) (sym next.prints)
                  ∙ g.whole;
              room =
                  let r = g.room in
                  let l = next.less in
                  let w = q.within in
                  rw q.day (omega arith);
            }

        pub fewer : turns_left d' < turns_left d
        fewer = rw q.day next.less

    -- at the end all is there
    module _ (ended : d.ended ≡ true) where
      all-printed : g.printed ≡ output file
      all-printed =
          sym (append-nil g.printed) ∙ ap (λ (t : List ℕ). g.printed ++ t) (sym (ended-prints file d ended)) ∙ g.whole

      pub ended-length : at ≡ length (output file)
      ended-length = g.end ∙ ap {B = ℕ} length all-printed

      pub ended-text : text ≡ lent (output file) buffer
      ended-text = g.has ∙ ap (λ (t : List ℕ). lent t buffer) all-printed
