-- A file that is longer than any day: its first 57,101 bytes print what it prints. Assumes nothing.
use Rattle.std.specs.Prelude.{◌≡◌, ℕ, ◌≤◌, List, [], length, take, Some}
use mathlib.Core.Path.{refl, sym, ◌∙◌, ap, ap₂}
use native.Mathlib.Omega.{arith}
use borrow.Author.Tests.{le-ltb}
use lib.Seq.{length-take-le}
use Rattle.fields.specs.Number.{number}
use Rattle.fields.proofs.Stores.{part-part}
use Rattle.dayfile.specs.Header.{header_of, headed}
use Rattle.dayfile.specs.Check.{ranged, placed}
use Rattle.dayfile.specs.DayFile.{day_file, file_placed, refused_file}
use Rattle.dayfile.specs.declared.DayFile.{DayFile}
use Rattle.dayfile.specs.FileLimits.{most_read}
use Rattle.dayfile.specs.declared.header.Sections.{Sections}
use Rattle.dayfile.specs.declared.header.Header.{Header}
use Rattle.dayfile.specs.declared.check.Ranged.{Ranged}
use Rattle.dayfile.specs.declared.check.Ranged.TheVariants.{Within, Outside}
use Rattle.dayfile.specs.declared.check.Placed.{Placed}
use Rattle.dayfile.specs.declared.check.Placed.TheVariants as placed-is
use Rattle.dayfile.proofs.Passing.{counts-in-range, in_place, file-headed, file-ranged}
use Rattle.rules.specs.Program.{output_of, output}

-- refused by 2 or by 3
abbrev too_long : Ranged → DayFile
too_long Outside = refused_file 2
too_long Within = refused_file 3

module _ (g : List ℕ) (h : Header) (head : headed g ≡ Some h) (long : most_read ≤ length g) where
  misplaced : ranged h ≡ Within → (z : Placed) → placed h (length g) ≡ z → file_placed h g z ≡ refused_file 3
  misplaced e placed-is.Wrong q = refl
  misplaced e placed-is.Right q =
      let p = (in_place h (length g) q).end in
      let r = counts-in-range h e in
      absurd (omega arith)

  long-file : day_file g ≡ too_long (ranged h)
  long-file = go (ranged h) refl
    where
      go : (z : Ranged) → ranged h ≡ z → day_file g ≡ too_long z
      go Outside e = file-headed g h head ∙ rw e
      go Within e = file-ranged g h head e ∙ misplaced e (placed h (length g)) refl

  long-output : output g ≡ output_of [] (too_long (ranged h))
  unfolding output
  long-output = ap (output_of g) long-file ∙ go (ranged h)
    where
      go : (z : Ranged) → output_of g (too_long z) ≡ output_of [] (too_long z)
      go Outside = refl
      go Within = refl

headed-long : (g : List ℕ) → most_read ≤ length g → headed g ≡ Some (header_of g)
headed-long g long = rw (le-ltb (length g) 12 (omega arith))

module _ (f : List ℕ) (long : most_read ≤ length f) where
  abbrev start : List ℕ
  start = take most_read f

  -- the header lies within them
  same-counts : (header_of start).counts ≡ (header_of f).counts
  same-counts =
      λ i. record {
        participants = ap number (part-part 2 0 most_read 0 57_099 f refl) i;
        routes = ap number (part-part 2 2 most_read 0 57_097 f refl) i;
        tickets = ap number (part-part 2 4 most_read 0 57_095 f refl) i;
      }

  same-offsets : (header_of start).offsets ≡ (header_of f).offsets
  same-offsets =
      λ i. record {
        participants = ap number (part-part 2 6 most_read 0 57_093 f refl) i;
        routes = ap number (part-part 2 8 most_read 0 57_091 f refl) i;
        tickets = ap number (part-part 2 10 most_read 0 57_089 f refl) i;
      }

  same-header : header_of start ≡ header_of f
  same-header = ap₂ (λ (a b : Sections). record { counts = a; offsets = b }) same-counts same-offsets

  pub longer-prints : output start ≡ output f
  longer-prints =
      let l : most_read ≤ length start = let e = length-take-le most_read f long in omega arith in
      long-output start (header_of start) (headed-long start l) l
      ∙ ap (λ (h : Header). output_of [] (too_long (ranged h))) same-header
      ∙ sym (long-output f (header_of f) (headed-long f long) long)
