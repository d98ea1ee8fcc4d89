-- `output::piece::Day::covers_piece` meets its contract. Assumes nothing.
use Rattle.std.specs.Prelude.{◌≡◌, ◌≤◌, List, ℕ, length, take}
use Rattle.std.proofs.Common.{length-take-le}
use mathlib.Core.Path.{◌∙◌, ap, subst}
use native.Mathlib.Omega.{arith}
use Rattle.lines.specs.Lines.{covers_to}
use Rattle.lines.specs.Written.{Written}
use Rattle.lines.proofs.ProgramText.{covers-first}
use Rattle.rules.specs.Sound.{Sound}
use Rattle.rules.specs.declared.Book.{Book}
use Rattle.output.proofs.Piecewise.{covers-piece}
use Rattle.output.proofs.piece.Day.covers_piece.Goals as goal

-- a sound book has room for its participants
size-within : (b : Book) → Sound b → b.roster.size ≤ length b.covers
size-within b s = let r = s.roster.size in let l = s.covers.long in omega arith

pub put_covers-requires : goal.put_covers-requires
put_covers-requires c =
    let b = c.args.self.now.book in
    let s = c.requires.0.sound in
    let r = s.roster.size in
    let within = size-within b s in
    rw (length-take-le b.roster.size b.covers within) (omega arith)

pub returns : goal.returns
returns c =
    let d = c.args.self.now in
    let b = d.book in
    let n = b.roster.size in
    let p = c.requires in
    let l = c.put_covers.ensures in
    let within : n ≤ length b.covers = size-within b p.0.sound in
    let same : covers_to (take n b.covers) (length (take n b.covers)) ≡ covers_to b.covers n =
    ap (covers_to (take n b.covers)) (length-take-le n b.covers within) ∙ covers-first b.covers n n (omega arith) in
    covers-piece c.args.file.now d p.0 p.2 p.3
    (subst (λ (t : List ℕ). Written c.args.text.now c.put_covers.new.text 0 t c.put_covers.result) same l.0) l.1
