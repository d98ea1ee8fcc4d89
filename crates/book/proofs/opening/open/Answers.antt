-- `book::opening::open` meets its contract: the book is that of the file, which is sound. Assumes nothing.
use mathlib.Core.Path.{sym, ◌∙◌, ap, subst}
use Rattle.dayfile.specs.declared.DayFile.{DayFile}
use Rattle.rules.specs.Book.{fresh_book}
use Rattle.rules.specs.Sound.{Sound}
use Rattle.rules.proofs.StepSound.{file-sound}
use Rattle.book.proofs.opening.open.Goals as goal

pub returns : goal.returns
returns c =
    let file = c.args.file.now in
    let is = c.fresh.ensures ∙ ap (λ (d : DayFile). fresh_book d.roster) c.read_day_file-d.ensures.0 in
    record { opened = simp (is, c.read_day_file-d.ensures.0); sound = subst Sound (sym is) (file-sound file) }
