-- Demand 3, proved: from every sound book, and so from that of every day file. Assumes nothing.
use Rattle.rules.specs.Book.{book_of}
use Rattle.rules.specs.Sound.{Sound}
use Rattle.rules.specs.declared.Book.{Book}
use Rattle.rules.proofs.StepSound.{file-sound}
use Rattle.audit.specs.Demand3.{Holds, Demand3}
use Rattle.audit.proofs.AlongInputs.{carried-start, carried-claim, carried-inputs}

pub holds : (b : Book) → Sound b → Holds b
holds b s inputs = carried-claim (carried-inputs (carried-start b s) inputs)

pub demand3 : Demand3
demand3 file = holds (book_of file) (file-sound file)
