-- A day file by what its checks leave: the refusal, or the header, by which the roster and the tickets are found. Assumes nothing.
use Rattle.std.specs.Prelude.{ℕ, List, Result, Ok, Err}
use Rattle.dayfile.specs.DayFile.{accepted_file, refused_file}
use Rattle.dayfile.specs.declared.DayFile.{DayFile}
use Rattle.dayfile.specs.declared.header.Header.{Header}

abbrev pub file_of : List ℕ → Result Header ℕ → DayFile
file_of f (Ok h) = accepted_file h f
file_of f (Err n) = refused_file n
