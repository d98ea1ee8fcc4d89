-- What a turn's parts speak of.
--     words_in    the words of an order's key: those of its payer's BIC and of its TxId
--     entry_by    the entry of a ticket that 7 to 11 do not refuse
-- Assumes nothing.
use Rattle.std.specs.Prelude.{ℕ, List}
use Rattle.dayfile.specs.Roster.{participant_of}
use Rattle.dayfile.specs.declared.roster.Roster.{Roster}
use Rattle.index.specs.Words.{key_words}
use Rattle.course.specs.declared.Entry.{Entry}
use Rattle.sight.specs.declared.Seen.{Seen}

abbrev pub words_in : Roster → ℕ × List ℕ → List ℕ
words_in r key = key_words (participant_of r key.0).bic key.1

abbrev pub entry_by : Seen → Entry
entry_by y = record { refusal = 0; kind = y.kind; time = y.time; amount = y.amount }
