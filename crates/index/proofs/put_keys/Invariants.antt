-- The rows of the orders before i are made. Assumes nothing.
use Rattle.std.proofs.Common.{◌≡◌, ◌≤◌}
use Rattle.dayfile.specs.Roster.{participant_in}
use Rattle.rules.specs.Book.{order_of}
use Rattle.index.specs.RowChains.{rows_of}
use Rattle.index.specs.Words.{key_words}
use Rattle.index.proofs.put_keys.Given as goal

abbrev pub invariant-loop-i : goal.invariant-loop-i
invariant-loop-i l =
    (l.i ≤ l.count)
    × (l.keys ≡ rows_of (λ i. key_words (participant_in l.participants (order_of l.orders i).payer).bic (order_of l.orders i).txid) l.i)
