-- What the desk leaves behind: its answer, and every byte of both buffers.
--     desk_input       what is given, from its parts
--     tickets_laid     a buffer after tickets are laid down from its start
--     tickets_of       the first n tickets of a buffer
--     settled_of       the answer: the refusal and both counts
--     Settles         the promise
--     settled_number   the answer as one number, for programs in other languages
-- Assumes nothing.
use Rattle.std.specs.Prelude.{ℕ, zero, suc, ◌+◌, ◌*◌, ◌≡◌, List, [], ◌∷◌, ◌++◌, length, take, drop}
use Rattle.fields.specs.Text.{joined}
use Rattle.ticket.specs.TicketLayout.{ticket_length}
use Rattle.desk.specs.TransferLayout.{transfers_laid}
use Rattle.desk.specs.Settlement.{DeskInput, Settlement, settlement}
use Rattle.desk.specs.declared.Settled.{Settled}

abbrev pub desk_input : List ℕ → ℕ → List ℕ → List ℕ → DeskInput
desk_input reports time rows balances = record { reports = reports; time = time; rows = rows; balances = balances }

-- bytes after the last ticket keep their value
abbrev pub tickets_laid : List (List ℕ) → List ℕ → List ℕ
tickets_laid ts s = joined ts ++ drop (ticket_length * length ts) s

abbrev pub tickets_of : ℕ → List ℕ → List (List ℕ)
tickets_of zero s = []
tickets_of (suc n) s = take ticket_length s ∷ tickets_of n (drop ticket_length s)

-- 02, slip 7: it answers the refusal and both counts
abbrev pub settled_of : Settlement → Settled
settled_of s = record { refusal = s.refusal; transfers = length s.transfers; tickets = length s.tickets }

pub record Settles (x : DeskInput) (transfers₀ tickets₀ : List ℕ) (r : Settled) (transfers tickets : List ℕ) : Type 0 where
  pub answer : r ≡ settled_of (settlement x (length transfers₀) (length tickets₀))
  pub transfers-are : transfers ≡ transfers_laid (settlement x (length transfers₀) (length tickets₀)).transfers transfers₀
  pub tickets-are : tickets ≡ tickets_laid (settlement x (length transfers₀) (length tickets₀)).tickets tickets₀

abbrev pub settled_number : Settled → ℕ
settled_number r = r.refusal * 65_536 + r.transfers * 256 + r.tickets
