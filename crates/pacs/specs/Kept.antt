-- What the reader keeps of the named elements that it met (src/notes.rt).
--     placed_text    the text between two places
--     KeptText      the text kept of a row is the element's
--     KeptRight     the elements met so far are the first rows, as they are due
--     KeptWrong     they are not, whatever follows: what is wrong is kept
--     Kept          one or the other
--     StandsIn      a text that is kept stands in the text that is read at its place
--     TextsPlaced   so does that of each row before the one that is due; KeptPlaced, where nothing is wrong
-- Assumes nothing.
use Rattle.std.specs.Prelude.{ℕ, ◌+◌, ◌-◌, ◌≤◌, ◌<◌, ◌≡◌, ◌⊎◌, true, false, List, ◌++◌, length, get_or, take, drop, None, Some}
use Rattle.pacs.specs.declared.notes.Text.{Text}
use Rattle.pacs.specs.declared.notes.Notes.{Notes}
use Rattle.pacs.specs.declared.refusals.Refused.{Refused}
use Rattle.pacs.specs.Named.{Named, is_text_row, amount_row, outside}
use Rattle.pacs.specs.Judged.{in_order, element_at, text_at, is_euro, element_refusal}
use Rattle.pacs.specs.Wrongs.{wrong_refusal}

abbrev pub placed_text : List ℕ → ℕ → ℕ → List ℕ
placed_text t from to = take (to - from) (drop from t)

-- the text of a row
pub record KeptText (seen : List Named) (kept : Notes) (r : ℕ) : Type 0 where
  pub holds : (blank : Text) → text_at seen r ≡ (get_or kept.texts r blank).bytes.now

pub record KeptRight (seen : List Named) (kept : Notes) : Type 0 where
  pub rows : length kept.texts ≡ outside
  pub fault : kept.fault ≡ None
  pub due : kept.due ≡ length seen
  pub few : length seen ≤ outside
  pub first : (later : List Named) → in_order 0 (seen ++ later) ≡ in_order (length seen) later
  pub texts : (r : ℕ) → r < length seen → is_text_row r ≡ true → KeptText seen kept r
  pub euro : amount_row < length seen → kept.euro ≡ is_euro (element_at seen amount_row).attributes

pub record KeptWrong (seen : List Named) (kept : Notes) : Type 0 where
  pub refused : Refused
  pub fault : kept.fault ≡ Some refused
  pub is : wrong_refusal refused.wrong ≡ element_refusal
  pub never : (later : List Named) → in_order 0 (seen ++ later) ≡ false

abbrev pub Kept : List Named → Notes → Type 0
Kept seen kept = KeptRight seen kept ⊎ KeptWrong seen kept

-- from its place on it lies within t, and t has its bytes there
pub record StandsIn (t : List ℕ) (x : Text) : Type 0 where
  pub within : x.place + length x.bytes.now ≤ length t
  pub holds : placed_text t x.place (x.place + length x.bytes.now) ≡ x.bytes.now

pub record TextsPlaced (t : List ℕ) (kept : Notes) : Type 0 where
  pub rows : length kept.texts ≡ outside
  pub stand : (r : ℕ) → r < kept.due → is_text_row r ≡ true → (blank : Text) → StandsIn t (get_or kept.texts r blank)

abbrev pub KeptPlaced : List ℕ → Notes → Type 0
KeptPlaced t kept = kept.fault ≡ None → TextsPlaced t kept
