-- What the functions of the reader promise of a text.
--     EndRead      where an end tag of a name that stands at a place ends
--     Met          the row of an element, and what is kept once it is met; MetPlaced, and the texts that are kept stay at their places
--     RootOpened   the root's start tag stands at a place, and ends before another
--     WalkedOn     the walk through the root ends at a place; WalkedPlaced, and the texts that are kept stand at theirs
--     WalkedTo     so, or the text isn't read
-- Assumes nothing.
use Rattle.std.specs.Prelude.{ℕ, ◌+◌, ◌≤◌, ◌<◌, ◌≡◌, Bool, true, false, cond, List, [], ◌++◌, length, get_or, drop, Option, Some, None, Result, Ok, Err}
use Rattle.xml.specs.Bytes.{is_space, is_first, is_name, is_text, run, past, run_length}
use Rattle.xml.specs.Tree.{Tag, Element}
use Rattle.xml.specs.Scanning.{attributed, attributes_of, tag_behind, opens}
use Rattle.pacs.specs.declared.notes.Notes.{Notes}
use Rattle.pacs.specs.declared.refusals.Refused.{Refused}
use Rattle.pacs.specs.Named.{Named, named, row_of}
use Rattle.pacs.specs.Answering.{form_refusal}
use Rattle.pacs.specs.Wrongs.{wrong_refusal}
use Rattle.pacs.specs.Kept.{placed_text, Kept, KeptPlaced}
use Rattle.pacs.specs.Walk.{from_space, is_end, end_follows, astray, arrived, root_walked}

abbrev pub EndRead : List ℕ → ℕ → List ℕ → Option ℕ → Type 0
EndRead t at name (Some p) =
    (is_end name (drop at t) ≡ true) × (drop 1 (past is_space (from_space name (drop at t))) ≡ drop p t) × (at < p) × (p ≤ length t)
EndRead t at name None = is_end name (drop at t) ≡ false

pub record Met (t : List ℕ) (parent from to at : ℕ) (nests : Bool) (before after : Notes) (row : ℕ) : Type 0 where
  pub is : row ≡ row_of parent (placed_text t from to)
  pub keeps : (seen : List Named) (u : Tag) (space z : List ℕ) → attributes_of (drop to t) ≡ attributed u.attributes space z
      → Kept seen before
      → Kept (seen ++ named row u (cond nests (run is_text (drop at t)) []) (cond nests (end_follows (drop at t)) true)) after

pub record MetPlaced (t : List ℕ) (parent from to at : ℕ) (nests : Bool) (before after : Notes) (row : ℕ) : Type 0 where
  pub met : Met t parent from to at nests before after row
  pub placed : KeptPlaced t before → KeptPlaced t after

pub record RootOpened (t : List ℕ) (start behind next : ℕ) : Type 0 where
  pub less : get_or t start 0 ≡ 0x3c
  pub first : is_first (get_or t (start + 1) 0) ≡ true
  pub name : behind ≡ start + 1 + run_length is_name (drop (start + 1) t)
  pub within : next ≤ length t
  pub later : behind < next
  pub tag : Tag
  pub opens : tag_behind (run is_name (drop (start + 1) t)) (attributes_of (drop behind t)) ≡ opens tag (drop next t)

pub record WalkedOn (t : List ℕ) (start at : ℕ) (kept : Notes) : Type 0 where
  pub root : Element
  pub seen : List Named
  pub arrives : root_walked (drop start t) ≡ arrived root seen (drop at t)
  pub within : at ≤ length t
  pub keeps : Kept seen kept

pub record WalkedPlaced (t : List ℕ) (start at : ℕ) (kept : Notes) : Type 0 where
  pub walked : WalkedOn t start at kept
  pub placed : KeptPlaced t kept

abbrev pub WalkedTo : List ℕ → ℕ → Notes → Result ℕ Refused → Type 0
WalkedTo t start kept (Ok p) = WalkedPlaced t start p kept
WalkedTo t start kept (Err why) = (root_walked (drop start t) ≡ astray) × (wrong_refusal why.wrong ≡ form_refusal)
