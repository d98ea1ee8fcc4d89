-- Where the reader stands in a text: the elements that are open, as it keeps them, and the walk from there.
--     Stacked    names and rows of the open elements are those in an array, the outermost first; StackedAt, of one
--     Walking    the walk through the text goes on from here, or has come to the root's end
--     Going      all of it, with what is kept of the named elements; GoingPlaced, and the texts that are kept stand at their places
-- Assumes nothing.
use Rattle.std.specs.Prelude.{ℕ, ◌≤◌, ◌<◌, ◌≡◌, List, [], ◌∷◌, length, get_or, drop}
use Rattle.xml.specs.Tree.{Element}
use Rattle.xml.specs.WellFormed.{deepest}
use Rattle.pacs.specs.declared.notes.Notes.{Notes}
use Rattle.pacs.specs.declared.open.Open.{Open}
use Rattle.pacs.specs.Named.{Named}
use Rattle.pacs.specs.Kept.{Kept, KeptPlaced}
use Rattle.pacs.specs.Walk.{Frame, arrived, walk, root_walked}
use Rattle.pacs.specs.Wrongs.{role_number}

-- the element at a depth, counted from 0
pub record StackedAt (f : Frame) (i : ℕ) (stack : List Open) : Type 0 where
  pub name : (none : Open) → f.tag.name ≡ (get_or stack i none).name.now
  pub row : (none : Open) → f.row ≡ role_number (get_or stack i none).role

abbrev pub Stacked : List Frame → List Open → Type 0
Stacked [] stack = Unit
Stacked (f ∷ fs) stack = record { top : StackedAt f (length fs) stack; rest : Stacked fs stack }

abbrev pub Walking : List ℕ → ℕ → ℕ → List Frame → List Named → ℕ → Type 0
Walking t start fuel [] seen at = (e : Element) × (root_walked (drop start t) ≡ arrived e seen (drop at t))
Walking t start fuel (f ∷ fs) seen at = root_walked (drop start t) ≡ walk fuel (f ∷ fs) seen (drop at t)

pub record Going (t : List ℕ) (start at depth : ℕ) (stack : List Open) (kept : Notes) : Type 0 where
  pub frames : List Frame
  pub seen : List Named
  pub fuel : ℕ
  pub deep : depth ≡ length frames
  pub few : depth ≤ deepest
  pub enough : length (drop at t) < fuel
  pub walking : Walking t start fuel frames seen at
  pub stacked : Stacked frames stack
  pub keeps : Kept seen kept

pub record GoingPlaced (t : List ℕ) (start at depth : ℕ) (stack : List Open) (kept : Notes) : Type 0 where
  pub going : Going t start at depth stack kept
  pub placed : KeptPlaced t kept
