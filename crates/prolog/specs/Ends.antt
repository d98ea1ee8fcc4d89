-- Where the parts of a declaration end, in a text from a place on.
--     is_due            whether a name and a value are those of the attribute that is due
--     due_test          the same of an attribute
--     Passed           the place behind an attribute that passes a test; or the same place, where the first attribute doesn't pass it
--     is_close          ?> stands first
--     Closed           white space and ?>
--     PrologRead       where the prolog of a text ends: the text is read from there on; or a text that isn't read
-- Assumes nothing.
use Rattle.std.specs.Prelude.{ℕ, ◌≤◌, ◌<◌, ◌≡◌, Bool, true, false, ◌&&◌, ◌||◌, List, [], eqb, length, drop, Result, Ok, Err}
use Rattle.fields.specs.Text.{text, same}
use Rattle.xml.specs.Tree.{Attribute, Prolog}
use Rattle.xml.specs.WellFormed.{is_encoding}
use Rattle.xml.specs.Scanning.{first_byte, attributed, with_attribute, attributes_of}
use Rattle.scan.specs.AttributeParts.{FirstFails}
use Rattle.pacs.specs.Walk.{unread, behind_prolog, prolog_read}
use Rattle.prolog.specs.declared.Due.{Due}
use Rattle.prolog.specs.declared.Due.TheVariants.{Version, Encoding, Standalone}

abbrev pub is_due : Due → List ℕ → List ℕ → Bool
is_due Version name value = same name (text "version") && same value (text "1.0")
is_due Encoding name value = same name (text "encoding") && is_encoding value
is_due Standalone name value = same name (text "standalone") && (same value (text "yes") || same value (text "no"))

abbrev pub due_test : Due → Attribute → Bool
due_test due a = is_due due a.name a.value

pub data Passed (test : Attribute → Bool) (t : List ℕ) (at : ℕ) : ℕ → Type 0 where
  past : {r : ℕ} (a : Attribute) → attributes_of (drop at t) ≡ with_attribute a (attributes_of (drop r t)) → test a ≡ true → at < r
      → r ≤ length t → Passed test t at r
  stays : FirstFails test t at → Passed test t at at

-- white space and ?>, where attributes were read
abbrev pub is_close : List ℕ → Bool
is_close z = eqb (first_byte z) 0x3f && eqb (first_byte (drop 1 z)) 0x3e

abbrev pub Closed : List ℕ → ℕ → Result ℕ ℕ → Type 0
Closed t at (Ok p) =
    (space : List ℕ)
    × (z : List ℕ)
    × (attributes_of (drop at t) ≡ attributed [] space z)
    × (is_close z ≡ true)
    × (drop 2 z ≡ drop p t)
    × (p ≤ length t)
Closed t at (Err p) =
    ((space z : List ℕ) → attributes_of (drop at t) ≡ attributed [] space z → is_close z ≡ false) × (at ≤ length t → p ≤ length t)

abbrev pub PrologRead : List ℕ → Result ℕ ℕ → Type 0
PrologRead t (Ok p) = (q : Prolog) × (prolog_read t ≡ behind_prolog q (drop p t)) × (p ≤ length t)
PrologRead t (Err p) = (prolog_read t ≡ unread) × (p ≤ length t)
