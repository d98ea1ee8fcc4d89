-- `codes::checked` meets its contract. Assumes nothing.
use mathlib.Core.Path.{◌≡◌, sym, ◌∙◌}
use mathlib.Core.Bool.{true}
use mathlib.Core.List.{List}
use Prim.Native.Nat.{ℕ}
use Rattle.fields.specs.Text.{unpadded}
use Rattle.iban.specs.Iban.{iban_shape}
use Rattle.iban.proofs.ShapeParts.{shape-whole}
use Rattle.codes.proofs.checked.Goals.{Else-not-shaped}
use Rattle.codes.proofs.checked.Goals as goal

-- the shape is an IBAN's
module _ (c : Else-not-shaped) where
  abbrev s : List ℕ
  s = c.args.s.now

  shape : iban_shape s ≡ true
  shape = sym c.shaped.ensures ∙ c.if-not-shaped.false

  whole : unpadded s ≡ s
  whole = shape-whole s shape

pub returns-then-not-shaped : goal.returns-then-not-shaped
returns-then-not-shaped c =
    let none = sym c.shaped.ensures ∙ c.if-not-shaped.true in (rw none, rw none)

pub divided-requires : goal.divided-requires
divided-requires c =
    rw (whole c) (shape c)

pub returns : goal.returns
returns c =
    (rw (shape (goal.at.returns c).Else-not-shaped) (rw (whole (goal.at.returns c).Else-not-shaped) at c.divided.ensures.0), rw (shape (goal.at.returns c).Else-not-shaped) (rw (whole (goal.at.returns c).Else-not-shaped) at c.divided.ensures.1))
