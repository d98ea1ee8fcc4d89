-- The attribute from a place on, and a test of it.
--     none-there     no attribute
--     one-passed     one that passes the test
--     one-failed     one that doesn't
-- Assumes nothing.
use mathlib.Core.Path.{◌≡◌, sym, ◌∙◌, ap}
use mathlib.Core.Bool.{Bool, true, false}
use mathlib.Core.List.{List}
use Prim.Native.Nat.{ℕ, ◌+◌}
use native.Mathlib.Omega.{arith}
use lib.ListN.{drop}
use Rattle.xml.specs.Tree.{Attribute}
use Rattle.xml.specs.Scanning.{attributes_of}
use Rattle.xml.proofs.FirstAttribute.{first-is}
use Rattle.scan.specs.AttributeParts.{attribute_from, AttributeThere, AttributeRead}
use Rattle.std.specs.Prelude.{Option, None}
use Rattle.scan.specs.declared.attributes.AttributePlaces.{AttributePlaces}
use Rattle.scan.proofs.AttributeParts.{not_there}
use Rattle.prolog.specs.Ends.{Passed, past, stays}

module _ (s : List ℕ) (at : ℕ) (test : Attribute → Bool) where
  pub none-there : {r : Option AttributePlaces} → AttributeRead s at r → r ≡ None → Passed test s at at
  none-there read e = stays (not_there s at read test e)

  module _ {p : AttributePlaces} (h : AttributeThere s at p) {b : Bool}
      (b-is : b ≡ test (attribute_from s at p.name)) where
    pub one-passed : b ≡ true → Passed test s at (p.close + 1)
    one-passed e = past {r = p.close + 1} (attribute_from s at p.name) h.read (sym b-is ∙ e) (omega arith) (omega arith)

    pub one-failed : b ≡ false → Passed test s at at
    one-failed e =
        stays
        (λ a more space z read.
        ap test (sym (first-is (attribute_from s at p.name) a (attributes_of (drop (p.close + 1) s)) (sym h.read ∙ read))) ∙ sym b-is ∙ e)
