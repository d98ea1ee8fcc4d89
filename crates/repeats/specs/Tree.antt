-- A tree that tells names apart: from node 0 on each node asks for bits of one byte of the name, and links to a node for either answer, or
-- to a leaf. A link below 13,104 is to that node, any other is a leaf. Whatever stands in the tree, a name leads to one leaf, so names that
-- lead to different ones are different (`apart`); that it was grown well has to be believed by nobody.
--     has_bit      a byte has one of the mask's bits
--     turn_of      which of its two links a name takes at a node
--     next_of      that link
--     last_of      the last node on a name's way of at most n steps
--     leaf_of      where the name's way ends
--     numbered    n attributes from a text's start on lead to the leaves i, i + 1 and so on
-- Assumes nothing.
use Rattle.std.specs.Prelude.{ℕ, zero, suc, ◌+◌, Bool, true, false, ◌&&◌, not, cond, List, [], leb, eqb, get_or}
use Rattle.std.specs.Int.Bits.{bit_and}
use Rattle.repeats.specs.Repeats.{name_in, behind}
use Rattle.repeats.specs.declared.tree.Node.{Node}

abbrev pub bit : Bool → ℕ
bit true = 1
bit false = 0

unfoldable pub has_bit : ℕ → ℕ → Bool
has_bit b mask = not (eqb (bit_and b mask) 0)

abbrev pub turn_of : Node → List ℕ → ℕ
turn_of n name = bit (has_bit (get_or name n.byte 0) n.mask)

abbrev no_node : Node
no_node = record { byte = 0; mask = 0; links = [] }

abbrev pub next_of : List Node → List ℕ → ℕ → ℕ
next_of nodes name node = let n = get_or nodes node no_node in get_or n.links (turn_of n name) 0

abbrev pub last_of : (ℕ → ℕ) → ℕ → ℕ → ℕ
last_of next zero node = node
last_of next (suc n) node = cond (leb 13_104 (next node)) node (last_of next n (next node))

abbrev pub leaf_of : List Node → ℕ → List ℕ → ℕ
leaf_of nodes n name = next_of nodes name (last_of (next_of nodes name) n 0)

abbrev pub numbered : (List ℕ → ℕ) → ℕ → ℕ → List ℕ → Bool
numbered leaf i zero s = true
numbered leaf i (suc n) s = eqb (leaf (name_in s)) i && numbered leaf (i + 1) n (behind s)
