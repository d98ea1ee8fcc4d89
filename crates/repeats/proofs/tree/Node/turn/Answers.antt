-- `repeats::tree::Node::turn` meets its contract. Assumes nothing.
use Rattle.std.proofs.Common.{ap, ℕ}
use Rattle.repeats.specs.Tree.{bit, has_bit}
use Rattle.repeats.proofs.Ways.{bit-small}
use Rattle.repeats.proofs.tree.Node.turn.Goals as goal

pub returns : goal.returns
unfolding has_bit
returns c =
    (ap (λ (b : ℕ). bit (has_bit b c.args.self.mask)) c.byte.ensures, bit-small (has_bit c.byte.result c.args.self.mask))
