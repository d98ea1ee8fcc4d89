-- `hands::input::hand` meets its contract. Assumes nothing.
use Rattle.hands.proofs.Within.{reports-within}
use Rattle.hands.proofs.input.hand.Goals as goal

pub print_handed-requires : goal.print_handed-requires
print_handed-requires g c = reports-within c.requires c.hand_in-handed.ensures c.hand_in-handed.auto.buffer
