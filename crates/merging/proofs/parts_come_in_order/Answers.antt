use Rattle.merging.proofs.parts_come_in_order.Goals as goal
use Rattle.merging.proofs.Order.{parts_in_order}

pub returns : goal.returns
returns c = parts_in_order
