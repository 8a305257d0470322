use Rattle.merging.proofs.merging_keeps_items.Goals as goal
use Rattle.merging.proofs.Merging.{merged_keeps}

pub returns : goal.returns
returns c = merged_keeps
