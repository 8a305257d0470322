use Rattle.items.proofs.Split.{items_split}
use Rattle.items.proofs.law.items_are_split.Goals as goal

pub returns : goal.returns
returns c = items_split
