use Rattle.std.proofs.Common.{refl}
use Rattle.quantity.specs.Elements.{elements}
use Rattle.quantity.proofs.elements.table.Goals as goal

pub returns : goal.returns
unfolding elements
returns c = refl
