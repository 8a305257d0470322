use Rattle.std.proofs.Common.{refl}
use Rattle.quantity.specs.Codes.{durations}
use Rattle.quantity.proofs.durations.table.Goals as goal

pub returns : goal.returns
unfolding durations
returns c = refl
