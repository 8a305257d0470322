use Rattle.laws.proofs.Idle.{lines_outside}
use Rattle.laws.proofs.lines_outside_add_nothing.Goals as goal

pub returns : goal.returns
returns c = lines_outside
