use Rattle.laws.proofs.Unfit.{unreadable_refused}
use Rattle.laws.proofs.unreadable_lines_are_refused_first.Goals as goal

pub returns : goal.returns
returns c = unreadable_refused
