use Rattle.items.proofs.Breaks.{breaks_are_slashes}
use Rattle.items.proofs.law.line_breaks_are_slashes.Goals as goal

pub returns : goal.returns
returns c = breaks_are_slashes
