use Rattle.items.proofs.Ends.{body_parted}
use Rattle.items.proofs.law.body_lines_are_parted.Goals as goal

pub returns : goal.returns
returns c = body_parted
