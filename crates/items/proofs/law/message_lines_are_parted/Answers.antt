use Rattle.items.proofs.Parting.{message_parted}
use Rattle.items.proofs.law.message_lines_are_parted.Goals as goal

pub returns : goal.returns
returns c = message_parted
