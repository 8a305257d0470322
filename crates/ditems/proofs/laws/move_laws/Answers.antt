use Rattle.ditems.proofs.Written.{as_written}
use Rattle.ditems.proofs.laws.move_laws.Goals as goal

pub returns : goal.returns
returns c = record { written = as_written }
