use Rattle.reader.proofs.Joins.{lines_join}
use Rattle.reader.proofs.split.read.lines_join.Goals as goal

pub returns : goal.returns
returns c = lines_join
