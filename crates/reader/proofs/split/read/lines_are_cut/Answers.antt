use Rattle.reader.proofs.Cuts.{lines_cut}
use Rattle.reader.proofs.split.read.lines_are_cut.Goals as goal

pub returns : goal.returns
returns c = lines_cut
