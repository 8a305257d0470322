use Rattle.merging.proofs.headers_are_one_line.Goals as goal
use Rattle.merging.proofs.OneLine.{headers_are_one_line}

pub returns : goal.returns
returns c = headers_are_one_line
