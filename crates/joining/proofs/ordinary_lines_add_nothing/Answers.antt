use Rattle.joining.proofs.Ordinary.{ordinary_lines}
use Rattle.joining.proofs.ordinary_lines_add_nothing.Goals as goal

pub returns : goal.returns
returns c = ordinary_lines
