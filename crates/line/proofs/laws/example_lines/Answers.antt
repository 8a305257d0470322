use Rattle.std.proofs.Common.{refl}
use Rattle.values.specs.Writing.{written}
use Rattle.line.specs.Lines.{line}
use Rattle.line.proofs.laws.example_lines.Goals as goal

pub returns : goal.returns
unfolding line written
returns c = (refl, refl)
