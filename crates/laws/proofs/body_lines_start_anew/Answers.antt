use Rattle.laws.proofs.Anew.{body_lines}
use Rattle.laws.proofs.body_lines_start_anew.Goals as goal

pub returns : goal.returns
returns c = body_lines
