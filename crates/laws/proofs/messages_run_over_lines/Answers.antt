use Rattle.laws.proofs.Breaking.{line_breaks}
use Rattle.laws.proofs.messages_run_over_lines.Goals as goal

pub returns : goal.returns
returns c = line_breaks
