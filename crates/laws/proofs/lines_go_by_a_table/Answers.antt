use Rattle.laws.proofs.Table.{line_table}
use Rattle.laws.proofs.lines_go_by_a_table.Goals as goal

pub returns : goal.returns
returns c = line_table
