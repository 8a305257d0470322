use Rattle.quantity.proofs.Tables.{rows_differ, variable_numbers}
use Rattle.quantity.proofs.laws.table_laws.Goals as goal

pub returns : goal.returns
returns c = record { rows = rows_differ; variable = variable_numbers }
