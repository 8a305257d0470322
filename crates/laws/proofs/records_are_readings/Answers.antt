use Rattle.laws.proofs.Totals.{records_are_readings}
use Rattle.laws.proofs.records_are_readings.Goals as goal

pub returns : goal.returns
returns c = records_are_readings
