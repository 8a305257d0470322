use Rattle.record.proofs.Valid.{valid}
use Rattle.record.proofs.laws.records_valid.Goals as goal

pub returns : goal.returns
returns c = valid
