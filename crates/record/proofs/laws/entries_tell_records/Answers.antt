use Rattle.record.proofs.Same.{one_record}
use Rattle.record.proofs.laws.entries_tell_records.Goals as goal

pub returns : goal.returns
returns c = one_record
