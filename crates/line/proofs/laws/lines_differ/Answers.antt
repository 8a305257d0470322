use Rattle.line.proofs.Apart.{tells_apart, tells_records_apart}
use Rattle.line.proofs.Cut.{line_long}
use Rattle.line.proofs.Rows.{one_reading}
use Rattle.line.proofs.laws.lines_differ.Goals as goal

pub returns : goal.returns
returns c = record { long = line_long; apart = tells_apart; records = tells_records_apart; once = one_reading }
