use Rattle.laws.proofs.FromOpening.{tables_read}
use Rattle.laws.proofs.tables_read_from_their_opening.Goals as goal

pub returns : goal.returns
returns c = tables_read
