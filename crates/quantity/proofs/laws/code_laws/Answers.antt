use Rattle.quantity.proofs.Meanings.{alone, means}
use Rattle.quantity.proofs.Whole as whole
use Rattle.quantity.proofs.laws.code_laws.Goals as goal

pub returns : goal.returns
returns c = record { full = whole.full; itself = whole.itself; ends = whole.ends; letters = alone; means = means }
