use Rattle.logging.proofs.Walking.{items_carry}
use Rattle.logging.proofs.laws.records_of_items.Goals as goal

pub returns : goal.returns
returns c = items_carry
