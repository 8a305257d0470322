use Rattle.items.proofs.Places.{items_stand}
use Rattle.items.proofs.law.items_stand_in_the_text.Goals as goal

pub returns : goal.returns
returns c = items_stand
