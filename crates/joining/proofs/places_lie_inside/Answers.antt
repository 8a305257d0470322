use Rattle.joining.proofs.InsideStages.{places_inside}
use Rattle.joining.proofs.places_lie_inside.Goals as goal

pub returns : goal.returns
returns c = places_inside
