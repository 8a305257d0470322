use Rattle.openings.proofs.Shows.{openings_shown}
use Rattle.openings.proofs.openings_show_their_fields.Goals as goal

pub returns : goal.returns
returns c = openings_shown
