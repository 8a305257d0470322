use Rattle.instants.proofs.Moving.{moving as TheLaw}
use Rattle.instants.proofs.moves.moving.Goals as goal

pub returns : goal.returns
returns c = TheLaw
