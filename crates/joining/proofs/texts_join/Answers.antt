use Rattle.joining.proofs.Joining.{texts_join}
use Rattle.joining.proofs.texts_join.Goals as goal

pub returns : goal.returns
returns c = texts_join
