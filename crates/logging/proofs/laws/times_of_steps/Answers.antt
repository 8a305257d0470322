use Rattle.logging.proofs.Stepping.{steps_timed}
use Rattle.logging.proofs.laws.times_of_steps.Goals as goal

pub returns : goal.returns
returns c = steps_timed
