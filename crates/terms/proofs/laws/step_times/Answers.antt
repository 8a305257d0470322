use Rattle.terms.proofs.Apart.{step_times}
use Rattle.terms.proofs.laws.step_times.Goals as goal

pub returns : goal.returns
returns c = step_times
