use Rattle.laws.proofs.Few.{faults_counted}
use Rattle.laws.proofs.faults_are_counted.Goals as goal

pub returns : goal.returns
returns c = faults_counted
