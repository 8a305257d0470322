use Rattle.sink.proofs.Puts.{takes_in}
use Rattle.sink.proofs.laws.takes_in.Goals as goal

pub returns : goal.returns
returns g c = takes_in _
