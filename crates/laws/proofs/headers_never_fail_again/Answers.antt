use Rattle.laws.proofs.Heading.{headers_hold}
use Rattle.laws.proofs.headers_never_fail_again.Goals as goal

pub returns : goal.returns
returns c = headers_hold
