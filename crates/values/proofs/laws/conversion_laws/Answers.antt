use Rattle.values.proofs.Near.{is_nearest, only_nearest, converts_to_nearest, converts_only}
use Rattle.values.proofs.laws.conversion_laws.Goals as goal

pub returns : goal.returns
returns c = record { nearest = converts_to_nearest; only = converts_only; rounds = is_nearest; rounds_only = only_nearest }
