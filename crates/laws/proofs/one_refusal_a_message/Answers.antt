use Rattle.laws.proofs.Ending.{one_refusal}
use Rattle.laws.proofs.one_refusal_a_message.Goals as goal

pub returns : goal.returns
returns c = one_refusal
