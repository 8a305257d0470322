use Rattle.messages.proofs.Kept as kept
use Rattle.messages.proofs.Refused as refused
use Rattle.messages.proofs.Small as small
use Rattle.messages.proofs.laws.item_refusals.Goals as goal

pub returns : goal.returns
returns c = record { lowest = refused.lowest; refused = refused.refused_lem; english = small.english; held = kept.held; opens = kept.opens; keeps = kept.keeps }
