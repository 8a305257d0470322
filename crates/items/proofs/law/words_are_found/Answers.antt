use Rattle.items.proofs.Found.{words_found}
use Rattle.items.proofs.law.words_are_found.Goals as goal

pub returns : goal.returns
returns c = words_found
